-- Worked scripts over the plan of an auction, computed.
use Rattle.std.specs.Prelude.{◌≡◌, true, List, [], ◌∷◌, Ok, Err, codes}
use Rattle.pj_value.specs.declared.values.Kind.TheVariants.{Int}
use Rattle.pj_shape.specs.declared.columns.Column.{Column}
use Rattle.pj_plan.specs.declared.node.Node.TheVariants.{Stream, Join}
use Rattle.pj_plan.specs.declared.node.PlanNode.{PlanNode}
use Rattle.pj_script.specs.declared.step.ScriptStep.TheVariants.{Arrive, Take, Give, Sweep}
use Rattle.pj_script.specs.Reading.{script_read}

-- a column that both streams have
abbrev pub item : Column
item = record { name = codes "item"; kind = Int }

-- items and the bids for them
abbrev pub auction : List PlanNode
auction =
    record { name = codes "items"; schema = item ∷ []; node = Stream ((true ∷ []) ∷ []) }
    ∷ record { name = codes "bids"; schema = item ∷ []; node = Stream ((true ∷ []) ∷ []) }
    ∷ record {
      name = codes "j";
      schema = item ∷ item ∷ [];
      node = Join (0 ∷ 1 ∷ [])
          (record {
            inputs = (item ∷ []) ∷ (item ∷ []) ∷ [];
            classes = (record { input = 0; column = 0 } ∷ record { input = 1; column = 0 } ∷ []) ∷ [];
          });
    }
    ∷ []

-- a line that is skipped counts
abbrev pub StepsAreNumbered : Type 0
StepsAreNumbered =
    script_read auction (codes "arrive items\ntake\n# note\ngive j 0\n") ≡ Ok ((1, Arrive 0) ∷ (2, Take) ∷ (4, Give 2 0) ∷ [])

-- an input is told by its name
abbrev pub InputsAreNamed : Type 0
InputsAreNamed = script_read auction (codes "\tsweep j bids\r\n") ≡ Ok ((1, Sweep 2 1) ∷ [])

-- no stream has the name; the node of the name is no join, or no input
abbrev pub NamesAreThere : Type 0
NamesAreThere =
    (script_read auction (codes "arrive q") ≡ Err 1) × (script_read auction (codes "\ngive bids 0\n") ≡ Err 2)
    × (script_read auction (codes "take\ndrain\nsweep j j") ≡ Err 3)
