-- A join of three inputs, for the tests.
use Rattle.std.specs.Prelude.{ℕ, ◌≡◌, Bool, true, false, List, [], ◌∷◌, codes}
use Rattle.pj_value.specs.declared.values.Kind.TheVariants.{Int}
use Rattle.pj_shape.specs.declared.columns.Column.{Column}
use Rattle.pj_shape.specs.declared.joins.ClassCol.{ClassCol}
use Rattle.pj_shape.specs.declared.joins.JoinSpec.{JoinSpec}
use Rattle.pj_graph.specs.declared.answers.Reach.TheVariants.{All, Stuck}
use Rattle.pj_graph.specs.Saturation.{reach_of, step_by}

abbrev pub number : Column
number = record { name = codes "n"; kind = Int }

abbrev pub pair : List Column
pair = number ∷ number ∷ []

abbrev pub pairs : List (List Column)
pairs = pair ∷ pair ∷ pair ∷ []

abbrev pub at : ℕ → ℕ → ClassCol
at input column = record { input = input; column = column }

abbrev pub firsts : List ClassCol
firsts = at 0 0 ∷ at 1 0 ∷ at 2 0 ∷ []

abbrev pub seconds : List ClassCol
seconds = at 1 1 ∷ at 2 1 ∷ []

-- the first columns are equal, and the second columns of the last two
abbrev pub sample : JoinSpec
sample = record { inputs = pairs; classes = firsts ∷ seconds ∷ [] }

-- the first input has a scheme that is of no use and one of its first column, the second one of both, the third this one
abbrev pub sample_schemes : Bool → Bool → List (List (List Bool))
sample_schemes a b =
    ((false ∷ true ∷ []) ∷ (true ∷ false ∷ []) ∷ []) ∷ ((true ∷ true ∷ []) ∷ []) ∷ ((a ∷ b ∷ []) ∷ []) ∷ []

-- the first input reaches all by the third and then the second; where the third has another scheme it reaches itself alone
abbrev pub SampleReaches : Type 0
SampleReaches =
    (reach_of sample (sample_schemes true false) 0 ≡ All (step_by 2 0 ∷ step_by 1 0 ∷ []))
    × (reach_of sample (sample_schemes false true) 0 ≡ Stuck (0 ∷ []) 1)
