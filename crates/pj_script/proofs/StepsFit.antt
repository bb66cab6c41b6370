-- The steps that a script says are steps of the plan.
use Rattle.std.proofs.Common.{◌≡◌, ℕ, ◌+◌, ◌<◌, Bool, true, false, List, [], ◌∷◌, Option, Some, None, Ok, Err, length, get_or, refl, subst}
use Rattle.std.specs.Prelude.{Result, if◌then◌else◌, codes}
use Rattle.std.specs.Str.{bytes_eq}
use Rattle.std.proofs.lemmas.Option.{none-some}
use Rattle.std.proofs.lemmas.List.Quantifiers.{position-Some}
use Rattle.pj_line.specs.Lines.{pieces, line_of}
use Rattle.pj_line.specs.Cells.{cells_of}
use Rattle.pj_plan.specs.declared.node.PlanNode.{PlanNode}
use Rattle.pj_plan.specs.Nodes.{inputs_of, joins_of, streams_of}
use Rattle.pj_plan.specs.Canonical.{node_at}
use Rattle.pj_plan_text.specs.PlanRead.{is_passed, is_short}
use Rattle.pj_script.specs.declared.step.ScriptStep.{ScriptStep}
use Rattle.pj_script.specs.declared.step.ScriptStep.TheVariants.{Arrive, Take, Give, Sweep, Drain}
use Rattle.pj_script.specs.Reading.{arrive_at, AreStepsOf, give_at, is_called, IsJoin, IsStepOf, join_called, number_at, place_called, script_from, step_alone, step_at_join, step_at_stream, step_in, step_of, step_on, sweep_at, ticket_of, with_step}
use Rattle.pj_script.proofs.Numbers.{joins_are}
use Rattle.pj_script.proofs.ScriptLines.{ReadSoFar, reading_ends}

-- ---- names

place_there : (nodes : List PlanNode) (numbers name : List ℕ) (place : ℕ) → place_called nodes numbers name ≡ Some place → place < length numbers
place_there nodes numbers name place is = (position-Some (is_called nodes name) numbers place 0 is).0

join_there : (nodes : List PlanNode) (name : List ℕ) (join : ℕ) → join_called nodes name ≡ Some join → IsJoin nodes join
join_there nodes name join is = go (place_called nodes (joins_of nodes) name) refl is
  where
    go : (o : Option ℕ) → place_called nodes (joins_of nodes) name ≡ o → number_at (joins_of nodes) o ≡ Some join → IsJoin nodes join
    go None at said = absurd (none-some join said)
    go (Some place) at said =
        let same : get_or (joins_of nodes) place 0 ≡ join = cc said in
        subst (λ (n : ℕ). IsJoin nodes n) same (joins_are nodes (joins_of nodes) place refl (place_there nodes (joins_of nodes) name place at))

-- ---- steps

alone_fits : (nodes : List PlanNode) (word : List ℕ) (step : ScriptStep) → step_alone word ≡ Some step → IsStepOf nodes step
alone_fits nodes word step is = go (bytes_eq word (codes "take")) (bytes_eq word (codes "drain")) is
  where
    go : (t d : Bool) → (if t then Some Take else (if d then Some Drain else None)) ≡ Some step → IsStepOf nodes step
    go true d said = let same : Take ≡ step = cc said in subst (λ (s : ScriptStep). IsStepOf nodes s) same tt
    go false true said = let same : Drain ≡ step = cc said in subst (λ (s : ScriptStep). IsStepOf nodes s) same tt
    go false false said = absurd (none-some step said)

arrival_fits : (nodes : List PlanNode) (word name : List ℕ) (step : ScriptStep) → step_at_stream nodes word name ≡ Some step → IsStepOf nodes step
arrival_fits nodes word name step is = go (bytes_eq word (codes "arrive")) (place_called nodes (streams_of nodes) name) refl is
  where
    go : (b : Bool) (o : Option ℕ) → place_called nodes (streams_of nodes) name ≡ o → (if b then arrive_at o else None) ≡ Some step → IsStepOf nodes step
    go true None at said = absurd (none-some step said)
    go true (Some stream) at said =
        let same : Arrive stream ≡ step = cc said in subst (λ (s : ScriptStep). IsStepOf nodes s) same (place_there nodes (streams_of nodes) name stream at)
    go false o at said = absurd (none-some step said)

give_fits : (nodes : List PlanNode) (join : ℕ) (o : Option ℕ) (step : ScriptStep) → IsJoin nodes join → give_at join o ≡ Some step → IsStepOf nodes step
give_fits nodes join None step there said = absurd (none-some step said)
give_fits nodes join (Some ticket) step there said = let same : Give join ticket ≡ step = cc said in subst (λ (s : ScriptStep). IsStepOf nodes s) same there

sweep_fits : (nodes : List PlanNode) (join : ℕ) (name : List ℕ) (o : Option ℕ) (step : ScriptStep) → IsJoin nodes join → place_called nodes (inputs_of (node_at nodes join)) name ≡ o → sweep_at join o ≡ Some step → IsStepOf nodes step
sweep_fits nodes join name None step there at said = absurd (none-some step said)
sweep_fits nodes join name (Some input) step there at said =
    let same : Sweep join input ≡ step = cc said in
    subst (λ (s : ScriptStep). IsStepOf nodes s) same (there, place_there nodes (inputs_of (node_at nodes join)) name input at)

at_join_fits : (nodes : List PlanNode) (word cell : List ℕ) (o : Option ℕ) (step : ScriptStep) → ((join : ℕ) → o ≡ Some join → IsJoin nodes join) → step_at_join nodes word o cell ≡ Some step → IsStepOf nodes step
at_join_fits nodes word cell None step there said = absurd (none-some step said)
at_join_fits nodes word cell (Some join) step there is = go (bytes_eq word (codes "give")) (bytes_eq word (codes "sweep")) is
  where
    go : (g s : Bool) → (if g then give_at join (ticket_of cell) else (if s then sweep_at join (place_called nodes (inputs_of (node_at nodes join)) cell) else None)) ≡ Some step → IsStepOf nodes step
    go true s said = give_fits nodes join (ticket_of cell) step (there join refl) said
    go false true said = sweep_fits nodes join cell (place_called nodes (inputs_of (node_at nodes join)) cell) step (there join refl) refl said
    go false false said = absurd (none-some step said)

cells_fit : (nodes : List PlanNode) (cells : List (List ℕ)) (step : ScriptStep) → step_of nodes cells ≡ Some step → IsStepOf nodes step
cells_fit nodes [] step is = absurd (none-some step is)
cells_fit nodes (word ∷ []) step is = alone_fits nodes word step is
cells_fit nodes (word ∷ name ∷ []) step is = arrival_fits nodes word name step is
cells_fit nodes (word ∷ name ∷ cell ∷ []) step is = at_join_fits nodes word cell (join_called nodes name) step (join_there nodes name) is
cells_fit nodes (word ∷ name ∷ cell ∷ more ∷ cells) step is = absurd (none-some step is)

-- ---- lines

step_fits : (nodes : List PlanNode) (piece : List ℕ) (step : ScriptStep) → step_on nodes piece ≡ Some step → IsStepOf nodes step
step_fits nodes piece step is = go (is_short piece) (cells_of (line_of piece)) is
  where
    go : (b : Bool) (o : Option (List (List ℕ))) → (if b then step_in nodes o else None) ≡ Some step → IsStepOf nodes step
    go true None said = absurd (none-some step said)
    go true (Some cells) said = cells_fit nodes cells step said
    go false o said = absurd (none-some step said)

fit_from : (nodes : List PlanNode) (line : ℕ) (ps : List (List ℕ)) (steps : List (ℕ × ScriptStep)) → script_from nodes line ps ≡ Ok steps → AreStepsOf nodes steps
fit_from nodes line [] steps is = let none : [] ≡ steps = cc is in subst (λ (l : List (ℕ × ScriptStep)). AreStepsOf nodes l) none tt
fit_from nodes line (piece ∷ ps) steps is = go (is_passed piece) (step_on nodes piece) (script_from nodes (line + 1) ps) (step_fits nodes piece) (fit_from nodes (line + 1) ps) is
  where
    go : (b : Bool) (o : Option ScriptStep) (behind : Result (List (ℕ × ScriptStep)) ℕ) → ((step : ScriptStep) → o ≡ Some step → IsStepOf nodes step)
        → ((more : List (ℕ × ScriptStep)) → behind ≡ Ok more → AreStepsOf nodes more) → (if b then behind else with_step line o behind) ≡ Ok steps → AreStepsOf nodes steps
    go true o behind here later said = later steps said
    go false None behind here later said = absurd (cc said)
    go false (Some step) (Ok more) here later said =
        let same : (line, step) ∷ more ≡ steps = cc said in subst (λ (l : List (ℕ × ScriptStep)). AreStepsOf nodes l) same (here step refl, later more refl)
    go false (Some step) (Err fault) here later said = absurd (cc said)

pub steps_fit : (nodes : List PlanNode) (bytes rest : List ℕ) (done : List (ℕ × ScriptStep)) (line : ℕ) → ReadSoFar nodes bytes done line rest → rest ≡ [] → AreStepsOf nodes done
steps_fit nodes bytes rest done line so end = fit_from nodes 1 (pieces bytes) done (reading_ends nodes bytes rest done line so end)
