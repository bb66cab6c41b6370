-- The steps that the lines of a script say over a plan, or the line of its first fault.
use Rattle.std.specs.Prelude.{ℕ, ◌+◌, ◌<◌, ◌≡◌, ⊤, Bool, true, List, [], ◌∷◌, Option, Some, None, Result, Ok, Err, if◌then◌else◌, nat_le, length, position, slice_index, codes}
use Rattle.std.specs.Str.{bytes_eq}
use Rattle.pj_line.specs.Lines.{pieces, line_of}
use Rattle.pj_line.specs.Cells.{cells_of}
use Rattle.pj_element.specs.Spelled.{number_of}
use Rattle.pj_plan.specs.declared.node.PlanNode.{PlanNode}
use Rattle.pj_plan.specs.Nodes.{inputs_of, is_join, joins_of, streams_of}
use Rattle.pj_plan.specs.Canonical.{node_at, node_name}
use Rattle.pj_plan_text.specs.PlanRead.{is_passed, is_short}
use Rattle.pj_script.specs.declared.step.ScriptStep.{ScriptStep}
use Rattle.pj_script.specs.declared.step.ScriptStep.TheVariants.{Arrive, Take, Give, Sweep, Drain}

-- ---- names

-- the node of this number has this name
abbrev pub is_called : List PlanNode → List ℕ → ℕ → Bool
is_called nodes name number = bytes_eq (node_name nodes number) name

-- the place of the node of this name among the nodes of these numbers, if it is there
abbrev pub place_called : List PlanNode → List ℕ → List ℕ → Option ℕ
place_called nodes numbers name = position (is_called nodes name) numbers

-- the number at a place, if there is a place
abbrev pub number_at : List ℕ → Option ℕ → Option ℕ
number_at numbers None = None
number_at numbers (Some place) = Some (slice_index numbers place)

-- the number of the join of this name, if it is there
abbrev pub join_called : List PlanNode → List ℕ → Option ℕ
join_called nodes name = number_at (joins_of nodes) (place_called nodes (joins_of nodes) name)

-- ---- steps

-- `take` and `drain`
abbrev pub step_alone : List ℕ → Option ScriptStep
step_alone word = if bytes_eq word (codes "take") then Some Take else (if bytes_eq word (codes "drain") then Some Drain else None)

abbrev pub arrive_at : Option ℕ → Option ScriptStep
arrive_at None = None
arrive_at (Some stream) = Some (Arrive stream)

-- `arrive STREAM`
abbrev pub step_at_stream : List PlanNode → List ℕ → List ℕ → Option ScriptStep
step_at_stream nodes word name = if bytes_eq word (codes "arrive") then arrive_at (place_called nodes (streams_of nodes) name) else None

-- the number that 1 to 19 digits spell
abbrev pub ticket_of : List ℕ → Option ℕ
ticket_of cell = if nat_le (length cell) 19 then number_of cell else None

abbrev pub give_at : ℕ → Option ℕ → Option ScriptStep
give_at join None = None
give_at join (Some ticket) = Some (Give join ticket)

abbrev pub sweep_at : ℕ → Option ℕ → Option ScriptStep
sweep_at join None = None
sweep_at join (Some input) = Some (Sweep join input)

-- `give JOIN TICKET` and `sweep JOIN INPUT`, if the join is there
abbrev pub step_at_join : List PlanNode → List ℕ → Option ℕ → List ℕ → Option ScriptStep
step_at_join nodes word None cell = None
step_at_join nodes word (Some join) cell =
    if bytes_eq word (codes "give") then give_at join (ticket_of cell)
    else (if bytes_eq word (codes "sweep") then sweep_at join (place_called nodes (inputs_of (node_at nodes join)) cell)
    else None)

-- the step that these cells are, if they are one
abbrev pub step_of : List PlanNode → List (List ℕ) → Option ScriptStep
step_of nodes (word ∷ []) = step_alone word
step_of nodes (word ∷ name ∷ []) = step_at_stream nodes word name
step_of nodes (word ∷ name ∷ cell ∷ []) = step_at_join nodes word (join_called nodes name) cell
step_of nodes _ = None

-- ---- lines

-- an unclosed line is no step
abbrev pub step_in : List PlanNode → Option (List (List ℕ)) → Option ScriptStep
step_in nodes None = None
step_in nodes (Some cells) = step_of nodes cells

-- the step that the line of a piece is, if it is one; a piece that is too long is none
abbrev pub step_on : List PlanNode → List ℕ → Option ScriptStep
step_on nodes piece = if is_short piece then step_in nodes (cells_of (line_of piece)) else None

-- the step of a line before the steps behind it; a line that is no step is the first fault
abbrev pub with_step : ℕ → Option ScriptStep → Result (List (ℕ × ScriptStep)) ℕ → Result (List (ℕ × ScriptStep)) ℕ
with_step line None behind = Err line
with_step line (Some step) (Ok steps) = Ok ((line, step) ∷ steps)
with_step line (Some step) (Err fault) = Err fault

-- the steps of these pieces, with the numbers of their lines, of which the first has this one; each counts as a line
abbrev pub script_from : List PlanNode → ℕ → List (List ℕ) → Result (List (ℕ × ScriptStep)) ℕ
script_from nodes line [] = Ok []
script_from nodes line (piece ∷ pieces) =
    if is_passed piece then script_from nodes (line + 1) pieces else with_step line (step_on nodes piece) (script_from nodes (line + 1) pieces)

-- the steps that the bytes say, each with the number of its line, or the line of the first that is neither skipped nor a step
abbrev pub script_read : List PlanNode → List ℕ → Result (List (ℕ × ScriptStep)) ℕ
script_read nodes bytes = script_from nodes 1 (pieces bytes)

-- ---- steps of a plan

-- the node of this number is a join
pub record IsJoin (nodes : List PlanNode) (join : ℕ) : Type 0 where
  pub there : join < length nodes
  pub joins : is_join (node_at nodes join) ≡ true

-- the step names a stream of the plan, or a join and an input of it
abbrev pub IsStepOf : List PlanNode → ScriptStep → Type 0
IsStepOf nodes (Arrive stream) = stream < length (streams_of nodes)
IsStepOf nodes Take = ⊤
IsStepOf nodes (Give join ticket) = IsJoin nodes join
IsStepOf nodes (Sweep join input) = IsJoin nodes join × (input < length (inputs_of (node_at nodes join)))
IsStepOf nodes Drain = ⊤

abbrev pub AreStepsOf : List PlanNode → List (ℕ × ScriptStep) → Type 0
AreStepsOf nodes [] = ⊤
AreStepsOf nodes ((line, step) ∷ steps) = IsStepOf nodes step × AreStepsOf nodes steps
