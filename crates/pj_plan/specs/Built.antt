-- The plan that statements make, or its first fault.
use Rattle.std.specs.Prelude.{ℕ, List, [], ◌∷◌, Option, Some, None, Result, Ok, Err}
use Rattle.pj_plan.specs.declared.fault.PlanWhy.{PlanWhy}
use Rattle.pj_plan.specs.declared.fault.PlanWhy.TheVariants.{NotAPlan, Output}
use Rattle.pj_plan.specs.declared.fault.PlanFault.{PlanFault}
use Rattle.pj_plan.specs.declared.node.PlanNode.{PlanNode}
use Rattle.pj_plan.specs.declared.node.Outline.{Outline}
use Rattle.pj_plan.specs.declared.node.Draft.{Draft}
use Rattle.pj_plan.specs.declared.statement.Stated.{Stated}
use Rattle.pj_plan.specs.Made.{after}
use Rattle.pj_plan.specs.Faults.{fault_of}

-- nothing is declared
abbrev pub no_draft : Draft
no_draft = record { version = None; nodes = []; output = None }

abbrev pub fault_at : ℕ → PlanWhy → Result Outline PlanFault
fault_at line why = Err (record { line = line; why = why })

abbrev pub with_output : ℕ → ℕ → List PlanNode → Option ℕ → Result Outline PlanFault
with_output end version nodes None = fault_at end Output
with_output end version nodes (Some output) = Ok (record { version = version; nodes = nodes })

-- where there is no statement it is not a plan, and where there is no `output` that is the fault, at the line after the last
abbrev pub ended : Option ℕ → Draft → ℕ → Result Outline PlanFault
ended None draft end = fault_at end NotAPlan
ended (Some version) draft end = with_output end version draft.nodes draft.output

-- what these statements make behind what is declared, where the first of them has this fault or none
abbrev pub built_if : Option PlanWhy → ℕ → Result Outline PlanFault → Result Outline PlanFault
built_if None line rest = rest
built_if (Some why) line rest = fault_at line why

-- the plan that these statements make behind what is declared; or the first line with a fault, and its lowest
abbrev pub built_from : Draft → List Stated → ℕ → Result Outline PlanFault
built_from draft [] end = ended draft.version draft end
built_from draft (stated ∷ rest) end = built_if (fault_of draft stated.what) stated.line (built_from (after draft stated.what) rest end)

-- the plan that the statements make, or its first fault; `end` is the number of lines and one more
abbrev pub built : List Stated → ℕ → Result Outline PlanFault
built statements end = built_from no_draft statements end
