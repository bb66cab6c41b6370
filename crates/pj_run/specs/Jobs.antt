-- What is run.
use Rattle.std.specs.Prelude.{◌≡◌, ℕ, Bool, List, Option, Some}
use Rattle.pj_plan.specs.declared.node.PlanNode.{PlanNode}
use Rattle.pj_report.specs.declared.writer.Form.{Form}
use Rattle.pj_script.specs.declared.step.ScriptStep.{ScriptStep}

-- The nodes of a plan; whether the rows that sweeps remove are noted; how many elements may come to a join or a group; the steps of a
-- script, each with its line, if one is played first; the form in which results are written; and whether the report has the line of a
-- check
pub record Job : Type 0 where
  pub nodes : List PlanNode
  pub trace : Bool
  pub limit : ℕ
  pub script : Option (List (ℕ × ScriptStep))
  pub form : Form
  pub check : Bool

-- a script is played first
abbrev pub HasScript : Job → Type 0
HasScript job = (steps : List (ℕ × ScriptStep)) × (job.script ≡ Some steps)
