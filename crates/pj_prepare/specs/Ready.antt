-- What is ready to be done of a call once its plan was read, if it names one.
use Rattle.std.specs.Prelude.{ℕ, ◌≡◌, Bool, [], ◌∷◌, length, None}
use Rattle.pj_plan.specs.declared.node.Outline.{Outline}
use Rattle.pj_plan.specs.Nodes.{streams_of}
use Rattle.pj_safety.specs.Safety.{IsSafePlan}
use Rattle.pj_run.specs.Runs.{IsNewCore}
use Rattle.pj_prepare.specs.declared.calls.Prepared.{Prepared}
use Rattle.pj_prepare.specs.declared.calls.Ready.{Ready}
use Rattle.pj_prepare.specs.declared.calls.Ready.TheVariants.{Run, Check, Make}
use Rattle.pj_prepare.specs.Calls.{checking, making, Call, HasToldPlan, file_names, operand, plan_bytes}
use Rattle.pj_prepare.specs.Plans.{outline_in, IsAsked, SpellsPlan}
use Rattle.pj_prepare.specs.Refusals.{IsRun}
use Rattle.pj_words.specs.Request.{IsMake as IsMakeable}

-- a core of the plan that the call names, with a stream for each file, to be run as the call asks
pub record IsRunReady (ready : Prepared) (call : Call) : Type 0 where
  pub fresh : IsNewCore ready.core
  pub safe : IsSafePlan ready.core.plan.nodes
  pub form : IsRun call
  pub count : length (file_names call) ≡ length (streams_of ready.core.plan.nodes)
  pub asked : IsAsked call.options ready
  pub read : HasToldPlan call → SpellsPlan (plan_bytes call) (outline_in ready.core)

-- the plan that the call names, to be checked
pub record IsCheckReady (plan : Outline) (print : Bool) (call : Call) : Type 0 where
  pub task : call.task ≡ checking print
  pub named : call.names ≡ operand call.names 1 ∷ []
  pub bare : call.script ≡ None
  pub read : HasToldPlan call → SpellsPlan (plan_bytes call) plan

-- an input is to be made, from a seed and of a number of items that can be; no file is asked for
pub record IsMakeReady (seed count : ℕ) (call : Call) : Type 0 where
  pub task : call.task ≡ making seed count
  pub named : call.names ≡ []
  pub bare : call.script ≡ None
  pub few : IsMakeable seed count

abbrev pub IsReadyFor : Call → Ready → Type 0
IsReadyFor call (Run ready) = IsRunReady ready call
IsReadyFor call (Check plan print) = IsCheckReady plan print call
IsReadyFor call (Make seed count) = IsMakeReady seed count call
