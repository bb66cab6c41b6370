-- The plan that the bytes of a file spell.
use Rattle.std.specs.Prelude.{ℕ, ◌≡◌, ◌≤◌, List, Option, Some, None, Result, Ok, Err, length}
use Rattle.pj_plan.specs.declared.fault.PlanFault.{PlanFault}
use Rattle.pj_plan.specs.declared.node.Outline.{Outline}
use Rattle.pj_plan_text.specs.PlanRead.{plan_read}
use Rattle.pj_core.specs.Cores.{CoreState}
use Rattle.pj_prepare.specs.declared.calls.Options.{Options}
use Rattle.pj_prepare.specs.declared.calls.Prepared.{Prepared}

abbrev pub plan_if : Result Outline PlanFault → Option Outline
plan_if (Ok plan) = Some plan
plan_if (Err fault) = None

-- the plan that a core runs; there is one version
abbrev pub outline_in : CoreState → Outline
outline_in core = record { version = 1; nodes = core.plan.nodes }

-- the plan that the bytes spell, if they spell one without fault
abbrev pub plan_of : List ℕ → Option Outline
plan_of bytes = plan_if (plan_read bytes)

-- what is ready is run and written as the options say
pub record IsAsked (options : Options) (ready : Prepared) : Type 0 where
  pub traced : ready.core.plan.trace ≡ options.trace
  pub limited : ready.core.limit ≡ options.limit
  pub formed : ready.writing.form ≡ options.form
  pub checked : ready.writing.check ≡ options.check

-- the bytes spell this plan, and are few enough
abbrev pub SpellsPlan : List ℕ → Outline → Type 0
SpellsPlan bytes plan = (plan_of bytes ≡ Some plan) × (length bytes ≤ 1048576)
