-- How the forms in memory answer: which calls fail, and how many bytes a call takes.
use Rattle.std.specs.Prelude.{ℕ, Bool, List, ◌==◌}
use Rattle.std.specs.List.{list_any}
use Rattle.pj_io.specs.Causes.{counted}

-- the numbers of the calls that fail, counted from 0; the most bytes that a call takes; how many calls there were
pub record FaultPlan : Type 0 where
  pub fails : List ℕ
  pub cut : ℕ
  pub calls : ℕ

-- whether the call of a number is among those that fail
abbrev pub is_planned : List ℕ → ℕ → Bool
is_planned fails call = list_any (λ n. n == call) fails

-- a plan of which no call was made
abbrev pub fresh_plan : List ℕ → ℕ → FaultPlan
fresh_plan fails cut = record { fails = fails; cut = cut; calls = 0 }

-- whether the next call fails
abbrev pub fails_next : FaultPlan → Bool
fails_next plan = is_planned plan.fails plan.calls

-- the plan after one more call
abbrev pub after_call : FaultPlan → FaultPlan
after_call plan = record { fails = plan.fails; cut = plan.cut; calls = counted plan.calls 1 }
