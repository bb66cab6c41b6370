use Rattle.std.proofs.Common.{◌≡◌, drop}
use Rattle.pj_plan.specs.Faults.{are_alike}
use Rattle.pj_plan.proofs.checks.are_alike.Given as goal

abbrev pub invariant-loop-at : goal.invariant-loop-at
invariant-loop-at l = are_alike l.columns l.others ≡ are_alike (drop l.at l.columns) (drop l.at l.others)
