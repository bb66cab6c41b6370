use Rattle.std.proofs.Common.{◌≡◌, length}
use Rattle.pj_plan.specs.Faults.{share_a_column}
use Rattle.pj_plan.proofs.checks.share_a_column.Given as goal

abbrev pub invariant-loop-rest : goal.invariant-loop-rest
invariant-loop-rest l = share_a_column l.fn.classes ≡ share_a_column l.rest

abbrev pub decreases-loop-rest : goal.decreases-loop-rest
decreases-loop-rest l = length l.rest
