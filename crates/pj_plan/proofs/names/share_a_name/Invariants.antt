use Rattle.std.proofs.Common.{◌≡◌, length}
use Rattle.pj_plan.specs.Faults.{share_a_name}
use Rattle.pj_plan.proofs.names.share_a_name.Given as goal

abbrev pub invariant-loop-rest : goal.invariant-loop-rest
invariant-loop-rest l = share_a_name l.fn.columns ≡ share_a_name l.rest

abbrev pub decreases-loop-rest : goal.decreases-loop-rest
decreases-loop-rest l = length l.rest
