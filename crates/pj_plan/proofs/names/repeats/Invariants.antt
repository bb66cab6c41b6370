use Rattle.std.proofs.Common.{◌≡◌, length}
use Rattle.pj_plan.specs.Words.{repeats}
use Rattle.pj_plan.proofs.names.repeats.Given as goal

abbrev pub invariant-loop-rest : goal.invariant-loop-rest
invariant-loop-rest l = repeats l.fn.names ≡ repeats l.rest

abbrev pub decreases-loop-rest : goal.decreases-loop-rest
decreases-loop-rest l = length l.rest
