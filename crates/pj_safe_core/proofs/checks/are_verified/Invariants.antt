use Rattle.pj_safe_core.proofs.OneByOne.{FirstVerified}
use Rattle.pj_safe_core.proofs.checks.are_verified.Given as goal

abbrev pub invariant-loop-place : goal.invariant-loop-place
invariant-loop-place l = FirstVerified l.plan.nodes l.certs l.place
