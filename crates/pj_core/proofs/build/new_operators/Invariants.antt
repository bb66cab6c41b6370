use Rattle.std.proofs.Common.{true}
use Rattle.pj_core.specs.Plans.{run_plan}
use Rattle.pj_core.proofs.Makes.{MadeSoFar}
use Rattle.pj_core.proofs.build.new_operators.Given as goal

abbrev pub invariant-loop-number : goal.invariant-loop-number
invariant-loop-number l = MadeSoFar (run_plan l.plan.nodes l.certs true) l.limit l.operators.items l.joins l.number
