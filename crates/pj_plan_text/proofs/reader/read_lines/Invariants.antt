use Rattle.std.proofs.Common.{length}
use Rattle.pj_plan_text.proofs.PlanLines.{LinesSoFar}
use Rattle.pj_plan_text.proofs.reader.read_lines.Given as goal

abbrev pub invariant-loop-rest : goal.invariant-loop-rest
invariant-loop-rest l = LinesSoFar l.fn.bytes l.statements l.line l.rest

abbrev pub decreases-loop-rest : goal.decreases-loop-rest
decreases-loop-rest l = length l.rest
