use Rattle.std.proofs.Common.{length}
use Rattle.pj_plan_text.proofs.Parting.{PartsSoFar}
use Rattle.pj_plan_text.proofs.cuts.parts.Given as goal

abbrev pub invariant-loop-front : goal.invariant-loop-front
invariant-loop-front l = PartsSoFar l.mark l.fn.bytes l.parts l.rest

abbrev pub decreases-loop-front : goal.decreases-loop-front
decreases-loop-front l = length l.rest
