use Rattle.std.proofs.Common.{length}
use Rattle.pj_element.proofs.Splits.{ValuesSoFar}
use Rattle.pj_element.proofs.forms.read_values.Given as goal

abbrev pub invariant-loop-values : goal.invariant-loop-values
invariant-loop-values l = ValuesSoFar l.bytes l.values l.rest

abbrev pub decreases-loop-values : goal.decreases-loop-values
decreases-loop-values l = length l.rest
