use Rattle.pj_algebra.proofs.Sums.{IsSum}
use Rattle.pj_algebra.proofs.aggregates.sum.Given as goal

abbrev pub invariant-loop-value : goal.invariant-loop-value
invariant-loop-value l = IsSum l.values l.value-index l.sum
