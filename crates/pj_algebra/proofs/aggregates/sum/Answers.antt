use mir.Syntax.{w128}
use Rattle.std.proofs.Common.{arith, to_z, of_z, ◌+ℤ◌}
use Rattle.std.proofs.lemmas.Int.{ints}
use Rattle.pj_algebra.proofs.Sums.{sum_next}
use Rattle.pj_algebra.proofs.aggregates.sum.Goals as goal

pub loop-value-preserved : goal.loop-value-preserved
loop-value-preserved c =
    sum_next c.args.values.now c.loop-value.value-index c.value-item.result (to_z w128 c.loop-value.sum-bits) c.number_of.result (to_z w128 (of_z w128 (to_z w128 c.loop-value.sum-bits +ℤ to_z w128 (of_z w128 c.from-sum.result))))
    c.loop-value.invariant c.loop-value-test.true c.value-item.is c.number_of.ensures (omega (arith, ints)) (omega (arith, ints)) (omega (arith, ints))
