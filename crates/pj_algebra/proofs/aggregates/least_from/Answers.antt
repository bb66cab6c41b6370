use Rattle.pj_events.specs.Operators.{least_from}
use Rattle.pj_algebra.proofs.Sums.{least_next}
use Rattle.pj_algebra.proofs.aggregates.least_from.Goals as goal

pub loop-value-preserved : goal.loop-value-preserved
loop-value-preserved c =
    least_next c.args.others.now c.loop-value.value-index c.value-item.result c.loop-value.least.now c.lesser-least.result.now (least_from c.args.first.now c.args.others.now) c.loop-value-test.true c.value-item.is c.lesser-least.ensures c.loop-value.invariant
