use Rattle.pj_events.specs.Operators.{greatest_from}
use Rattle.pj_algebra.proofs.Sums.{greatest_next}
use Rattle.pj_algebra.proofs.aggregates.greatest_from.Goals as goal

pub loop-value-preserved : goal.loop-value-preserved
loop-value-preserved c =
    greatest_next c.args.others.now c.loop-value.value-index c.value-item.result c.loop-value.greatest.now c.greater-greatest.result.now (greatest_from c.args.first.now c.args.others.now) c.loop-value-test.true c.value-item.is c.greater-greatest.ensures c.loop-value.invariant
