use Rattle.pj_events.specs.Join.{ClassCol}
use Rattle.pj_probe.proofs.Checked.{below_more}
use Rattle.pj_probe.proofs.checks.first_below.Goals as goal

abbrev none : ClassCol
none = record { input = 0; column = 0 }

pub loop-at-preserved : goal.loop-at-preserved
loop-at-preserved c = below_more c.args.class.now c.loop-at.at-index c.args.limit none c.loop-at-test.true c.if-at-limit.false c.loop-at.invariant
