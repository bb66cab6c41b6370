use Rattle.std.proofs.Common.{arith}
use Rattle.pj_recheck.proofs.compiling.Path.stops.Goals as goal

pub loop-at-preserved : goal.loop-at-preserved
loop-at-preserved c = (c.in_ok-add_stop.ensures.stops c.args.entry (omega (arith, c.loop-at-test.true)) c.loop-at.invariant.0, c.in_ok-add_stop.ensures.fit c.loop-at.invariant.1)
