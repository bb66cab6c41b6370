use Rattle.std.proofs.Common.{arith}
use Rattle.pj_group.proofs.Shutting.{rows_so_far}
use Rattle.pj_group.proofs.handing.append_rows.Goals as goal

pub loop-at-preserved : goal.loop-at-preserved
loop-at-preserved c =
    rows_so_far c.args.kept.now c.args.slots.now.entries c.loop-at.at c.args.out.now c.loop-at.out c.append_at.new.out (omega (arith, c.loop-at-test.true, c.len-at-end.ensures.len)) c.loop-at.invariant
    c.in_ok-append_at.ensures.ok
