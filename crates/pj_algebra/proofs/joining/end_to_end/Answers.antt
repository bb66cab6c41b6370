use Rattle.pj_algebra.proofs.Combinations.{row_joined}
use Rattle.pj_algebra.proofs.joining.end_to_end.Goals as goal

pub loop-row-preserved : goal.loop-row-preserved
loop-row-preserved c = row_joined c.args.rows.now c.loop-row.row-index c.row-item.result c.loop-row.parts c.join_to.new.parts c.loop-row-test.true c.row-item.is c.loop-row.invariant c.in_ok-join_to.ensures.ok
