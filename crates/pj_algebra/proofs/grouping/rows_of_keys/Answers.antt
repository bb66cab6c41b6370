use Rattle.pj_events.specs.Operators.{group_row}
use Rattle.pj_algebra.proofs.DistinctKeys.{mapped_more}
use Rattle.pj_algebra.proofs.grouping.rows_of_keys.Goals as goal

pub loop-key-preserved : goal.loop-key-preserved
loop-key-preserved c =
    mapped_more (group_row c.args.spec.now c.args.rows.now) c.args.keys.now c.loop-key.key-index c.key-item.result c.loop-key.made c.push.new.self c.in_ok-group_row.field-0 c.loop-key-test.true c.key-item.is c.loop-key.invariant c.in_ok-group_row.ensures c.in_ok-push.ensures.ok
