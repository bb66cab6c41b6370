use Rattle.std.proofs.Common.{◌+◌, arith}
use Rattle.pj_group.proofs.Bounds.{table_weaker}
use Rattle.pj_group.proofs.closing.close.Goals as goal

pub returns-in_ok-hand_out-in-Some-clause-states : goal.returns-in_ok-hand_out-in-Some-clause-states
returns-in_ok-hand_out-in-Some-clause-states c =
    table_weaker c.args.count (c.args.count + 1) c.args.spec.now c.drop_closed.new.slots.entries (omega arith) (c.drop_closed.ensures.states c.args.count c.args.spec.now c.requires.states)
