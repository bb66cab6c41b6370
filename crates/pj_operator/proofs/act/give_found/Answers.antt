use Rattle.pj_operator.proofs.Changes.{give_stop, may-gave}
use Rattle.pj_operator.proofs.Emits.{may-these, stops-these}
use Rattle.pj_operator.proofs.act.give_found.Goals as goal

pub emit_each-requires-clause-may : goal.emit_each-requires-clause-may
emit_each-requires-clause-may c =
    may-these _ _ _ _ c.of_rows.ensures
    (may-gave c.args.operators.now c.give_at.new.operators c.args.probe c.args.rows c.join-from.result c.requires.may c.give_at.ensures.frames c.give_at.ensures.orderly c.join-from.ensures)

pub returns-in-Err-clause-err : goal.returns-in-Err-clause-err
returns-in-Err-clause-err c =
    give_stop c.args.operators.now c.give_at.new.operators c.args.probe c.args.rows c.join-from.result c.in-Err.stop c.give_at.ensures.gives c.join-from.ensures (stops-these _ _ _ _ _ c.of_rows.ensures c.in-Err.ensures.err)
