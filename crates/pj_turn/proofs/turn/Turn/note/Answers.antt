use Rattle.std.proofs.Common.{rules}
use mathlib.Core.Option.{none}
use Rattle.atomic_table.specs.Table.{step}
use Rattle.pj_turn.proofs.Steps.{notes}
use Rattle.pj_turn.proofs.turn.Turn.note.Goals as goal

pub fetch_add-requires : goal.fetch_add-requires
fetch_add-requires g c =
    let turn = c.requires.turn in
    let seat = c.args.seat.now in
    let e = (g.A.Act.meaning c.args._act.now.value).entry seat.me.0.number seat.me.0.seen c.args._answer.now in
    (search rules, search rules, rw c.requires.entries (notes _ _ _ _ _ _ (step 0 0 0 0 none) e turn.0 turn.1 turn.2 turn.3 c.requires.by_seat c.requires.keeps))
