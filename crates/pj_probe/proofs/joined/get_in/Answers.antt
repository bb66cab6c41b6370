use Rattle.std.proofs.Common.{◌<◌, ◌≤◌, length, sym}
use Rattle.pj_probe.proofs.Columns.{none-behind, value-behind, value-here}
use Rattle.pj_probe.proofs.joined.get_in.Goals as goal

pub returns-then-left-len : goal.returns-then-left-len
returns-then-left-len c =
    let below : c.loop-part.left < length c.row_in-row.result.now = rw (← c.len.ensures) c.if-left-len.true in
    sym (value-here c.args.rows.now c.loop-part.part c.args.column c.loop-part.left c.row_in-row.result.now c.at.result.now c.loop-part.invariant c.row_in-row.ensures below c.at.ensures)

pub loop-part-preserved : goal.loop-part-preserved
loop-part-preserved c =
    let behind : length c.row_in-row.result.now ≤ c.loop-part.left = rw (← c.len.ensures) c.if-left-len.false in
    rw (c.len-left.ensures) (value-behind c.args.rows.now c.loop-part.part c.args.column c.loop-part.left c.row_in-row.result.now c.loop-part.invariant c.row_in-row.ensures behind)

pub returns : goal.returns
returns c = sym (none-behind c.args.rows.now c.loop-part.part c.args.column c.loop-part.left c.loop-part.invariant c.loop-part-test.false)
