use Rattle.std.proofs.Common.{sym, arith}
use Rattle.pj_puncts.proofs.SingleCell.{cell_behind, cell_beside, cell_own}
use Rattle.pj_puncts.proofs.one_cell.value_at.Goals as goal

pub returns-then-at-count : goal.returns-then-at-count
returns-then-at-count c = sym (cell_behind c.args.count c.args.column c.args.value.now c.args.at (omega (arith, c.if-at-count.true)))

pub returns-then-at-column : goal.returns-then-at-column
returns-then-at-column c = sym (cell_beside c.args.count c.args.column c.args.value.now c.args.at c.if-at-column.true)

pub returns : goal.returns
returns c = sym (cell_own c.args.count c.args.column c.args.value.now c.args.at (omega (arith, c.if-at-count.false)) c.if-at-column.false)
