use Rattle.std.proofs.Common.{Some, ap, sym, ◌∙◌, arith}
use Rattle.std.specs.List.{slice_get}
use Rattle.pj_puncts.proofs.Cellwise.{free_cell, marked_cell, no_cell}
use Rattle.pj_puncts.proofs.cells.instance_cell.Goals as goal

pub returns-then-column-len : goal.returns-then-column-len
returns-then-column-len c = sym (no_cell c.args.scheme.now c.args.given.now c.args.column (omega (arith, c.if-column-len.true, c.len.ensures)))

pub returns-then-not-at : goal.returns-then-not-at
returns-then-not-at c = sym (free_cell c.args.scheme.now c.args.given.now c.args.column (c.at.ensures ∙ ap Some c.if-not-at.true))

pub returns : goal.returns
returns c = c.get.ensures ∙ (ap (slice_get c.args.given.now) c.marks_before.ensures ∙ sym (marked_cell c.args.scheme.now c.args.given.now c.args.column (c.at.ensures ∙ ap Some c.if-not-at.false)))
