use Rattle.std.proofs.Common.{true, false, Some, ap, sym, ◌∙◌}
use Rattle.pj_puncts.specs.Givens.{none_marked}
use Rattle.pj_puncts.proofs.Lent.{drop_here}
use Rattle.pj_puncts.proofs.one_cell.none_marked_from.Goals as goal

pub returns-then-at : goal.returns-then-at
returns-then-at c = sym (c.loop-column.invariant ∙ ap none_marked (drop_here c.args.scheme.now c.loop-column.column true (c.at.ensures ∙ ap Some c.if-at.true)))

pub loop-column-preserved : goal.loop-column-preserved
loop-column-preserved c = c.loop-column.invariant ∙ ap none_marked (drop_here c.args.scheme.now c.loop-column.column false (c.at.ensures ∙ ap Some c.if-at.false))
