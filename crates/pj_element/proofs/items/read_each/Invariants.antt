use Rattle.std.proofs.Common.{drop}
use Rattle.pj_element.proofs.Columns.{ItemsSoFar}
use Rattle.pj_element.proofs.items.read_each.Given as goal

abbrev pub invariant-loop-at : goal.invariant-loop-at
invariant-loop-at g l = ItemsSoFar g.T.Item.item_in l.columns (drop l.first l.cells) l.at l.items
