use Rattle.std.proofs.Common.{List, ◌+◌, sym, subst}
use Rattle.pj_state.specs.declared.index.ValueIndex.{ValueIndex}
use Rattle.pj_state.proofs.Empty.{AreEmpty, empty-more}
use Rattle.pj_state.proofs.state.empty_indexes.Goals as goal

pub loop-column-preserved : goal.loop-column-preserved
loop-column-preserved c =
    subst (λ (xs : List ValueIndex). AreEmpty xs (c.loop-column.column-index + 1)) (sym c.in_ok-push.ensures.items)
    (empty-more c.loop-column.indexes.items c.loop-column.column-index c.new.result c.loop-column.invariant c.new.ensures)
