use Rattle.std.proofs.Common.{◌∙◌}
use Rattle.pj_state.proofs.Next.{set-own}
use Rattle.pj_state.proofs.state.keep_order_in.Goals as goal

pub returns-then-columns-at : goal.returns-then-columns-at
returns-then-columns-at c = set-own c.loop-at.indexes.items c.loop-at.at c.index_mut.result.now c.keep_order.new.self c.index_mut.ensures.value c.keep_order.ensures ∙ c.loop-at.invariant
