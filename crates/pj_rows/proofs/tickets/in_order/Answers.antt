use Rattle.std.proofs.Common.{refl}
use Rattle.pj_rows.proofs.Rising.{in_order_all, in_order_rises}
use Rattle.pj_rows.proofs.tickets.in_order.Goals as goal

pub returns-then-len-gt1-clause-rising : goal.returns-then-len-gt1-clause-rising
returns-then-len-gt1-clause-rising c = in_order_rises _ _ c.dedup.new.self.items refl c.sort_unstable.ensures.sorted c.dedup.ensures.filtered

pub returns-then-len-gt1-clause-all : goal.returns-then-len-gt1-clause-all
returns-then-len-gt1-clause-all c = in_order_all _ c.args.list _ c.dedup.new.self.items refl (rw (← c.into_vec-tickets.ensures) c.sort_unstable.ensures.permutation) c.dedup.ensures.filtered
