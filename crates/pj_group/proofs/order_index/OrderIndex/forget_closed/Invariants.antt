use Rattle.pj_group.specs.Orders.{IsOrderOf}
use Rattle.pj_group.proofs.order_index.OrderIndex.forget_closed.Given as goal

abbrev pub invariant-loop-place : goal.invariant-loop-place
invariant-loop-place l = IsOrderOf l.column l.slots.entries l.self
