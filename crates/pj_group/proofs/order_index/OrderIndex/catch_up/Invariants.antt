use Rattle.std.proofs.Common.{◌≡◌}
use Rattle.pj_group.specs.Orders.{IsOrderOf}
use Rattle.pj_group.proofs.order_index.OrderIndex.catch_up.Given as goal

abbrev pub invariant-loop-at : goal.invariant-loop-at
invariant-loop-at l = record { upto : l.self.upto ≡ l.at; same : IsOrderOf l.column l.slots.entries l.self }
