use Rattle.std.proofs.Common.{◌≡◌}
use Rattle.pj_recheck.proofs.orders.keep_orders.Given as goal

abbrev pub invariant-loop-order : goal.invariant-loop-order
invariant-loop-order l = l.row_states.items ≡ l.initial.row_states.items
