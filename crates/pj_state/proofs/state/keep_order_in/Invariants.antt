use Rattle.std.proofs.Common.{◌≡◌}
use Rattle.pj_state.proofs.state.keep_order_in.Given as goal

abbrev pub invariant-loop-at : goal.invariant-loop-at
invariant-loop-at l = l.indexes.items ≡ l.initial.indexes.items
