use Rattle.pj_state.proofs.Orders.{IsOrderTo}
use Rattle.pj_state.proofs.numbers.order_of.Given as goal

abbrev pub invariant-loop-at : goal.invariant-loop-at
invariant-loop-at l = IsOrderTo l.numbers.entries l.order l.at
