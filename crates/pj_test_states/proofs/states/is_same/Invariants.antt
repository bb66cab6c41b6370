use Rattle.std.proofs.Common.{◌≡◌}
use Rattle.pj_test_states.proofs.states.is_same.Given as goal

abbrev pub invariant-loop-at : goal.invariant-loop-at
invariant-loop-at l = l.cursor ≡ l.state.rows
