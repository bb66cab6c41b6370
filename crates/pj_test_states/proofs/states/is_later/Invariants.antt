use Rattle.std.proofs.Common.{ℕ, ◌<◌, get_or}
use Rattle.pj_state.specs.declared.shared.Stored.{Stored}
use Rattle.pj_test_states.proofs.states.is_later.Given as goal

abbrev pub invariant-loop-at : goal.invariant-loop-at
invariant-loop-at l = (k : ℕ) (d : Stored) → k < l.at → (get_or l.state.rows k d).ticket < l.ticket
