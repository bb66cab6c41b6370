use Rattle.std.proofs.Common.{◌≡◌, [], ◌∷◌}
use Rattle.pj_test_states.proofs.states.put_all.Given as goal

abbrev pub invariant-loop-ticket : goal.invariant-loop-ticket
invariant-loop-ticket l = l.state.columns ≡ 0 ∷ 1 ∷ []
