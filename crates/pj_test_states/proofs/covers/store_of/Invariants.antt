use Rattle.std.proofs.Common.{◌≡◌}
use Rattle.pj_puncts.specs.Stores.{IsAbove}
use Rattle.pj_test_states.proofs.covers.store_of.Given as goal

abbrev pub invariant-loop-number : goal.invariant-loop-number
invariant-loop-number l = record {
  above : IsAbove l.next l.store.kept;
  arity : l.store.arity ≡ l.arity;
}
