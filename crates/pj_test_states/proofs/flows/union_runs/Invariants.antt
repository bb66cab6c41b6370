use Rattle.std.proofs.Common.{◌≡◌}
use Rattle.pj_test_states.proofs.flows.union_runs.Given as goal

abbrev pub invariant-loop-one : goal.invariant-loop-one
invariant-loop-one l = record {
  inputs : l.union.inputs ≡ l.inputs;
  arity : l.union.arity ≡ 1;
}
