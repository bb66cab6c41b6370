use Rattle.std.proofs.Common.{◌≡◌, drop, map}
use Rattle.std.specs.List.{list_any}
use Rattle.pj_plan.specs.Faults.{has_no_column}
use Rattle.pj_plan.proofs.checks.tests_unknown.Given as goal

abbrev pub invariant-loop-test : goal.invariant-loop-test
invariant-loop-test l = list_any (has_no_column l.columns) (map (λ test. test.column) l.tests) ≡ list_any (has_no_column l.columns) (map (λ test. test.column) (drop l.test-index l.tests))
