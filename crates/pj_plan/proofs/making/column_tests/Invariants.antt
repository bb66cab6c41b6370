use Rattle.std.proofs.Common.{◌≡◌, ◌++◌, drop, map}
use Rattle.pj_plan.specs.Made.{column_test}
use Rattle.pj_plan.proofs.making.column_tests.Given as goal

abbrev pub invariant-loop-column : goal.invariant-loop-column
invariant-loop-column l = l.patterns ++ map (column_test l.tests) (drop l.column-index l.columns) ≡ map (column_test l.tests) l.columns
