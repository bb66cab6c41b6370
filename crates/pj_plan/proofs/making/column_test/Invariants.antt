use Rattle.std.proofs.Common.{◌≡◌, true, false, drop}
use Rattle.pj_plan.specs.Made.{met_with, column_kind}
use Rattle.pj_pattern.specs.Patterns.{is_of_kind}
use Rattle.pj_pattern.specs.declared.pattern.Form.TheVariants.{Wild}
use Rattle.std.specs.List.{list_any}
use Rattle.pj_plan.specs.Faults.{misses_its_kind}
use Rattle.pj_plan.proofs.making.column_test.Given as goal

abbrev pub invariant-loop-test : goal.invariant-loop-test
invariant-loop-test l = (met_with l.pattern l.name (drop l.test-index l.tests) ≡ met_with Wild l.name l.tests) × (is_of_kind (column_kind l.columns l.name) l.pattern ≡ true) × (list_any (misses_its_kind l.columns) (drop l.test-index l.tests) ≡ false)
