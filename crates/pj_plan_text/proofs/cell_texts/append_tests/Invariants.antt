use Rattle.std.proofs.Common.{◌≡◌, ◌++◌, drop}
use Rattle.pj_plan_text.specs.Spelling.{each_behind, test_cells}
use Rattle.pj_plan_text.proofs.cell_texts.append_tests.Given as goal

abbrev pub invariant-loop-test : goal.invariant-loop-test
invariant-loop-test l = l.out ++ each_behind 32 (test_cells (drop l.test-index l.tests)) ≡ l.fn.out ++ each_behind 32 (test_cells l.tests)
