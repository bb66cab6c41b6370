use Rattle.std.proofs.Common.{◌≡◌, ◌∷◌, ◌++◌, [], Some, arith}
use Rattle.std.proofs.lemmas.Grind.{common_steps}
use Rattle.pj_plan_text.specs.CellWords.{test_of}
use Rattle.pj_plan_text.proofs.CellLoops.{pair_good}
use Rattle.pj_plan_text.proofs.lists.read_tests.Goals as goal

pub loop-rest-preserved : goal.loop-rest-preserved
loop-rest-preserved c =
    let said : Some c.in-Some.test ≡ test_of c.column-item.result c.cell-item.result = cc (c.in_ok-test.ensures, c.cell.view_is, c.column.view_is) in
    let pushed : c.push.new.self ≡ c.loop-rest.tests ++ c.in-Some.test ∷ [] = c.in_ok-push-in-Some.ensures.ok in
    grind (arith, common_steps, pair_good)
