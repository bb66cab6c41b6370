use Rattle.std.proofs.Common.{◌≡◌, ◌∷◌, ◌++◌, [], Some, arith}
use Rattle.std.proofs.lemmas.Grind.{common_steps}
use Rattle.pj_plan_text.specs.CellWords.{named_agg_of}
use Rattle.pj_plan_text.proofs.CellLoops.{item_good}
use Rattle.pj_plan_text.proofs.lists.read_aggs.Goals as goal

pub loop-rest-preserved : goal.loop-rest-preserved
loop-rest-preserved c =
    let said : Some c.in-Some.agg ≡ named_agg_of c.cell-item.result = cc (c.in_ok-agg.ensures, c.cell.view_is) in
    let pushed : c.push.new.self ≡ c.loop-rest.aggs ++ c.in-Some.agg ∷ [] = c.in_ok-push-in-Some.ensures.ok in
    first_of (grind (arith, common_steps, item_good named_agg_of), grind (arith, common_steps, item_good))
