use Rattle.std.proofs.Common.{List, [], ◌∷◌, ◌++◌, ◌≡◌, map, ◌∙◌, ap, ap₂}
use Rattle.pj_value.specs.declared.values.Value.{Value}
use Rattle.pj_algebra.specs.Answers.{list_of}
use Rattle.pj_algebra.specs.Evaluating.{completions}
use Rattle.pj_algebra.proofs.Combinations.{row_completed, rows_again}
use Rattle.pj_algebra.proofs.joining.+complete.Goals as goal

pub loop-row-preserved : goal.loop-row-preserved
loop-row-preserved t c =
    let lists = map (list_of c.args.lists.now) c.in-Some.others.now in
    let pushed : c.push-in-loop-row.new.self ≡ c.args.rows.now ++ c.row-item.result ∷ [] =
    c.in_ok-push-in-Some.ensures.ok ∙ ap₂ (λ (rows : List (List Value)) (row : List Value). rows ++ row ∷ []) c.loop-row.invariant.0 c.in_ok-copy-in-Some.ensures in (
      rows_again c.args.rows.now c.complete.new.rows c.truncate.new.self c.row-item.result c.len-count.result c.len-count.ensures (c.in_ok-complete-in-Some.ensures.rows ∙ pushed) c.truncate.ensures,
      row_completed c.args.classes.now c.args.rows.now lists c.rows_of-row-items.result.now c.args.out.now c.loop-row.out c.complete.new.out c.loop-row.row-index c.row-item.result c.loop-row-test.true c.row-item.is c.loop-row.invariant.1
          (c.in_ok-complete-in-Some.ensures.out ∙ ap (λ (rows : List (List Value)). c.loop-row.out ++ completions c.args.classes.now rows lists) pushed),
    )
