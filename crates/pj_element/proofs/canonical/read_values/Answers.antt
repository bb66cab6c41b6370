use Rattle.std.proofs.Common.{List, ◌+◌, rules, subst, sym}
use Rattle.pj_value.specs.declared.values.Value.{Value}
use Rattle.pj_element.proofs.CanonicalCells.{ValuesSoFar, values_more}
use Rattle.pj_element.proofs.canonical.read_values.Goals as goal

pub loop-column-preserved : goal.loop-column-preserved
loop-column-preserved c =
    subst (λ (values : List Value). ValuesSoFar c.args.columns.now c.args.cells.now (c.loop-column.column-index + 1) c.in-Some.end values) (sym (c.in_ok-push-in-Some.ensures.ok))
    (values_more c.args.columns.now c.args.cells.now c.loop-column.column-index c.loop-column.at c.in-Some.end c.loop-column.values c.column-item.result c.in-Some.value c.loop-column.invariant c.loop-column-test.true c.column-item.is (search rules) (search rules))
