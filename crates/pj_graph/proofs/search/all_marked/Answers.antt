use Rattle.std.proofs.Common.{◌+◌, Bool, ◌&&◌, drop, sym, ap, ◌∙◌, arith}
use Rattle.pj_graph.specs.Search.{all_marked}
use Rattle.pj_graph.proofs.Steps.{marked_on, marked_end}
use Rattle.pj_graph.proofs.search.all_marked.Goals as goal

pub returns-then-not-is_met : goal.returns-then-not-is_met
returns-then-not-is_met c =
    let columns = c.min-columns.ensures in
    sym (c.loop-column.invariant
    ∙ marked_on c.args.bound.now c.args.numbers.now c.args.scheme.now c.loop-column.column c.at.result.now (omega arith) c.at.ensures
    ∙ ap (λ (b : Bool). b && all_marked c.args.bound.now (drop (c.loop-column.column + 1) c.args.numbers.now) (drop (c.loop-column.column + 1) c.args.scheme.now)) (sym c.is_met.ensures ∙ c.if-not-is_met.true))

pub returns : goal.returns
returns c =
    let columns = c.min-columns.ensures in
    sym (c.loop-column.invariant ∙ marked_end c.args.bound.now c.args.numbers.now c.args.scheme.now c.loop-column.column (omega arith))

pub loop-column-preserved : goal.loop-column-preserved
loop-column-preserved c =
    let columns = c.min-columns.ensures in
    c.loop-column.invariant
    ∙ marked_on c.args.bound.now c.args.numbers.now c.args.scheme.now c.loop-column.column c.at.result.now (omega arith) c.at.ensures
    ∙ ap (λ (b : Bool). b && all_marked c.args.bound.now (drop (c.loop-column.column + 1) c.args.numbers.now) (drop (c.loop-column.column + 1) c.args.scheme.now)) (sym c.is_met.ensures ∙ c.if-not-is_met.false)
