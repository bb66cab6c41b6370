use Rattle.std.proofs.Common.{ℕ, ◌≡◌, Bool, List, Option, Some, None, sym, ap, ◌∙◌}
use Rattle.pj_graph.specs.Search.{step_of}
use Rattle.pj_graph.proofs.Steps.{step_passed, step_taken}
use Rattle.pj_graph.proofs.search.first_step.Goals as goal

pub loop-input-preserved : goal.loop-input-preserved
loop-input-preserved c =
    let step : step_of c.args.bound.now c.args.known.now c.loop-input.input c.index-table-input.result c.at.result.now ≡ None =
    ap (λ (ns : List (Option ℕ)). step_of c.args.bound.now c.args.known.now c.loop-input.input ns c.at.result.now) (sym c.as_slice.ensures)
    ∙ ap (λ (list : List (List Bool)). step_of c.args.bound.now c.args.known.now c.loop-input.input c.as_slice.result.now list) (sym c.as_slice-list.ensures)
    ∙ sym c.step_of.ensures ∙ c.in-None.is in
    c.loop-input.invariant
    ∙ step_passed c.args.bound.now c.args.known.now c.loop-input.input c.args.table.now c.args.schemes.now c.index-table-input.result c.at.result.now
    c.loop-input-test.true c.index-table-input.is c.at.ensures step

pub returns-in-Some : goal.returns-in-Some
returns-in-Some c =
    let step : step_of c.args.bound.now c.args.known.now c.loop-input.input c.index-table-input.result c.at.result.now ≡ Some c.in-Some.step =
    ap (λ (ns : List (Option ℕ)). step_of c.args.bound.now c.args.known.now c.loop-input.input ns c.at.result.now) (sym c.as_slice.ensures)
    ∙ ap (λ (list : List (List Bool)). step_of c.args.bound.now c.args.known.now c.loop-input.input c.as_slice.result.now list) (sym c.as_slice-list.ensures)
    ∙ sym c.step_of.ensures ∙ c.in-Some.is in
    sym (c.loop-input.invariant
    ∙ step_taken c.args.bound.now c.args.known.now c.loop-input.input c.args.table.now c.args.schemes.now c.index-table-input.result c.at.result.now c.in-Some.step
    c.loop-input-test.true c.index-table-input.is c.at.ensures step)
