use Rattle.std.proofs.Common.{List, Bool, [], ◌∷◌, ◌++◌, take, sym, ap, ◌∙◌, subst, refl, arith}
use Rattle.std.proofs.lemmas.List.{take_all, take_more}
use Rattle.std.proofs.lemmas.Option.{get_or_from_slice_get, slice_get_within}
use Rattle.pj_events.specs.Patterns.{Pattern}
use Rattle.pj_flow.specs.Stored.{IsSample, IsSampleOf}
use Rattle.pj_flow.proofs.Sampling.{sample_count, sample_more, sample_wide}
use Rattle.pj_flow.proofs.sample.sample_of.Goals as goal

pub loop-column-preserved : goal.loop-column-preserved
loop-column-preserved c =
    subst (λ (ps : List Pattern). IsSample ps c.take_cell.new.marks c.take_cell.new.values) (sym (take_more c.args.punct.now c.loop-column.column c.at.result.now (slice_get_within c.args.punct.now c.loop-column.column c.at.result.now c.at.ensures)
    ∙ ap (λ (p : Pattern). take c.loop-column.column c.args.punct.now ++ p ∷ []) (get_or_from_slice_get c.args.punct.now c.loop-column.column c.at.result.now c.at.result.now c.at.ensures)))
    (sample_more (take c.loop-column.column c.args.punct.now) c.loop-column.marks c.loop-column.values c.at.result.now c.take_cell.new.marks c.take_cell.new.values c.loop-column.invariant (c.if-not-take_cell.ensures refl))

pub returns : goal.returns
returns c =
    let whole : IsSample c.args.punct.now c.loop-column.marks c.loop-column.values = subst (λ (ps : List Pattern). IsSample ps c.loop-column.marks c.loop-column.values) (take_all c.loop-column.column c.args.punct.now (omega (arith, c.loop-column-test.false, c.len-column-end.ensures))) c.loop-column.invariant in
    subst (λ (marks : List Bool). IsSampleOf c.args.arity c.args.punct.now (record { scheme = marks; values = c.loop-column.values })) (sym c.of.ensures)
    (record { wide = sample_wide c.args.punct.now c.loop-column.marks c.loop-column.values whole ∙ (sym c.len.ensures ∙ c.if-len-arity.false); count = sample_count c.args.punct.now c.loop-column.marks c.loop-column.values whole; matched = whole })
