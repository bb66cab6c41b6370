use Rattle.std.proofs.Common.{ap, sym, ◌∙◌}
use Rattle.pj_value.specs.Parts.{flat_parts}
use Rattle.pj_value.proofs.PartValues.{value_here, value_behind}
use Rattle.pj_value.proofs.joined.JoinedParts.get.Goals as goal

pub returns-then-left-values : goal.returns-then-left-values
returns-then-left-values c =
    sym (value_here c.as_slice-part-items.result.now c.args.self.now c.loop-part.part-index c.args.at c.loop-part.left c.part-item.result c.as_slice-values.result.now c.index-values-left.result
    (sym c.self.view_is ∙ ap flat_parts (sym c.as_slice-part-items.ensures)) c.loop-part.invariant c.loop-part-test.true c.part-item.is (c.as_slice-values.ensures ∙ c.deref.ensures) c.if-left-values.true c.index-values-left.is)

pub loop-part-preserved : goal.loop-part-preserved
loop-part-preserved c =
    value_behind c.as_slice-part-items.result.now c.loop-part.part-index c.args.at c.loop-part.left c.part-item.result c.as_slice-values.result.now
    c.loop-part.invariant c.loop-part-test.true c.part-item.is (c.as_slice-values.ensures ∙ c.deref.ensures) c.if-left-values.false
