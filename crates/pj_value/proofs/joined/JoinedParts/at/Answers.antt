use Rattle.std.proofs.Common.{ap, sym, ◌∙◌}
use Rattle.pj_value.specs.Parts.{flat_parts}
use Rattle.pj_value.proofs.PartValues.{part_there, still_within, value_here, value_behind}
use Rattle.pj_value.proofs.joined.JoinedParts.at.Goals as goal

pub returns-then-left-values : goal.returns-then-left-values
returns-then-left-values c =
    value_here c.as_slice-parts.result.now c.args.self.now c.loop-left.part c.args.at c.loop-left.left c.index-parts-part.result c.as_slice-values.result.now c.index-values-left.result
    (sym c.self.view_is ∙ ap flat_parts (sym c.as_slice-parts.ensures)) c.loop-left.invariant.0 (part_there c.as_slice-parts.result.now c.loop-left.part c.loop-left.left c.loop-left.invariant.1) c.index-parts-part.is (c.as_slice-values.ensures ∙ c.deref.ensures) c.if-left-values.true c.index-values-left.is

pub loop-left-preserved : goal.loop-left-preserved
loop-left-preserved c =
    let there = part_there c.as_slice-parts.result.now c.loop-left.part c.loop-left.left c.loop-left.invariant.1 in (
      value_behind c.as_slice-parts.result.now c.loop-left.part c.args.at c.loop-left.left c.index-parts-part.result c.as_slice-values.result.now
          c.loop-left.invariant.0 there c.index-parts-part.is (c.as_slice-values.ensures ∙ c.deref.ensures) c.if-left-values.false,
      still_within c.as_slice-parts.result.now c.loop-left.part c.loop-left.left c.index-parts-part.result c.as_slice-values.result.now
          c.loop-left.invariant.1 there c.index-parts-part.is (c.as_slice-values.ensures ∙ c.deref.ensures) c.if-left-values.false,
    )
