use Rattle.std.proofs.Common.{◌≡◌, ◌+◌, ◌-◌, List, ap, drop, sym, ◌∙◌, subst, arith}
use Rattle.std.specs.Prelude.{slice_get}
use Rattle.pj_state.specs.Stores.{flat}
use Rattle.pj_state.specs.declared.places.Place.{Place}
use Rattle.pj_state.proofs.Blocks.{nth-behind, nth-end, nth-here}
use Rattle.pj_state.proofs.places.Places.nth.Goals as goal

pub returns-then-left-len : goal.returns-then-left-len
returns-then-left-len c =
    let blocks = c.deref-block-items.result.now in
    ap (λ (ps : List Place). slice_get ps c.args.at) (sym c.self.view_is ∙ ap flat (sym c.deref-block-items.ensures.value))
    ∙ (c.loop-block.invariant
    ∙ nth-here blocks c.loop-block.block-index c.loop-block.left c.block-item.result c.at.result c.loop-block-test.true c.block-item.is (omega (arith, c.if-left-len.true, c.len.ensures)) c.at.ensures)

pub loop-block-preserved : goal.loop-block-preserved
loop-block-preserved c =
    let blocks = c.deref-block-items.result.now in
    subst (λ n. slice_get (flat blocks) c.args.at ≡ slice_get (flat (drop (c.loop-block.block-index + 1) blocks)) (c.loop-block.left - n)) (sym c.len-left.ensures)
    (nth-behind blocks c.loop-block.block-index c.args.at c.loop-block.left c.block-item.result c.loop-block.invariant c.loop-block-test.true c.block-item.is
    (omega (arith, c.if-left-len.false, c.len.ensures)))

pub returns : goal.returns
returns c =
    absurd (nth-end c.deref-block-items.result.now c.args.self.now c.loop-block.block-index c.args.at c.loop-block.left (record { ticket = 0; key = 0 })
    (ap flat c.deref-block-items.ensures.value ∙ c.self.view_is) c.requires c.loop-block.invariant c.loop-block-test.false)
