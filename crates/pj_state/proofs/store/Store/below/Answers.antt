use Rattle.std.proofs.Common.{◌≡◌, List, ◌++◌, ℕ, take, get_or, ap, sym, ◌∙◌, subst}
use Rattle.pj_value.specs.declared.values.Value.{Value}
use Rattle.pj_state.specs.States.{pairs, rows_below}
use Rattle.pj_state.specs.Stores.{AreHeld, flat, rows_at}
use Rattle.pj_state.specs.declared.places.Place.{Place}
use Rattle.pj_state.proofs.Blocks.{flat-take}
use Rattle.pj_state.proofs.Slots.{below-append, held-block}
use Rattle.pj_state.proofs.store.Store.below.Goals as goal

pub append_below-requires : goal.append_below-requires
append_below-requires c =
    let slots = c.self.inside.slab.slots in
    let blocks = c.blocks-block-items.result.now in
    subst (AreHeld slots) (sym c.block-item.is)
    (held-block slots blocks c.loop-block.block-index c.block-item.result (subst (AreHeld slots) (sym c.blocks-block-items.ensures) c.self.invariant.held) c.loop-block-test.true)

pub loop-block-preserved : goal.loop-block-preserved
loop-block-preserved c =
    let slots = c.self.inside.slab.slots in
    let blocks = c.blocks-block-items.result.now in
    let i = c.loop-block.block-index in
    let b = c.block-item.result in
    let is : b ≡ get_or blocks i b = c.block-item.is in
    c.in_ok-append_below.ensures
    ∙ (ap (λ (xs : List (ℕ × List Value)). xs ++ pairs (rows_below c.args.ticket (rows_at slots b))) c.loop-block.invariant
    ∙ sym (ap (λ (ps : List Place). pairs (rows_below c.args.ticket (rows_at slots ps))) (flat-take blocks i b c.loop-block-test.true is) ∙ below-append slots c.args.ticket (flat (take i blocks)) b))
