use Rattle.std.proofs.Common.{◌≡◌, ◌<◌, ◌∷◌, ◌++◌, [], List, ℕ, length, get_or, take, ap, sym, ◌∙◌, subst, arith, append_assoc}
use Rattle.std.specs.Option.{is_some}
use Rattle.std.proofs.lemmas.List.{get_or_default}
use Rattle.pj_value.specs.declared.values.Value.{Value}
use Rattle.pj_state.specs.States.{pairs, rows_below}
use Rattle.pj_state.specs.Stores.{rows_at}
use Rattle.pj_state.specs.declared.places.Place.{Place}
use Rattle.pj_state.proofs.Slots.{IsHeld, below-passed, below-taken, held-place}
use Rattle.pj_state.proofs.Near.{item-there}
use Rattle.pj_state.proofs.store.append_below.Goals as goal
use Rattle.pj_state.proofs.store.append_below.Goals.{then-place-ticket+in_ok-row+in_ok-push, else-place-ticket}

pub index-requires : goal.index-requires
index-requires c =
    let none : Place = record { ticket = 0; key = 0 } in
    let there : c.loop-at.at < length c.args.block.now = omega (arith, c.loop-at-test.true, c.len-at-end.ensures) in
    let is : c.at-place.result ≡ get_or c.args.block.now c.loop-at.at none =
    item-there c.args.block.now c.loop-at.at c.at-place.result there c.at-place.ensures ∙ get_or_default c.args.block.now c.loop-at.at c.at-place.result none there in
    ap is_some (subst (IsHeld c.args.slab.now.slots) (sym is) (held-place c.args.slab.now.slots c.args.block.now c.loop-at.at none c.requires there)).1

pub loop-at-preserved : goal.loop-at-preserved
loop-at-preserved c =
    let slots = c.args.slab.now.slots in
    let places = c.args.block.now in
    let i = c.loop-at.at in
    let p : Place = c.at-place.result in
    let there : i < length places = omega (arith, c.loop-at-test.true, c.len-at-end.ensures) in
    let is : p ≡ get_or places i p = item-there places i p there c.at-place.ensures in
    elim c.if-place-ticket.branch [
      | then-place-ticket+in_ok-row+in_ok-push w ↦
          let before = pairs (rows_below c.args.ticket (rows_at slots (take i places))) in
          w.found-is
          ∙ (w.in_ok-push.ensures.ok
          ∙ (ap (λ (xs : List (ℕ × List Value)). xs ++ (p.ticket, w.in_ok-row.row) ∷ []) c.loop-at.invariant
          ∙ (append_assoc c.args.found.now before ((p.ticket, w.in_ok-row.row) ∷ [])
          ∙ ap (λ (xs : List (ℕ × List Value)). c.args.found.now ++ xs)
          (ap (λ (row : List Value). before ++ (p.ticket, row) ∷ []) w.in_ok-row.ensures
          ∙ sym (below-taken slots c.args.ticket i places p w.index.result.now there is w.index.ensures w.if-place-ticket.true)))))
      | else-place-ticket w ↦
          w.found-is ∙ (c.loop-at.invariant ∙ ap (λ (xs : List (ℕ × List Value)). c.args.found.now ++ xs) (sym (below-passed slots c.args.ticket i places p there is w.if-place-ticket.false)))
    ]
