use Rattle.std.proofs.Common.{rules, ℕ, sym, ap, ◌∙◌, ⊎_elim, inl, inr, slice_get, length, ◌++◌, ◌∷◌, [], option_to_list}
use mathlib.Core.Option.{some}
use lib.ListN.{get_elem?}
use Rattle.atomic_table.proofs.Lists.{at_longer}
use Rattle.pj_turn.specs.Rule.{all_pairs}
use Rattle.pj_turn.proofs.Joins.{joins, pairs_joined, get_snoc, get_front, get_last, no_length, at_end}
use Rattle.pj_turn.proofs.turn.Turn.gather.Goals as goal

pub join_seat-requires : goal.join_seat-requires
join_seat-requires g c =
    let i = c.loop-seat.invariant in
    let idle = c.in-Some.field-0.idle in
    let items = c.pop.ensures.items ∙ ap (λ o. c.pop.new.self.items ++ option_to_list o) c.in-Some.is in
    let here = ap (λ l. slice_get l (length c.pop.new.self.items)) items ∙ get_last c.pop.new.self.items c.in-Some.field-0 in (
      i.0 ∙ c.requires.name,
      c.requires.others _ _ (i.6 _ _ here),
      no_length _ idle.4,
      search rules,
      joins _ _ _ _ _ _ _ i.1 i.2 i.3 i.4 idle.0 idle.1 idle.2,
    )

pub loop-seat-preserved : goal.loop-seat-preserved
loop-seat-preserved g c =
    let i = c.loop-seat.invariant in
    let v = c.loop-seat.first.me.0 in
    let w = c.in-Some.field-0.seat.me.0 in
    let new = c.join_seat.new.seat.me.0 in
    let is = ap (λ m. m.0) c.join_seat.ensures.2 in
    let pairs = ap all_pairs is ∙ pairs_joined v w in
    let items = c.pop.ensures.items ∙ ap (λ o. c.pop.new.self.items ++ option_to_list o) c.in-Some.is in (
      c.join_seat.ensures.0 ∙ i.0,
      ap (λ k. k.live) is ∙ i.1,
      ap (λ k. k.waits) is ∙ i.2,
      ap (λ k. k.turn) is ∙ i.3,
      ap (λ k. k.number) is ∙ i.4,
      ap (λ l. get_elem? l 0) pairs ∙ at_longer (all_pairs v) ((w.number, w.seen) ∷ []) 0 _ i.5,
      (λ k s e. i.6 k s (ap (λ l. slice_get l k) items ∙ get_front c.pop.new.self.items (c.in-Some.field-0 ∷ []) s k e)),
      (λ k s e. ⊎_elim
          (λ old. ⊎_elim
          (λ still. inl still)
          (λ same. inr (length (all_pairs v), ap (λ l. get_elem? l (length (all_pairs v))) pairs ∙ (at_end (all_pairs v) (w.number, w.seen) ∙ (ap (λ (n : ℕ). some (n, w.seen)) c.in-Some.field-0.idle.5 ∙ ap (λ x. some (x.number, x.seat.me.0.seen)) same.1))))
          (get_snoc c.pop.new.self.items c.in-Some.field-0 s k (sym (ap (λ l. slice_get l k) items) ∙ old)))
          (λ t. inr (t.0, ap (λ l. get_elem? l t.0) pairs ∙ at_longer (all_pairs v) ((w.number, w.seen) ∷ []) t.0 _ t.1))
          (i.7 k s e)),
    )
