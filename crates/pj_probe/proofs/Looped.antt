-- What the loops of a join cite.
use Rattle.std.proofs.Common.{ℕ, zero, suc, ◌+◌, ◌<◌, ◌≤◌, Bool, true, false, cond, ◌||◌, List, [], ◌∷◌, ◌++◌, ◌≡◌, Some, map, filter, take, length, get_or, refl, sym, ap, ◌∙◌, subst, eqb, ltb, arith, append_assoc}
use Rattle.std.specs.List.{slice_get}
use Rattle.std.proofs.lemmas.Bool.{and_parts, eqb-true, false_from_ne_true, ltb-true}
use Rattle.std.proofs.lemmas.List.{map-append, take_more}
use Rattle.std.proofs.lemmas.List.Elements.{filter-append}
use Rattle.std.proofs.lemmas.Option.{get_or_from_slice_get, slice_get_within}
use Rattle.pj_value.proofs.Members.{filter_map_swap}
use Rattle.pj_state.specs.declared.shared.Stored.{Stored}
use Rattle.pj_state.specs.States.{ticket_of}
use Rattle.pj_state.specs.Rising.{AllAbove, IsRising}
use Rattle.pj_events.specs.declared.events.Out.{Out}
use Rattle.pj_events.specs.declared.events.Out.TheVariants.{Tuple}
use Rattle.pj_events.specs.Join.{ClassCol, TupleAt, Value}
use Rattle.pj_probe.specs.Walks.{sides_at, tuple_at}
use Rattle.pj_probe.specs.Results.{older_agrees, pair_of, pairs_out}
use Rattle.pj_rows.specs.Tuples.{tuple_in}
use Rattle.pj_probe.specs.Choices.{IsNarrowed, may_join, older_joins}
use Rattle.pj_rows.specs.AgreesWith.{agrees_with}

-- behind one that has at least this number none passes
pub picked_stop : {A : Type 0} (p : A → Bool) (number : A → ℕ) (low : ℕ) (xs : List A) (i : ℕ) (x : A) → IsRising number xs → ((y : A) → p y ≡ true → number y < low) → slice_get xs i ≡ Some x → low ≤ number x → filter p (take i xs) ≡ filter p xs
picked_stop {A} p number low xs i x rising below at le = go xs i rising at
  where
    none : (n : ℕ) (ys : List A) → low ≤ n → AllAbove number n ys → filter p ys ≡ []
    none n [] l above = refl
    none n (y ∷ ys) l above = ap (λ b. cond b (y ∷ filter p ys) (filter p ys)) (false_from_ne_true (p y) (λ t. let b = below y t in omega (arith, b, l, above.0))) ∙ none n ys l above.1

    go : (ys : List A) (k : ℕ) → IsRising number ys → slice_get ys k ≡ Some x → filter p (take k ys) ≡ filter p ys
    go [] zero r e = refl
    go [] (suc k) r e = refl
    go (y ∷ ys) zero r e =
        let same : y ≡ x = get_or_from_slice_get (y ∷ ys) 0 x x e in
        let l : low ≤ number y = subst (λ (z : A). low ≤ number z) (sym same) le in
        sym (ap (λ b. cond b (y ∷ filter p ys) (filter p ys)) (false_from_ne_true (p y) (λ t. let b = below y t in omega (arith, b, l))) ∙ none (number y) ys l r.0)
    go (y ∷ ys) (suc k) r e = pick (p y) (go ys k r.1 e)
      where
        pick : (b : Bool) → filter p (take k ys) ≡ filter p ys → cond b (y ∷ filter p (take k ys)) (filter p (take k ys)) ≡ cond b (y ∷ filter p ys) (filter p ys)
        pick true ih = ap (λ (zs : List A). y ∷ zs) ih
        pick false ih = ih

-- ---- pairs

pub pairs_more : (classes : List (List ClassCol)) (own : TupleAt) (input : ℕ) (rows : List Stored) (i : ℕ) (s : Stored) (first outs outs' : List Out) → slice_get rows i ≡ Some s
    → outs ≡ first ++ pairs_out classes own (map (tuple_in input) (take i rows)) → outs' ≡ outs ++ pairs_out classes own (tuple_in input s ∷ []) → outs' ≡ first ++ pairs_out classes own (map (tuple_in input) (take (i + 1) rows))
pairs_more classes own input rows i s first outs outs' at e n =
    n ∙ ap (λ (xs : List Out). xs ++ pairs_out classes own (tuple_in input s ∷ [])) e
    ∙ append_assoc first (pairs_out classes own (map (tuple_in input) (take i rows))) (pairs_out classes own (tuple_in input s ∷ []))
    ∙ ap (λ (xs : List Out). first ++ xs)
    (sym (out-append (map (tuple_in input) (take i rows)) (tuple_in input s ∷ []))
    ∙ ap (pairs_out classes own) (sym (map-append (tuple_in input) (take i rows) (s ∷ [])) ∙ ap (map (tuple_in input)) (ap (λ (t : Stored). take i rows ++ t ∷ []) (sym (get_or_from_slice_get rows i s s at)) ∙ sym (take_more rows i s (slice_get_within rows i s at)))))
  where
    out-append : (xs ys : List TupleAt) → pairs_out classes own (xs ++ ys) ≡ pairs_out classes own xs ++ pairs_out classes own ys
    out-append xs ys =
        ap (λ (zs : List TupleAt). map Tuple (map (pair_of own) zs)) (filter-append (older_agrees classes own) xs ys)
        ∙ ap (map Tuple) (map-append (pair_of own) (filter (older_agrees classes own) xs) (filter (older_agrees classes own) ys))
        ∙ map-append Tuple (map (pair_of own) (filter (older_agrees classes own) xs)) (map (pair_of own) (filter (older_agrees classes own) ys))

pub pairs_stop : (classes : List (List ClassCol)) (own : TupleAt) (input : ℕ) (rows : List Stored) (i : ℕ) (s : Stored) → IsRising ticket_of rows → slice_get rows i ≡ Some s → own.ticket ≤ s.ticket
    → pairs_out classes own (map (tuple_in input) (take i rows)) ≡ pairs_out classes own (map (tuple_in input) rows)
pairs_stop classes own input rows i s rising at le =
    ap (λ (zs : List TupleAt). map Tuple (map (pair_of own) zs))
    (filter_map_swap (older_agrees classes own) (tuple_in input) (take i rows)
    ∙ ap (map (tuple_in input)) (picked_stop (λ t. older_agrees classes own (tuple_in input t)) ticket_of own.ticket rows i s rising (λ t k. ltb-true t.ticket own.ticket (and_parts (ltb t.ticket own.ticket) _ k).0) at le)
    ∙ sym (filter_map_swap (older_agrees classes own) (tuple_in input) rows))

-- ---- lists of each input

pub sides-length : (base : ℕ) (lists : List (List (ℕ × List Value))) → length (sides_at base lists) ≡ length lists
sides-length base [] = refl
sides-length base (x ∷ xs) = ap suc (sides-length (base + 1) xs)

-- a choice of another input's tuples
pub narrowed_choice : (classes : List (List ClassCol)) (own : TupleAt) (sides : List (List TupleAt)) (input : ℕ) (rows : List (ℕ × List Value)) (side : List TupleAt) → (input ≡ own.input → ⊥) → get_or sides input [] ≡ side
    → filter (agrees_with classes (own ∷ [])) (map (tuple_at input) rows) ≡ filter (older_joins classes own) side → IsNarrowed classes own sides input (map (tuple_at input) rows)
narrowed_choice classes own sides input rows side ne at e = record {
  alone = λ q. absurd (ne q);
  among = suit rows ∙ e ∙ sym (ap (λ b. cond b (own ∷ []) (filter (older_joins classes own) (get_or sides input []))) apart ∙ ap (filter (older_joins classes own)) at);
}
  where
    apart : eqb input own.input ≡ false
    apart = false_from_ne_true (eqb input own.input) (λ t. ne (eqb-true input own.input t))

    suit : (rs : List (ℕ × List Value)) → filter (may_join classes own) (map (tuple_at input) rs) ≡ filter (agrees_with classes (own ∷ [])) (map (tuple_at input) rs)
    suit [] = refl
    suit (r ∷ rs) =
        ap (λ b. cond (b || agrees_with classes (own ∷ []) (tuple_at input r)) (tuple_at input r ∷ filter (may_join classes own) (map (tuple_at input) rs)) (filter (may_join classes own) (map (tuple_at input) rs))) apart
        ∙ ap (λ (xs : List TupleAt). cond (agrees_with classes (own ∷ []) (tuple_at input r)) (tuple_at input r ∷ xs) xs) (suit rs)
