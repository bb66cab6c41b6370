-- What the loops of a join cite.
use Rattle.std.proofs.Common.{ℕ, ◌+◌, Bool, true, false, cond, List, [], ◌∷◌, ◌++◌, ◌≡◌, Some, map, filter, take, length, get_or, refl, sym, ap, ap₂, ◌∙◌, subst, append_assoc}
use Rattle.std.specs.List.{slice_get}
use Rattle.std.proofs.lemmas.List.{map-append, take_more}
use Rattle.std.proofs.lemmas.List.Elements.{filter-append}
use Rattle.std.proofs.lemmas.Option.{get_or_from_slice_get, slice_get_within}
use Rattle.pj_value.proofs.Members.{In-map_from, in-place}
use Rattle.pj_state.specs.declared.shared.Stored.{Stored}
use Rattle.pj_state.specs.States.{StateView, pair_of as pair_stored, stored}
use Rattle.pj_puncts.specs.Stores.{Store}
use Rattle.pj_shape.specs.Sound.{arities_of}
use Rattle.pj_events.specs.Join.{In, JoinSpec, Value}
use Rattle.pj_cover.specs.Routes.{RouteView}
use Rattle.pj_recheck.specs.Judging.{MayJudge, one_if}
use Rattle.pj_rows.specs.Tuples.{state_at}

-- ---- items that are picked one after the other

-- one more is looked at
pub picked_more : {A B : Type 0} (p : A → Bool) (f : A → B) (xs : List A) (i : ℕ) (x : A) (b : Bool) (first ys ys' : List B) → slice_get xs i ≡ Some x → b ≡ p x → ys ≡ first ++ map f (filter p (take i xs)) → ys' ≡ ys ++ one_if b (f x)
    → ys' ≡ first ++ map f (filter p (take (i + 1) xs))
picked_more {A} {B} p f xs i x b first ys ys' at is e n =
    n ∙ ap₂ (λ (zs : List B) c. zs ++ one_if c (f x)) e is
    ∙ append_assoc first (map f (filter p (take i xs))) (one_if (p x) (f x))
    ∙ ap (λ (zs : List B). first ++ zs)
    (ap (λ (zs : List B). map f (filter p (take i xs)) ++ zs) (one (p x))
    ∙ sym (map-append f (filter p (take i xs)) (filter p (x ∷ [])))
    ∙ ap (map f) (sym (filter-append p (take i xs) (x ∷ [])) ∙ ap (filter p) (ap (λ (z : A). take i xs ++ z ∷ []) (sym (get_or_from_slice_get xs i x x at)) ∙ sym (take_more xs i x (slice_get_within xs i x at)))))
  where
    one : (c : Bool) → one_if c (f x) ≡ map f (cond c (x ∷ []) [])
    one true = refl
    one false = refl

-- ---- rows that are judged

-- a row that is stored fits its input
pub row_fits : (spec : JoinSpec) (schemes : List (List (List Bool))) (route : RouteView) (input : ℕ) (row_states : List StateView) (punct_stores : List Store) (ticket : ℕ) (row : List Value) → MayJudge spec schemes route input row_states punct_stores
    → (at : ℕ) × (slice_get (state_at row_states input).rows at ≡ Some (stored ticket row)) → length row ≡ get_or (arities_of spec.inputs) input 0
row_fits spec schemes route input row_states punct_stores ticket row may (at, e) =
    may.parts.fit input may.there (ticket, row) (In-map_from pair_stored (stored ticket row) (state_at row_states input).rows
    (subst (λ (s : Stored). In s (state_at row_states input).rows) (get_or_from_slice_get (state_at row_states input).rows at (stored ticket row) (stored ticket row) e)
    (in-place (state_at row_states input).rows (stored ticket row) at (slice_get_within (state_at row_states input).rows at (stored ticket row) e))))
