-- Places that all hold values.
use Rattle.std.proofs.Common.{◌≡◌, ◌<◌, ℕ, suc, zero, List, [], ◌∷◌, ◌++◌, length, get_or, arith, ◌≤◌, Option, Some, None, refl, sym, ap, ◌+◌, drop, ◌∙◌}
use Rattle.std.specs.List.{slice_get}
use Rattle.std.proofs.lemmas.Option.{slice_get_past, get_or_from_slice_get}
use Rattle.pj_value.specs.declared.values.Value.{Value}
use Rattle.pj_puncts.specs.Givens.{lent, AreLent}

pub lent_push : (places : List (Option Value)) (v : Value) → lent (places ++ Some v ∷ []) ≡ lent places ++ v ∷ []
lent_push [] v = refl
lent_push (None ∷ places) v = lent_push places v
lent_push (Some w ∷ places) v = ap (λ vs. w ∷ vs) (lent_push places v)

pub are_lent_push : (places : List (Option Value)) (v : Value) → AreLent places → AreLent (places ++ Some v ∷ [])
are_lent_push [] v all = tt
are_lent_push (None ∷ places) v all = absurd all
are_lent_push (Some w ∷ places) v all = are_lent_push places v all

pub lent_length : (places : List (Option Value)) → AreLent places → length (lent places) ≡ length places
lent_length [] all = refl
lent_length (None ∷ places) all = absurd all
lent_length (Some w ∷ places) all = ap suc (lent_length places all)

pub lent_none : (places : List (Option Value)) (at : ℕ) → AreLent places → length places ≤ at → None ≡ slice_get (lent places) at
lent_none places at all le = sym (slice_get_past (lent places) at (let e : length (lent places) ≡ length places = lent_length places all in omega (arith, le, e)))

pub lent_some : (places : List (Option Value)) (at : ℕ) (place : Option Value) → AreLent places → at < length places → place ≡ get_or places at place → place ≡ slice_get (lent places) at
lent_some [] at place all lt e = absurd (omega (arith, lt))
lent_some (None ∷ places) at place all lt e = absurd all
lent_some (Some w ∷ places) zero place all lt e = e
lent_some (Some w ∷ places) (suc at) place all lt e = lent_some places at place all (omega (arith, lt)) e

-- the steps from a place on
pub drop_here : {A : Type 0} (xs : List A) (at : ℕ) (x : A) → slice_get xs at ≡ Some x → drop at xs ≡ x ∷ drop (at + 1) xs
drop_here [] at x e = absurd (cc)
drop_here (y ∷ xs) zero x e = ap (λ z. z ∷ xs) (get_or_from_slice_get (y ∷ xs) 0 x x e)
drop_here (y ∷ xs) (suc at) x e = let n : suc at + 1 ≡ suc (at + 1) = omega arith in drop_here xs at x e ∙ ap (λ i. x ∷ drop i (y ∷ xs)) (sym n)
