-- What a whole walk begins with, and the row of a combination.
use Rattle.std.proofs.Common.{◌≡◌, ℕ, ◌+◌, ◌<◌, Bool, true, ◌&&◌, List, [], ◌∷◌, ◌++◌, Some, length, get_or, take, refl, sym, ap, ap₂, ◌∙◌, arith, append-nil}
use Rattle.std.specs.List.{slice_get}
use Rattle.std.proofs.lemmas.Option.{get_or_from_slice_get}
use Rattle.pj_value.proofs.Slices.{flat_more}
use Rattle.pj_shape.specs.Joining.{all_equal, values}
use Rattle.pj_events.specs.Join.{ClassCol, Value, joins}
use Rattle.pj_probe.specs.Walks.{end_to_end, itself}

values-none : (class : List ClassCol) → values [] class ≡ []
values-none [] = refl
values-none (at ∷ class) = values-none class

-- no rows join
pub joins-none : (classes : List (List ClassCol)) → joins classes [] ≡ true
joins-none [] = refl
joins-none (class ∷ classes) = ap₂ (λ (vs : List Value) (b : Bool). all_equal vs && b) (values-none class) (joins-none classes)

-- two rows end to end
pub two-rows : (rows : List (List Value)) (a b : List Value) → length rows ≡ 2 → slice_get rows 0 ≡ Some a → slice_get rows 1 ≡ Some b → a ++ b ≡ end_to_end rows
two-rows rows a b two ea eb = ap₂ (λ (r s : List Value). r ++ s) (sym (get_or_from_slice_get rows 0 a [] ea)) (sym (get_or_from_slice_get rows 1 b [] eb)) ∙ both rows two
  where
    both : (rs : List (List Value)) → length rs ≡ 2 → get_or rs 0 [] ++ get_or rs 1 [] ≡ end_to_end rs
    both [] e = absurd (omega (arith, e))
    both (r ∷ []) e = absurd (omega (arith, e))
    both (r ∷ s ∷ []) e = ap (λ (vs : List Value). r ++ vs) (sym (append-nil s))
    both (r ∷ s ∷ t ∷ rs) e = absurd (omega (arith, e))

-- one row more
pub one-row-more : (rows : List (List Value)) (i : ℕ) (row values new : List Value) → i < length rows → slice_get rows i ≡ Some row → values ≡ end_to_end (take i rows) → new ≡ values ++ row → new ≡ end_to_end (take (i + 1) rows)
one-row-more rows i row values new lt e before n = n ∙ ap (λ (vs : List Value). vs ++ row) before ∙ sym (flat_more itself rows i row lt (sym (get_or_from_slice_get rows i row row e)))
