-- What the code that makes an instance cites.
use Rattle.std.proofs.Common.{ℕ, suc, ◌+◌, Bool, true, false, cond, List, [], ◌∷◌, ◌≡◌, Some, get_or, refl, sym, ap, ◌∙◌, arith}
use Rattle.pj_shape.specs.Joining.{has_column, class_from}
use Rattle.pj_events.specs.Join.{ClassCol, class_at, class_with}
use Rattle.pj_cover.specs.Asking.{first_class}

abbrev at_or : List (List ClassCol) → ℕ → List ClassCol
at_or all n = get_or all n []

found : (all classes : List (List ClassCol)) (n : ℕ) (at : ClassCol) → ((k : ℕ) → at_or all (n + k) ≡ at_or classes k) → class_at all (class_from n classes at) ≡ first_class classes at
found all [] n at same = refl
found all (class ∷ classes) n at same = go (has_column class at) (found all classes (n + 1) at (λ k. let e : n + 1 + k ≡ n + suc k = omega arith in ap (at_or all) e ∙ same (suc k)))
  where
    here : at_or all n ≡ class
    here = let e : n ≡ n + 0 = omega arith in ap (at_or all) e ∙ same 0

    go : (b : Bool) → class_at all (class_from (n + 1) classes at) ≡ first_class classes at → class_at all (cond b (Some n) (class_from (n + 1) classes at)) ≡ cond b class (first_class classes at)
    go true ih = here
    go false ih = ih

pub first_class_is : (classes : List (List ClassCol)) (at : ClassCol) → first_class classes at ≡ class_with classes at.input at.column
first_class_is classes at = sym (found classes classes 0 at (λ k. let e : 0 + k ≡ k = omega arith in ap (at_or classes) e))
