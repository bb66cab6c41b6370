-- Lists that are made one number after the other.
use Rattle.std.proofs.Common.{ℕ, ◌+◌, List, [], ◌∷◌, ◌++◌, ◌≡◌, map, arith, ap, sym, ◌∙◌, add-one}
use Rattle.std.proofs.lemmas.List.{map-append}
use Rattle.pj_events.specs.Join.{upto_from}
use Rattle.pj_join_laws.proofs.Upto.{upto-push}

-- one more number
pub more-choices : {A : Type 0} (f : ℕ → A) (i : ℕ) (found new : List A) (x : A) → found ≡ map f (upto_from 0 i) → x ≡ f i → new ≡ found ++ x ∷ [] → new ≡ map f (upto_from 0 (i + 1))
more-choices {A} f i found new x e g n =
    n ∙ ap (λ (xs : List A). xs ++ x ∷ []) e ∙ ap (λ (y : A). map f (upto_from 0 i) ++ y ∷ []) g
    ∙ sym (ap (map f) (ap (upto_from 0) (add-one i) ∙ upto-push 0 i ∙ ap (λ k. upto_from 0 i ++ k ∷ []) (zero-plus i)) ∙ map-append f (upto_from 0 i) (i ∷ []))
  where
    zero-plus : (n : ℕ) → 0 + n ≡ n
    zero-plus n = omega arith
