-- Lists of items by classes, with one item more.
use Rattle.std.proofs.Common.{◌≡◌, ℕ, zero, suc, ◌+◌, ◌<◌, List, [], ◌∷◌, ◌++◌, false, cond, filter, map, set, get_or, eqb, refl, ap, ap₂, sym, ◌∙◌, arith, append-nil}
use Rattle.std.proofs.lemmas.Bool.{eqb-true, eq-eqb, false_from_ne_true}
use Rattle.std.proofs.lemmas.List.Elements.{filter-append}
use Rattle.pj_events.specs.Join.{upto_from}

pub eqb-below : (t u : ℕ) → t < u → eqb t u ≡ false
eqb-below t u lt = false_from_ne_true (eqb t u) (λ e. omega (arith, eqb-true t u e, lt))

pub eqb-apart : (t u : ℕ) → u < t → eqb t u ≡ false
eqb-apart t u lt = false_from_ne_true (eqb t u) (λ e. omega (arith, eqb-true t u e, lt))

module _ {A : Type 0} (class : A → ℕ) where
  abbrev in_class : (A → ℕ) → ℕ → List A → List A
  in_class class k xs = filter (λ x. eqb (class x) k) xs

  of-more : (k : ℕ) (log : List A) (x : A) → in_class class k (log ++ x ∷ []) ≡ in_class class k log ++ cond (eqb (class x) k) (x ∷ []) []
  of-more k log x = filter-append (λ y. eqb (class y) k) log (x ∷ [])

  classes-past : (base n : ℕ) (log : List A) (x : A) → class x < base → map (λ k. in_class class k log) (upto_from base n) ≡ map (λ k. in_class class k (log ++ x ∷ [])) (upto_from base n)
  classes-past base zero log x lt = refl
  classes-past base (suc n) log x lt =
      ap₂ (λ (xs : List A) (xss : List (List A)). xs ∷ xss)
      (sym (of-more base log x ∙ ap (λ b. in_class class base log ++ cond b (x ∷ []) []) (eqb-below (class x) base lt) ∙ append-nil (in_class class base log)))
      (classes-past (base + 1) n log x (omega (arith, lt)))

  -- one more tuple, put to its class
  pub classes-more : (base n i : ℕ) (log : List A) (x : A) → class x ≡ base + i → i < n
      → set (map (λ k. in_class class k log) (upto_from base n)) i (get_or (map (λ k. in_class class k log) (upto_from base n)) i [] ++ x ∷ []) ≡ map (λ k. in_class class k (log ++ x ∷ [])) (upto_from base n)
  classes-more base zero i log x e lt = absurd (omega (arith, lt))
  classes-more base (suc n) zero log x e lt =
      ap₂ (λ (xs : List A) (xss : List (List A)). xs ∷ xss)
      (sym (of-more base log x ∙ ap (λ b. in_class class base log ++ cond b (x ∷ []) []) (eq-eqb (class x) base (omega (arith, e)))))
      (classes-past (base + 1) n log x (omega (arith, e)))
  classes-more base (suc n) (suc i) log x e lt =
      ap₂ (λ (xs : List A) (xss : List (List A)). xs ∷ xss)
      (sym (of-more base log x ∙ ap (λ b. in_class class base log ++ cond b (x ∷ []) []) (eqb-apart (class x) base (omega (arith, e))) ∙ append-nil (in_class class base log)))
      (classes-more (base + 1) n i log x (omega (arith, e)) (omega (arith, lt)))
