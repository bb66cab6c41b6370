-- Halving a chain.
use Rattle.std.proofs.Common.{◌≡◌, ℕ, zero, suc, ◌+◌, ◌<◌, ◌≤◌, List, [], ◌∷◌, Option, Some, None, inl, inr, length, get_or, drop, refl, ap, sym, ◌∙◌, subst, arith}
use Rattle.std.proofs.lemmas.Bool.{cases_eq}
use Rattle.pj_value.specs.declared.values.Value.{Value}
use Rattle.pj_puncts.specs.declared.store.NumberedPunct.{NumberedPunct}
use Rattle.pj_puncts.specs.Indexed.{IsChain, first_at, first_of, number_at}

module _ (kept : List NumberedPunct) (cells : List (Option Value)) where
  abbrev pub number_of : List ℕ → ℕ → Option ℕ
  number_of places i = number_at kept cells (get_or places i 0)

  -- the places before low have no number, and that of the first one from high on is found
  pub record IsHalved (places : List ℕ) (low high : ℕ) (found : Option ℕ) : Type 0 where
    pub ordered : low ≤ high
    pub within : high ≤ length places
    pub before : (k : ℕ) → k < low → number_of places k ≡ None
    pub found_is : found ≡ first_at kept cells (drop high places)

  none-some : (n : ℕ) → None ≡ Some n → ⊥
  none-some n e = cc

  -- a place behind one that has a number has one too
  goes-up : (places : List ℕ) (i j n : ℕ) → IsChain kept places → i ≤ j → j < length places → number_of places i ≡ Some n → (m : ℕ) × (number_of places j ≡ Some m)
  goes-up places i zero n chain le lt e = let z : i ≡ 0 = omega (arith, le) in (n, subst (λ (k : ℕ). number_of places k ≡ Some n) z e)
  goes-up places i (suc j) n chain le lt e = elim (cases_eq i (suc j)) [
    | inl q ↦ (n, subst (λ (k : ℕ). number_of places k ≡ Some n) q e)
    | inr q ↦
        let r = goes-up places i j n chain (omega (arith, le, q)) (omega (arith, lt)) e in
        let s : suc j ≡ j + 1 = omega arith in
        subst (λ (k : ℕ). (m : ℕ) × (number_of places k ≡ Some m)) (sym s) (chain cells j r.0 (omega (arith, lt)) r.1)
  ]

  none-before : (places : List ℕ) (k middle : ℕ) → IsChain kept places → k ≤ middle → middle < length places → number_of places middle ≡ None → number_of places k ≡ None
  none-before places k middle chain le lt none = go (number_of places k) refl
    where
      go : (o : Option ℕ) → number_of places k ≡ o → o ≡ None
      go None e = refl
      go (Some n) e = let r = goes-up places k middle n chain le lt e in absurd (none-some r.0 (sym none ∙ r.1))

  pub halved-none : (places : List ℕ) (low high middle : ℕ) (found : Option ℕ) → IsChain kept places → IsHalved places low high found → middle < high → number_of places middle ≡ None → IsHalved places (middle + 1) high found
  halved-none places low high middle found chain h lt none = record {
    ordered = omega (arith, lt);
    within = h.within;
    before = λ k l. none-before places k middle chain (omega (arith, l)) (omega (arith, lt, h.within)) none;
    found_is = h.found_is;
  }

  first-behind : (places : List ℕ) (low : ℕ) → ((k : ℕ) → k < low → number_of places k ≡ None) → low ≤ length places → first_at kept cells (drop low places) ≡ first_at kept cells places
  first-behind places zero none le = refl
  first-behind [] (suc low) none le = absurd (omega (arith, le))
  first-behind (at ∷ places) (suc low) none le =
      first-behind places low (λ k lt. none (suc k) (omega (arith, lt))) (omega (arith, le)) ∙ sym (ap (λ (o : Option ℕ). first_of o (first_at kept cells places)) (none 0 (omega arith)))

  pub halved-end : (places : List ℕ) (low high : ℕ) (found : Option ℕ) → IsHalved places low high found → high ≤ low → found ≡ first_at kept cells places
  halved-end places low high found h done =
      let same : high ≡ low = omega (arith, h.ordered, done) in
      let le : low ≤ length places = omega (arith, h.within, h.ordered) in
      h.found_is ∙ (ap (λ n. first_at kept cells (drop n places)) same ∙ first-behind places low h.before le)
