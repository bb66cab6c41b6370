-- What an input reaches is told by one answer.
use Rattle.std.proofs.Common.{ℕ, zero, suc, ◌<◌, ◌≤◌, ◌≡◌, ◌⊎◌, length, arith, Bool, true, false, List, [], ◌∷◌, Option, Some, None, refl, sym, ap, ◌∙◌, subst, inl, inr}
use Rattle.std.proofs.lemmas.Bool.{cases_eq}
use Rattle.pj_value.specs.Lists.{In, has, AreRising}
use Rattle.pj_shape.specs.declared.joins.CertStep.{CertStep}
use Rattle.pj_shape.specs.declared.joins.JoinSpec.{JoinSpec}
use Rattle.pj_graph.specs.declared.answers.Reach.{Reach}
use Rattle.pj_graph.specs.declared.answers.Reach.TheVariants.{All, Stuck}
use Rattle.pj_graph.specs.Certificates.{IsSaturation}
use Rattle.pj_graph.specs.Laws.{ReachesAreTold}
use Rattle.pj_graph.specs.Reaching.{IsReach, IsStuck}
use Rattle.pj_graph.specs.Saturation.{answer_by, certificate_of, known_of, missing_below, or_missing, reach_of, sorted_below}
use Rattle.pj_graph.specs.Search.{IsAnswer, IsMissing}
use Rattle.pj_graph.proofs.Certified.{range_at, saturation_steps}
use Rattle.pj_graph.proofs.Existing.{Saturates, saturates}
use Rattle.pj_graph.proofs.Steps.{lists_length}
use Rattle.pj_graph.proofs.Told.{told}
use Rattle.pj_graph.proofs.Unique.{few_unknown, saturations_are_told, unique}

-- ---- the answer that the saturation gives

missing_is : (known : List ℕ) (n : ℕ) → IsMissing known n (missing_below known n)
missing_is known zero = λ k lt. absurd (omega (arith, lt))
missing_is known (suc n) = go (missing_below known n) (has known n) refl (missing_is known n)
  where
    all : has known n ≡ true → ((k : ℕ) → k < n → has known k ≡ true) → (k : ℕ) → k < suc n → has known k ≡ true
    all e before k lt = elim (cases_eq k n) [ inl same ↦ ap (has known) same ∙ e | inr differ ↦ before k (omega (arith, lt, differ)) ]

    go : (o : Option ℕ) (b : Bool) → has known n ≡ b → IsMissing known n o → IsMissing known (suc n) (or_missing o b n)
    go (Some missing) b e (lt, out, before) = (omega (arith, lt), out, before)
    go None true e before = all e before
    go None false e before = (omega arith, e, before)

answer_is : (cert : List CertStep) (known : List ℕ) (n : ℕ) → IsAnswer cert known n (answer_by cert (sorted_below known n) (missing_below known n))
answer_is cert known n = go (missing_below known n) (missing_is known n)
  where
    go : (o : Option ℕ) → IsMissing known n o → IsAnswer cert known n (answer_by cert (sorted_below known n) o)
    go None none = (refl, none)
    go (Some missing) some = (refl, some)

saturated : (spec : JoinSpec) (schemes : List (List (List Bool))) (input : ℕ) → length schemes ≡ length spec.inputs
    → IsSaturation spec schemes (input ∷ []) (certificate_of spec schemes input)
saturated spec schemes input lengths = subst (IsSaturation spec schemes (input ∷ [])) same found.is_saturation
  where
    found : Saturates spec schemes (input ∷ [])
    found = saturates spec schemes (input ∷ [])

    within : (step : CertStep) → In step found.steps → step.input < length spec.inputs
    within step i =
        subst (λ (n : ℕ). step.input < n) lengths
        (range_at spec schemes (input ∷ []) found.steps step (saturation_steps spec schemes (input ∷ []) found.steps found.is_saturation) i)

    same : found.steps ≡ certificate_of spec schemes input
    same =
        unique spec schemes (length spec.inputs) (length spec.inputs) (input ∷ []) found.steps found.is_saturation within
        (few_unknown (input ∷ []) (length spec.inputs))

reach_is : (spec : JoinSpec) (schemes : List (List (List Bool))) (input : ℕ) → length schemes ≡ length spec.inputs → input < length spec.inputs
    → IsReach spec schemes input (reach_of spec schemes input)
reach_is spec schemes input lengths lt =
    told spec schemes input (certificate_of spec schemes input) (known_of spec schemes input) (reach_of spec schemes input) lengths lt refl
    (saturated spec schemes input lengths) (answer_is (certificate_of spec schemes input) (known_of spec schemes input) (length spec.inputs))

-- ---- there is no other

same_rising : (ns ms : List ℕ) → AreRising ns → AreRising ms → ((k : ℕ) → In k ns → In k ms) → ((k : ℕ) → In k ms → In k ns) → ns ≡ ms
same_rising [] [] rising others to from = refl
same_rising [] (m ∷ ms) rising others to from = absurd (from m (inl refl))
same_rising (n ∷ ns) [] rising others to from = absurd (to n (inl refl))
same_rising (n ∷ ns) (m ∷ ms) (first, rising) (lead, others) to from =
    ap (λ (k : ℕ). k ∷ ns) heads ∙ ap (λ (ks : List ℕ). m ∷ ks) (same_rising ns ms rising others to_tail from_tail)
  where
    both : (m ≡ n) ⊎ In n ms → (n ≡ m) ⊎ In m ns → n ≡ m
    both (inl e) h = sym e
    both (inr i) (inl e) = e
    both (inr i) (inr j) = absurd (omega (arith, lead n i, first m j))

    heads : n ≡ m
    heads = both (to n (inl refl)) (from m (inl refl))

    to_tail : (k : ℕ) → In k ns → In k ms
    to_tail k i = elim (to k (inr i)) [ inl e ↦ absurd (omega (arith, first k i, heads, e)) | inr j ↦ j ]

    from_tail : (k : ℕ) → In k ms → In k ns
    from_tail k i = elim (from k (inr i)) [ inl e ↦ absurd (omega (arith, lead k i, heads, e)) | inr j ↦ j ]

below_or_not : (n m : ℕ) → (n < m) ⊎ (m ≤ n)
below_or_not n zero = inr (omega arith)
below_or_not zero (suc m) = inl (omega arith)
below_or_not (suc n) (suc m) = elim (below_or_not n m) [ inl h ↦ inl (omega (arith, h)) | inr h ↦ inr (omega (arith, h)) ]

same_stuck : (spec : JoinSpec) (schemes : List (List (List Bool))) (input : ℕ) (reached others : List ℕ) (missing other : ℕ)
    → IsStuck spec schemes input reached missing → IsStuck spec schemes input others other → Stuck reached missing ≡ Stuck others other
same_stuck spec schemes input reached others missing other h g =
    ap (λ (ks : List ℕ). Stuck ks missing) (same_rising reached others h.in_order g.in_order (λ k i. (g.exactly k).1 ((h.exactly k).0 i)) (λ k i. (h.exactly k).1 ((g.exactly k).0 i)))
    ∙ ap (λ (k : ℕ). Stuck others k) (go (below_or_not missing other) (below_or_not other missing))
  where
    go : (missing < other) ⊎ (other ≤ missing) → (other < missing) ⊎ (missing ≤ other) → missing ≡ other
    go (inl lt) either = absurd (h.missed (g.least missing lt))
    go (inr le) (inl lt) = absurd (g.missed (h.least other lt))
    go (inr le) (inr ge) = omega (arith, le, ge)

same_reach : (spec : JoinSpec) (schemes : List (List (List Bool))) (input : ℕ) (found other : Reach) → IsReach spec schemes input found → IsReach spec schemes input other
    → found ≡ other
same_reach spec schemes input (All cert) (All more) h g =
    ap (λ (steps : List CertStep). All steps) (saturations_are_told spec schemes input cert h ∙ sym (saturations_are_told spec schemes input more g))
same_reach spec schemes input (All cert) (Stuck reached missing) h g = absurd (g.missed (h.all missing g.missing_is_input))
same_reach spec schemes input (Stuck reached missing) (All cert) h g = absurd (h.missed (g.all missing h.missing_is_input))
same_reach spec schemes input (Stuck reached missing) (Stuck others other) h g = same_stuck spec schemes input reached others missing other h g

pub reaches_are_told : ReachesAreTold
reaches_are_told spec schemes input fit lt found = (
  λ is. same_reach spec schemes input found (reach_of spec schemes input) is there,
  λ e. subst (IsReach spec schemes input) (sym e) there,
)
  where
    there : IsReach spec schemes input (reach_of spec schemes input)
    there = reach_is spec schemes input (lists_length spec.inputs schemes fit) lt
