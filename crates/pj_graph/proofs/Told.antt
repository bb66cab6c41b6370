-- What a saturation knows is what is reached, and the answer tells it.
use Rattle.std.proofs.Common.{ℕ, zero, suc, ◌<◌, ◌≤◌, ◌≡◌, ◌⊎◌, length, arith, Bool, true, false, cond, List, [], ◌∷◌, ◌++◌, Some, None, refl, sym, ap, ◌∙◌, subst, inl, inr}
use Rattle.std.proofs.lemmas.Bool.{false_from_ne_true, false≢true}
use Rattle.pj_value.specs.Lists.{In, has, AreRising}
use Rattle.pj_value.proofs.Members.{In-append_cases, In-append_left, In-append_right}
use Rattle.pj_value.proofs.Numbers.{has-in, in-has}
use Rattle.pj_shape.specs.declared.joins.CertStep.{CertStep}
use Rattle.pj_shape.specs.declared.joins.JoinSpec.{JoinSpec}
use Rattle.pj_graph.specs.declared.answers.Reach.{Reach}
use Rattle.pj_graph.specs.declared.answers.Reach.TheVariants.{All, Stuck}
use Rattle.pj_shape.specs.Sets.{IsClosed, Reaches, is_usable}
use Rattle.pj_shape.specs.Certificates.{inputs_of}
use Rattle.pj_graph.specs.Certificates.{IsSaturation}
use Rattle.pj_graph.specs.Reaching.{IsReach, IsStuck, IsWhole}
use Rattle.pj_graph.specs.Saturation.{sorted_below}
use Rattle.pj_graph.specs.Search.{IsAnswer, IsMissing}
use Rattle.pj_graph.proofs.Saturations.{steps_reach, usable_more}
use Rattle.pj_graph.proofs.Certified.{certified, known_in_range, saturation_closed, saturation_fresh, saturation_steps}

-- ---- numbers in order

sorted_at : (known : List ℕ) (n k : ℕ) → In k (sorted_below known n) → (k < n) × (has known k ≡ true)
sorted_at known zero k h = absurd h
sorted_at known (suc n) k h = go (has known n) refl (sorted_at known n k) (In-append_cases k (sorted_below known n) (cond (has known n) (n ∷ []) []) h)
  where
    last : (b : Bool) → has known n ≡ b → In k (cond b (n ∷ []) []) → (k < suc n) × (has known k ≡ true)
    last true t (inl e) = (omega (arith, e), sym (ap (has known) e) ∙ t)
    last true t (inr u) = absurd u
    last false t u = absurd u

    go : (b : Bool) → has known n ≡ b → (In k (sorted_below known n) → (k < n) × (has known k ≡ true))
        → In k (sorted_below known n) ⊎ In k (cond b (n ∷ []) []) → (k < suc n) × (has known k ≡ true)
    go b t ih (inl i) = let r = ih i in (omega (arith, r.0), r.1)
    go b t ih (inr i) = last b t i

sorted_from : (known : List ℕ) (n k : ℕ) → k < n → has known k ≡ true → In k (sorted_below known n)
sorted_from known zero k lt t = absurd (omega arith)
sorted_from known (suc n) k lt t = go (cases k n) (sorted_from known n k)
  where
    cases : (m p : ℕ) → (m < p) ⊎ (p ≤ m)
    cases m zero = inr (omega arith)
    cases zero (suc p) = inl (omega arith)
    cases (suc m) (suc p) = elim (cases m p) [ inl h ↦ inl (omega (arith, h)) | inr h ↦ inr (omega (arith, h)) ]

    here : k ≡ n → In k (cond (has known n) (n ∷ []) [])
    here e = subst (λ (b : Bool). In k (cond b (n ∷ []) [])) (sym (sym (ap (has known) e) ∙ t)) (inl (sym e))

    go : (k < n) ⊎ (n ≤ k) → (k < n → has known k ≡ true → In k (sorted_below known n)) → In k (sorted_below known n ++ cond (has known n) (n ∷ []) [])
    go (inl below) ih = In-append_left k (sorted_below known n) (cond (has known n) (n ∷ []) []) (ih below t)
    go (inr above) ih = In-append_right k (sorted_below known n) (cond (has known n) (n ∷ []) []) (here (omega (arith, above, lt)))

rising_more : (numbers : List ℕ) (n : ℕ) → AreRising numbers → ((k : ℕ) → In k numbers → k < n) → AreRising (numbers ++ n ∷ [])
rising_more [] n rising below = ((λ other u. absurd u), tt)
rising_more (k ∷ numbers) n (first, rising) below = (before, rising_more numbers n rising (λ m h. below m (inr h)))
  where
    before : (other : ℕ) → In other (numbers ++ n ∷ []) → k < other
    before other h = elim (In-append_cases other numbers (n ∷ []) h) [
      | inl i ↦ first other i
      | inr i ↦ elim i [ inl e ↦ subst (λ (m : ℕ). k < m) e (below k (inl refl)) | inr u ↦ absurd u ]
    ]

sorted_rising : (known : List ℕ) (n : ℕ) → AreRising (sorted_below known n)
sorted_rising known zero = tt
sorted_rising known (suc n) = go (has known n) (sorted_rising known n)
  where
    nothing : (numbers : List ℕ) → AreRising numbers → AreRising (numbers ++ [])
    nothing [] rising = tt
    nothing (k ∷ numbers) (first, rising) = ((λ other h. elim (In-append_cases other numbers [] h) [ inl i ↦ first other i | inr u ↦ absurd u ]), nothing numbers rising)

    go : (b : Bool) → AreRising (sorted_below known n) → AreRising (sorted_below known n ++ cond b (n ∷ []) [])
    go true ih = rising_more (sorted_below known n) n ih (λ k h. (sorted_at known n k h).0)
    go false ih = nothing (sorted_below known n) ih

-- ---- the answer

-- the inputs that a saturation from one input knows are those that are reached
record IsKnown (spec : JoinSpec) (schemes : List (List (List Bool))) (input : ℕ) (known : List ℕ) : Type 0 where
  reached : (k : ℕ) → has known k ≡ true → Reaches spec schemes input k
  within : (k : ℕ) → has known k ≡ true → k < length spec.inputs
  closed : IsClosed spec schemes (has known)
  start : has known input ≡ true

known_is : (spec : JoinSpec) (schemes : List (List (List Bool))) (input : ℕ) (steps : List CertStep) → length schemes ≡ length spec.inputs → input < length spec.inputs
    → IsSaturation spec schemes (input ∷ []) steps → IsKnown spec schemes input (input ∷ inputs_of steps)
known_is spec schemes input steps lengths lt h = record {
  reached = λ k t. steps_reach spec schemes input steps (saturation_steps spec schemes (input ∷ []) steps h) k (has-in (input ∷ inputs_of steps) k t);
  within = λ k t. in_range k (has-in (input ∷ inputs_of steps) k t);
  closed = saturation_closed spec schemes (input ∷ []) steps h;
  start = in-has (input ∷ inputs_of steps) input (inl refl);
}
  where
    in_range : (k : ℕ) → In k (input ∷ inputs_of steps) → k < length spec.inputs
    in_range k (inl e) = subst (λ (m : ℕ). m < length spec.inputs) e lt
    in_range k (inr i) = subst (λ (m : ℕ). k < m) lengths (known_in_range spec schemes (input ∷ []) steps k (saturation_steps spec schemes (input ∷ []) steps h) i)

known_if : (spec : JoinSpec) (schemes : List (List (List Bool))) (input : ℕ) (known : List ℕ) → IsKnown spec schemes input known
    → (k : ℕ) → Reaches spec schemes input k → has known k ≡ true
known_if spec schemes input known h k reaches = reaches (has known) h.closed h.start

sorted_closed : (spec : JoinSpec) (schemes : List (List (List Bool))) (input : ℕ) (known : List ℕ) → IsKnown spec schemes input known
    → IsClosed spec schemes (has (sorted_below known (length spec.inputs)))
sorted_closed spec schemes input known h k s out lt =
    false_from_ne_true (is_usable (has sorted) spec schemes k s)
    (λ t. false≢true (sym (h.closed k s unknown lt) ∙ usable_more (has sorted) (has known) fewer spec schemes k s t))
  where
    sorted : List ℕ
    sorted = sorted_below known (length spec.inputs)

    fewer : (m : ℕ) → has sorted m ≡ true → has known m ≡ true
    fewer m t = (sorted_at known (length spec.inputs) m (has-in sorted m t)).1

    unknown : has known k ≡ false
    unknown = false_from_ne_true (has known k) (λ t. false≢true (sym out ∙ in-has sorted k (sorted_from known (length spec.inputs) k (h.within k t) t)))

stuck_is : (spec : JoinSpec) (schemes : List (List (List Bool))) (input : ℕ) (known : List ℕ) (missing : ℕ) → IsKnown spec schemes input known
    → IsMissing known (length spec.inputs) (Some missing) → IsStuck spec schemes input (sorted_below known (length spec.inputs)) missing
stuck_is spec schemes input known missing h (lt, out, least) = record {
  exactly = λ other. (to other, λ both. sorted_from known (length spec.inputs) other both.0 (known_if spec schemes input known h other both.1));
  in_order = sorted_rising known (length spec.inputs);
  closed = sorted_closed spec schemes input known h;
  missing_is_input = lt;
  missed = λ reaches. false≢true (sym out ∙ known_if spec schemes input known h missing reaches);
  least = λ other below. h.reached other (least other below);
}
  where
    to : (other : ℕ) → In other (sorted_below known (length spec.inputs)) → (other < length spec.inputs) × Reaches spec schemes input other
    to other i = let r = sorted_at known (length spec.inputs) other i in (r.0, h.reached other r.1)

pub told : (spec : JoinSpec) (schemes : List (List (List Bool))) (input : ℕ) (steps : List CertStep) (known : List ℕ) (answer : Reach)
    → length schemes ≡ length spec.inputs → input < length spec.inputs → known ≡ input ∷ inputs_of steps → IsSaturation spec schemes (input ∷ []) steps
    → IsAnswer steps known (length spec.inputs) answer → IsReach spec schemes input answer
told spec schemes input steps known answer lengths lt same h is = go answer (subst (λ (ks : List ℕ). IsAnswer steps ks (length spec.inputs) answer) same is)
  where
    all : List ℕ
    all = input ∷ inputs_of steps

    knows : IsKnown spec schemes input all
    knows = known_is spec schemes input steps lengths lt h

    whole : IsMissing all (length spec.inputs) None → IsWhole spec schemes input steps
    whole none = record {
      all = λ k below. knows.reached k (none k below);
      certified = certified spec schemes input steps lengths (saturation_steps spec schemes (input ∷ []) steps h) (saturation_fresh spec schemes (input ∷ []) steps h)
          (λ k below. has-in all k (none k below));
      saturated = h;
    }

    go : (a : Reach) → IsAnswer steps all (length spec.inputs) a → IsReach spec schemes input a
    go (All cert) (e, none) = subst (IsWhole spec schemes input) (sym e) (whole none)
    go (Stuck reached missing) (e, some) =
        subst (λ (r : List ℕ). IsStuck spec schemes input r missing) (sym e) (stuck_is spec schemes input all missing knows some)
