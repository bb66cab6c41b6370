-- Steps that reach every input make a certificate.
use Rattle.std.specs.Prelude.{◌==◌}
use Rattle.std.proofs.Common.{ℕ, zero, suc, ◌<◌, ◌≡◌, length, arith, Bool, true, false, List, [], ◌∷◌, ◌++◌, refl, sym, ap, ◌∙◌, subst, inl, inr, append_assoc, append-nil}
use Rattle.std.proofs.lemmas.Bool.{eqb-true, eqb-false, false≢true}
use Rattle.pj_value.specs.Lists.{In, has}
use Rattle.pj_value.proofs.Numbers.{in-has}
use Rattle.pj_shape.specs.declared.joins.CertStep.{CertStep}
use Rattle.pj_shape.specs.declared.joins.JoinSpec.{JoinSpec}
use Rattle.pj_shape.specs.Sets.{IsClosed}
use Rattle.pj_shape.specs.Certificates.{AreSteps, IsCertificate, steps_at, inputs_of}
use Rattle.pj_shape.proofs.Certificates.{one_if}
use Rattle.pj_graph.specs.Certificates.{IsSaturation}
use Rattle.pj_graph.proofs.Saturations.{among_last, among_left, step_in_range}

-- the input of each step is none of the known ones and of those of the steps before it
abbrev pub AreFresh : List ℕ → List CertStep → Type 0
AreFresh known [] = Unit {0}
AreFresh known (step ∷ steps) = (has known step.input ≡ false) × AreFresh (known ++ step.input ∷ []) steps

pub saturation_steps : (spec : JoinSpec) (schemes : List (List (List Bool))) (known : List ℕ) (steps : List CertStep) → IsSaturation spec schemes known steps → AreSteps spec schemes known steps
saturation_steps spec schemes known [] h = tt
saturation_steps spec schemes known (step ∷ steps) (first, others) = (first.is_step, saturation_steps spec schemes (known ++ step.input ∷ []) steps others)

pub saturation_fresh : (spec : JoinSpec) (schemes : List (List (List Bool))) (known : List ℕ) (steps : List CertStep) → IsSaturation spec schemes known steps → AreFresh known steps
saturation_fresh spec schemes known [] h = tt
saturation_fresh spec schemes known (step ∷ steps) (first, others) = (first.is_new, saturation_fresh spec schemes (known ++ step.input ∷ []) steps others)

pub saturation_closed : (spec : JoinSpec) (schemes : List (List (List Bool))) (known : List ℕ) (steps : List CertStep) → IsSaturation spec schemes known steps → IsClosed spec schemes (has (known ++ inputs_of steps))
saturation_closed spec schemes known [] h = subst (λ (ks : List ℕ). IsClosed spec schemes (has ks)) (sym (append-nil known)) h
saturation_closed spec schemes known (step ∷ steps) (first, others) =
    subst (λ (ks : List ℕ). IsClosed spec schemes (has ks)) (append_assoc known (step.input ∷ []) (inputs_of steps))
    (saturation_closed spec schemes (known ++ step.input ∷ []) steps others)

-- ---- how often an input stands in the list

none_of : (known : List ℕ) (steps : List CertStep) (k : ℕ) → AreFresh known steps → has known k ≡ true → steps_at steps k ≡ zero
none_of known [] k fresh t = refl
none_of known (step ∷ steps) k (new, fresh) t = go (step.input == k) refl (none_of (known ++ step.input ∷ []) steps k fresh (among_left known (step.input ∷ []) k t))
  where
    go : (b : Bool) → (step.input == k) ≡ b → steps_at steps k ≡ zero → steps_at (step ∷ steps) k ≡ zero
    go true e ih = absurd (false≢true (sym new ∙ ap (has known) (eqb-true step.input k e) ∙ t))
    go false e ih = let none : one_if (step.input == k) ≡ zero = ap one_if e in omega (arith, none, ih)

pub one_of : (known : List ℕ) (steps : List CertStep) (k : ℕ) → AreFresh known steps → In k (inputs_of steps) → steps_at steps k ≡ suc zero
one_of known [] k fresh h = absurd h
one_of known (step ∷ steps) k (new, fresh) h = go (step.input == k) refl (one_of (known ++ step.input ∷ []) steps k fresh) h
  where
    last : step.input ≡ k → has (known ++ step.input ∷ []) k ≡ true
    last e = subst (λ (m : ℕ). has (known ++ step.input ∷ []) m ≡ true) e (among_last known step.input)

    here : (step.input == k) ≡ true → steps_at (step ∷ steps) k ≡ suc zero
    here e =
        let one : one_if (step.input == k) ≡ suc zero = ap one_if e in
        omega (arith, one, none_of (known ++ step.input ∷ []) steps k fresh (last (eqb-true step.input k e)))

    go : (b : Bool) → (step.input == k) ≡ b → (In k (inputs_of steps) → steps_at steps k ≡ suc zero) → In k (inputs_of (step ∷ steps)) → steps_at (step ∷ steps) k ≡ suc zero
    go true e ih i = here e
    go false e ih (inl f) = absurd (eqb-false step.input k e f)
    go false e ih (inr i) = let none : one_if (step.input == k) ≡ zero = ap one_if e in omega (arith, none, ih i)

-- ---- which inputs the steps add

fresh_at : (known : List ℕ) (steps : List CertStep) (step : CertStep) → AreFresh known steps → In step steps → has known step.input ≡ true → ⊥
fresh_at known [] step fresh h t = h
fresh_at known (first ∷ steps) step (new, fresh) (inl e) t = false≢true (sym new ∙ ap (λ (s : CertStep). has known s.input) e ∙ t)
fresh_at known (first ∷ steps) step (new, fresh) (inr h) t =
    fresh_at (known ++ first.input ∷ []) steps step fresh h (among_left known (first.input ∷ []) step.input t)

pub range_at : (spec : JoinSpec) (schemes : List (List (List Bool))) (known : List ℕ) (steps : List CertStep) (step : CertStep) → AreSteps spec schemes known steps → In step steps → step.input < length schemes
range_at spec schemes known [] step h i = absurd i
range_at spec schemes known (first ∷ steps) step (is, h) (inl e) = subst (λ (s : CertStep). s.input < length schemes) e (step_in_range spec schemes known first is)
range_at spec schemes known (first ∷ steps) step (is, h) (inr i) = range_at spec schemes (known ++ first.input ∷ []) steps step h i

pub known_in_range : (spec : JoinSpec) (schemes : List (List (List Bool))) (known : List ℕ) (steps : List CertStep) (k : ℕ) → AreSteps spec schemes known steps → In k (inputs_of steps) → k < length schemes
known_in_range spec schemes known [] k h i = absurd i
known_in_range spec schemes known (first ∷ steps) k (is, h) (inl e) = subst (λ (m : ℕ). m < length schemes) e (step_in_range spec schemes known first is)
known_in_range spec schemes known (first ∷ steps) k (is, h) (inr i) = known_in_range spec schemes (known ++ first.input ∷ []) steps k h i

pub certified : (spec : JoinSpec) (schemes : List (List (List Bool))) (input : ℕ) (steps : List CertStep) → length schemes ≡ length spec.inputs
    → AreSteps spec schemes (input ∷ []) steps → AreFresh (input ∷ []) steps → ((k : ℕ) → k < length spec.inputs → In k (input ∷ inputs_of steps))
    → IsCertificate spec schemes input steps
certified spec schemes input steps lengths h fresh all = record {
  once = λ other lt differ. elim (all other lt) [ inl e ↦ absurd (differ (sym e)) | inr i ↦ one_of (input ∷ []) steps other fresh i ];
  only = λ step i. (
    subst (λ (n : ℕ). step.input < n) lengths (range_at spec schemes (input ∷ []) steps step h i),
    λ e. fresh_at (input ∷ []) steps step fresh i (in-has (input ∷ []) step.input (inl (sym e))),
  );
  steps = h;
}
