-- How often an input stands in the steps of a certificate.
use Rattle.std.proofs.Common.{ℕ, zero, ◌≤◌, ◌≡◌, ◌⊎◌, Bool, true, false, cond, ◌==◌, List, [], ◌∷◌, refl, ap, inl, inr, arith}
use Rattle.std.proofs.lemmas.Bool.{eq-eqb, eqb-true}
use Rattle.pj_value.specs.Lists.{In}
use Rattle.pj_shape.specs.declared.joins.CertStep.{CertStep}
use Rattle.pj_shape.specs.Certificates.{inputs_of, steps_at}

abbrev pub one_if : Bool → ℕ
one_if b = cond b 1 0

pub in_or_none : (steps : List CertStep) (k : ℕ) → In k (inputs_of steps) ⊎ (steps_at steps k ≡ zero)
in_or_none [] k = inr refl
in_or_none (step ∷ steps) k = go (step.input == k) refl (in_or_none steps k)
  where
    go : (b : Bool) → (step.input == k) ≡ b → In k (inputs_of steps) ⊎ (steps_at steps k ≡ zero) → In k (inputs_of (step ∷ steps)) ⊎ (steps_at (step ∷ steps) k ≡ zero)
    go true e ih = inl (inl (eqb-true step.input k e))
    go false e (inl h) = inl (inr h)
    go false e (inr z) = let none : one_if (step.input == k) ≡ zero = ap one_if e in inr (omega (arith, none, z))

-- a step is counted at its input
pub counted : (steps : List CertStep) (step : CertStep) → In step steps → 1 ≤ steps_at steps step.input
counted [] step h = absurd h
counted (first ∷ steps) step (inl e) = let one : one_if (first.input == step.input) ≡ 1 = ap one_if (eq-eqb first.input step.input (ap (λ (s : CertStep). s.input) e)) in omega (arith, one)
counted (first ∷ steps) step (inr h) = let more = counted steps step h in omega (arith, more)
