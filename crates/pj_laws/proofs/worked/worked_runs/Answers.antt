use Rattle.std.proofs.Common.{ℕ, zero, suc, ◌<◌, ◌≢◌, ◌≡◌, inl, inr, ap, arith, refl}
use Rattle.pj_shape.specs.declared.joins.CertStep.{CertStep}
use Rattle.pj_shape.specs.Certificates.{IsCertificate, steps_at}
use Rattle.pj_shape.proofs.Tested.{fit_if}
use Rattle.pj_events.specs.Join.{steps_of}
use Rattle.pj_laws.specs.Worked.{auction}
use Rattle.pj_laws.proofs.worked.worked_runs.Goals as goal

pub returns-clause-planned : goal.returns-clause-planned
returns-clause-planned c = (
  (λ k h. absurd h),
  (refl, refl),
  (
    (λ k h. absurd h),
    (refl, refl),
    ((λ k h. elim h [ inl q ↦ omega (arith, q) | inr h ↦ elim h [ inl q ↦ omega (arith, q) | inr h ↦ absurd h ] ]), (refl, omega arith, refl), tt),
  ),
)

pub returns-clause-certified : goal.returns-clause-certified
returns-clause-certified c = record {
  apart = (λ other h. absurd h, tt);
  fitting = fit_if auction.shape.inputs auction.schemes refl;
  each = each;
}
  where
    each : (input : ℕ) → input < 2 → IsCertificate auction.shape auction.schemes input (steps_of auction input)
    each zero lt = record {
      once = λ other l ne. one other l ne;
      only = λ step h. elim h [ inl q ↦ (let e = ap (λ (s : CertStep). s.input) q in (omega (arith, e), λ z. omega (arith, e, z))) | inr h ↦ absurd h ];
      steps = (record { given = omega arith; usable = refl }, tt);
    }
      where
        one : (other : ℕ) → other < 2 → other ≢ 0 → steps_at (steps_of auction 0) other ≡ 1
        one zero l ne = absurd (ne refl)
        one (suc zero) l ne = refl
        one (suc (suc n)) l ne = absurd (omega (arith, l))
    each (suc zero) lt = record {
      once = λ other l ne. one other l ne;
      only = λ step h. elim h [ inl q ↦ (let e = ap (λ (s : CertStep). s.input) q in (omega (arith, e), λ z. omega (arith, e, z))) | inr h ↦ absurd h ];
      steps = (record { given = omega arith; usable = refl }, tt);
    }
      where
        one : (other : ℕ) → other < 2 → other ≢ 1 → steps_at (steps_of auction 1) other ≡ 1
        one zero l ne = refl
        one (suc zero) l ne = absurd (ne refl)
        one (suc (suc n)) l ne = absurd (omega (arith, l))
    each (suc (suc n)) lt = absurd (omega (arith, lt))
