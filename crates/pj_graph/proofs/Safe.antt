-- A join is safe exactly where every input has a certificate.
use Rattle.std.proofs.Common.{ℕ, zero, ◌<◌, ◌≡◌, ◌≢◌, ◌⊎◌, length, arith, Bool, true, List, [], ◌∷◌, refl, sym, inl, inr}
use Rattle.std.proofs.lemmas.Bool.{cases_eq}
use Rattle.pj_value.specs.Lists.{In, has}
use Rattle.pj_value.proofs.Numbers.{has-in, in-has}
use Rattle.pj_shape.specs.declared.joins.CertStep.{CertStep}
use Rattle.pj_shape.specs.declared.joins.JoinSpec.{JoinSpec}
use Rattle.pj_shape.specs.Sound.{FitSchemes}
use Rattle.pj_shape.specs.Sets.{IsSafe, Reaches}
use Rattle.pj_shape.specs.Certificates.{IsCertificate, steps_at, inputs_of}
use Rattle.pj_shape.proofs.Certificates.{in_or_none}
use Rattle.pj_graph.specs.Laws.{AreCertified, SafeWhereCertified}
use Rattle.pj_graph.proofs.Saturations.{steps_reach}
use Rattle.pj_graph.proofs.Certified.{certified, saturation_closed, saturation_fresh, saturation_steps}
use Rattle.pj_graph.proofs.Existing.{Saturates, saturates}
use Rattle.pj_graph.proofs.Steps.{lists_length}

certificates : (spec : JoinSpec) (schemes : List (List (List Bool))) → FitSchemes spec.inputs schemes → IsSafe spec schemes → AreCertified spec schemes
certificates spec schemes fit safe input lt = (
  found.steps,
  certified spec schemes input found.steps (lists_length spec.inputs schemes fit) (saturation_steps spec schemes (input ∷ []) found.steps found.is_saturation)
      (saturation_fresh spec schemes (input ∷ []) found.steps found.is_saturation) (λ k below. has-in (input ∷ inputs_of found.steps) k (reached k below)),
)
  where
    found : Saturates spec schemes (input ∷ [])
    found = saturates spec schemes (input ∷ [])

    reached : (k : ℕ) → k < length spec.inputs → has (input ∷ inputs_of found.steps) k ≡ true
    reached k below =
        safe input k lt below (has (input ∷ inputs_of found.steps)) (saturation_closed spec schemes (input ∷ []) found.steps found.is_saturation)
        (in-has (input ∷ inputs_of found.steps) input (inl refl))

reaches_all : (spec : JoinSpec) (schemes : List (List (List Bool))) (from to : ℕ) (cert : List CertStep) → to < length spec.inputs → IsCertificate spec schemes from cert → Reaches spec schemes from to
reaches_all spec schemes from to cert lt is = go (cases_eq to from)
  where
    others : to ≢ from → In to (inputs_of cert) ⊎ (steps_at cert to ≡ zero) → In to (from ∷ inputs_of cert)
    others differ (inl i) = inr i
    others differ (inr none) = absurd (omega (arith, none, is.once to lt differ))

    go : (to ≡ from) ⊎ (to ≢ from) → Reaches spec schemes from to
    go (inl same) = steps_reach spec schemes from cert is.steps to (inl (sym same))
    go (inr differ) = steps_reach spec schemes from cert is.steps to (others differ (in_or_none cert to))

pub safe_where_certified : SafeWhereCertified
safe_where_certified spec schemes fit =
    (certificates spec schemes fit, λ all from to lt below. let cert = all from lt in reaches_all spec schemes from to cert.0 below cert.1)
