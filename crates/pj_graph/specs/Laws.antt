-- Laws of safe joins and their certificates.
use Rattle.std.specs.Prelude.{ℕ, ◌<◌, ◌≡◌, ◌↔◌, Bool, List, length}
use Rattle.pj_shape.specs.declared.joins.CertStep.{CertStep}
use Rattle.pj_shape.specs.declared.joins.JoinSpec.{JoinSpec}
use Rattle.pj_shape.specs.Sound.{FitSchemes}
use Rattle.pj_graph.specs.declared.answers.Reach.{Reach}
use Rattle.pj_graph.specs.declared.answers.Reach.TheVariants.{All}
use Rattle.pj_shape.specs.Sets.{IsSafe}
use Rattle.pj_shape.specs.Certificates.{IsCertificate}
use Rattle.pj_graph.specs.Reaching.{IsReach}
use Rattle.pj_graph.specs.Saturation.{certificate_of, reach_of}

-- every input has a certificate
abbrev pub AreCertified : JoinSpec → List (List (List Bool)) → Type 0
AreCertified spec schemes = (input : ℕ) → input < length spec.inputs → (cert : List CertStep) × IsCertificate spec schemes input cert

-- every input reaches every other exactly where every input has a certificate
abbrev pub SafeWhereCertified : Type 0
SafeWhereCertified =
    (spec : JoinSpec) (schemes : List (List (List Bool))) → FitSchemes spec.inputs schemes → IsSafe spec schemes ↔ AreCertified spec schemes

-- a certificate that answers what an input reaches is the one that the saturation from this input gives
abbrev pub SaturationsAreTold : Type 0
SaturationsAreTold =
    (spec : JoinSpec) (schemes : List (List (List Bool))) (input : ℕ) (cert : List CertStep) → IsReach spec schemes input (All cert)
    → cert ≡ certificate_of spec schemes input

-- what an input of a join reaches is told by the one answer that its saturation gives
abbrev pub ReachesAreTold : Type 0
ReachesAreTold =
    (spec : JoinSpec) (schemes : List (List (List Bool))) (input : ℕ) → FitSchemes spec.inputs schemes → input < length spec.inputs
    → (found : Reach) → IsReach spec schemes input found ↔ (found ≡ reach_of spec schemes input)
