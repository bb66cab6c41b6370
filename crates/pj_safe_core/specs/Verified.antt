-- Which certificates a plan can be run with.
use Rattle.std.specs.Prelude.{ℕ, ◌<◌, ◌≡◌, Bool, List, [], length, slice_index_or}
use Rattle.pj_shape.specs.declared.joins.CertStep.{CertStep}
use Rattle.pj_shape.specs.declared.joins.JoinSpec.{JoinSpec}
use Rattle.pj_shape.specs.Certificates.{IsCertificate}
use Rattle.pj_plan.specs.declared.node.Node.TheVariants.{Join}
use Rattle.pj_plan.specs.declared.node.PlanNode.{PlanNode}
use Rattle.pj_plan.specs.Canonical.{node_at}
use Rattle.pj_plan.specs.Nodes.{joins_of}
use Rattle.pj_scheme.specs.Derived.{inputs_schemes, schemes_of}

-- there is one of these for each input of a join of this shape, in order, and it is a certificate of the input
pub record AreCertificatesFor (spec : JoinSpec) (schemes : List (List (List Bool))) (certs : List (List CertStep)) : Type 0 where
  pub one_each : length certs ≡ length spec.inputs
  pub each : (input : ℕ) → input < length spec.inputs → IsCertificate spec schemes input (slice_index_or certs input [])

-- the same of the join of this number, for the schemes that are derived for its inputs
abbrev pub AreVerifiedAt : List PlanNode → ℕ → List (List CertStep) → Type 0
AreVerifiedAt nodes join certs =
    (inputs : List ℕ) (spec : JoinSpec) → node_at nodes join ≡ Join inputs spec → AreCertificatesFor spec (inputs_schemes (schemes_of nodes) inputs) certs

-- there is one of these lists for each join of the plan, in order, and it has a certificate of each input of the join
pub record AreVerified (nodes : List PlanNode) (certs : List (List (List CertStep))) : Type 0 where
  pub one_each : length certs ≡ length (joins_of nodes)
  pub each : (place : ℕ) → place < length (joins_of nodes) → AreVerifiedAt nodes (slice_index_or (joins_of nodes) place 0) (slice_index_or certs place [])
