-- The certificates of the joins of a safe plan.
use Rattle.std.specs.Prelude.{ℕ, ◌<◌, List, map, length}
use Rattle.std.specs.List.{range_with_len}
use Rattle.pj_shape.specs.declared.joins.CertStep.{CertStep}
use Rattle.pj_shape.specs.Certificates.{IsCertificate}
use Rattle.pj_plan.specs.declared.node.PlanNode.{PlanNode}
use Rattle.pj_plan.specs.Nodes.{joins_of}
use Rattle.pj_graph.specs.Saturation.{certificate_of}
use Rattle.pj_safety.specs.Safety.{inputs_at, schemes_at, spec_at}

-- the certificate of each input of the join
abbrev pub certificates_at : List PlanNode → ℕ → List (List CertStep)
certificates_at nodes join = map (certificate_of (spec_at nodes join) (schemes_at nodes join)) (range_with_len 0 (inputs_at nodes join))

-- the same of each join
abbrev pub certificates_of : List PlanNode → List (List (List CertStep))
certificates_of nodes = map (certificates_at nodes) (joins_of nodes)

-- those of the node of this number are certificates; a node that is no join has none
abbrev pub AreCertificatesAt : List PlanNode → ℕ → Type 0
AreCertificatesAt nodes n = (input : ℕ) → input < inputs_at nodes n
    → IsCertificate (spec_at nodes n) (schemes_at nodes n) input (certificate_of (spec_at nodes n) (schemes_at nodes n) input)

-- those of each node are certificates
abbrev pub AreCertificates : List PlanNode → Type 0
AreCertificates nodes = (n : ℕ) → n < length nodes → AreCertificatesAt nodes n
