-- The certificates that the checker finds are what the laws of histories ask of the joins of a run.
use Rattle.std.proofs.Common.{ℕ, zero, suc, ◌+◌, ◌<◌, ◌≤◌, ◌≡◌, Bool, List, [], ◌∷◌, length, map, get_or, refl, sym, ap, ◌∙◌, subst, inl, inr, zero-add, arith}
use Rattle.std.proofs.lemmas.Bool.{cases_lt}
use Rattle.std.proofs.lemmas.List.{get_or-map, length-map}
use Rattle.std.proofs.lemmas.List.FromFn.{get_or-map-range_with_len, length-range_with_len}
use Rattle.std.specs.List.{range_with_len}
use Rattle.pj_shape.specs.declared.joins.CertStep.{CertStep}
use Rattle.pj_shape.specs.declared.joins.JoinSpec.{JoinSpec}
use Rattle.pj_plan.specs.declared.node.Node.{Node as Operation}
use Rattle.pj_plan.specs.declared.node.Node.TheVariants.{Stream as StreamNode, Join as JoinNode}
use Rattle.pj_plan.specs.declared.node.PlanNode.{PlanNode}
use Rattle.pj_plan.specs.Nodes.{inputs_of, joins_of}
use Rattle.pj_plan.specs.Canonical.{no_node, node_at}
use Rattle.pj_plan.specs.Sound.{IsSoundPlan}
use Rattle.pj_scheme.specs.Derived.{inputs_schemes, schemes_of}
use Rattle.pj_shape.specs.Certificates.{IsCertificate}
use Rattle.pj_graph.specs.Saturation.{certificate_of}
use Rattle.pj_safety.specs.Certificates.{AreCertificates, certificates_at, certificates_of}
use Rattle.pj_safety.specs.Safety.{schemes_at, spec_at, spec_in}
use Rattle.pj_laws.specs.HistoryLaws.{AllAreCertified}
use Rattle.pj_core.specs.Plans.{nodes_of, run_plan}
use Rattle.pj_safe_core.specs.Verified.{AreVerified, AreVerifiedAt}
use Rattle.pj_safe_core.proofs.Verified.{verified_certified}

-- behind the last node stands none
none-behind : (nodes : List PlanNode) (n : ℕ) → length nodes ≤ n → get_or nodes n no_node ≡ no_node
none-behind [] n le = refl
none-behind (node ∷ nodes) zero le = absurd (omega (arith, le))
none-behind (node ∷ nodes) (suc n) le = none-behind nodes n (omega (arith, le))

-- those of a join are certificates of its inputs, one each
verified-at : (nodes : List PlanNode) → AreCertificates nodes → (n : ℕ) → AreVerifiedAt nodes n (certificates_at nodes n)
verified-at nodes are n inputs spec e = record { one_each = long; each = each }
  where
    same : length (spec_at nodes n).inputs ≡ length spec.inputs
    same = ap (λ (o : Operation). length (spec_in o).inputs) e

    long : length (certificates_at nodes n) ≡ length spec.inputs
    long =
        length-map (range_with_len 0 (length (spec_at nodes n).inputs)) (certificate_of (spec_at nodes n) (schemes_at nodes n))
        ∙ length-range_with_len 0 (length (spec_at nodes n).inputs) ∙ same

    there : n < length nodes
    there = elim (cases_lt n (length nodes)) [
      | inl lt ↦ lt
      | inr ge ↦ absurd (let q : StreamNode [] ≡ JoinNode inputs spec = ap (λ (x : PlanNode). x.node) (sym (none-behind nodes n ge)) ∙ e in cc)
    ]

    each : (input : ℕ) → input < length spec.inputs → IsCertificate spec (inputs_schemes (schemes_of nodes) inputs) input (get_or (certificates_at nodes n) input [])
    each input low =
        let here : input < length (spec_at nodes n).inputs = omega (arith, low, same) in
        let cert : List CertStep = certificate_of (spec_at nodes n) (schemes_at nodes n) input in
        let is : IsCertificate spec (inputs_schemes (schemes_of nodes) inputs) input cert = subst (λ (o : Operation). IsCertificate (spec_in o) (inputs_schemes (schemes_of nodes) (inputs_of o)) input cert) e (are n there input here) in
        subst (IsCertificate spec (inputs_schemes (schemes_of nodes) inputs) input)
        (sym (get_or-map-range_with_len (certificate_of (spec_at nodes n) (schemes_at nodes n)) 0 (length (spec_at nodes n).inputs) input input [] here (zero-add input))) is

found-verified : (nodes : List PlanNode) → AreCertificates nodes → AreVerified nodes (certificates_of nodes)
found-verified nodes are = record {
  one_each = length-map (joins_of nodes) (certificates_at nodes);
  each = λ place lt.
      subst (AreVerifiedAt nodes (get_or (joins_of nodes) place 0)) (sym (get_or-map (certificates_at nodes) (joins_of nodes) place 0 [] lt)) (verified-at nodes are (get_or (joins_of nodes) place 0));
}

pub run_certified : (nodes : List PlanNode) (trace : Bool) → IsSoundPlan nodes → AreCertificates nodes → AllAreCertified (nodes_of (run_plan nodes (certificates_of nodes) trace))
run_certified nodes trace sound are = verified_certified nodes (certificates_of nodes) trace sound (found-verified nodes are)
