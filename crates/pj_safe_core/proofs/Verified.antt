-- Certificates that were verified are what histories ask of the joins of a plan.
use Rattle.std.proofs.Common.{ℕ, zero, suc, ◌+◌, ◌<◌, ◌≡◌, Bool, true, false, cond, List, [], ◌∷◌, map, length, drop, get_or, refl, sym, ap, ◌∙◌, subst, zero-add, arith}
use Rattle.std.proofs.lemmas.Bool.{false≢true}
use Rattle.std.proofs.lemmas.List.{get_or-drop, length-map}
use Rattle.pj_shape.specs.declared.columns.Column.{Column}
use Rattle.pj_shape.specs.declared.joins.CertStep.{CertStep}
use Rattle.pj_shape.specs.declared.joins.JoinSpec.{JoinSpec}
use Rattle.pj_shape.specs.Sound.{FitSchemes}
use Rattle.pj_plan.specs.declared.node.Node.{Node as Operation}
use Rattle.pj_plan.specs.declared.node.Node.TheVariants.{Stream as StreamNode, Select as SelectNode, Project as ProjectNode, Union as UnionNode, Join as JoinNode, Group as GroupNode}
use Rattle.pj_plan.specs.declared.node.PlanNode.{PlanNode}
use Rattle.pj_plan.specs.Canonical.{node_at, node_schema}
use Rattle.pj_plan.specs.Nodes.{inputs_of, is_join, joins_of, numbers_from}
use Rattle.pj_plan.specs.Sound.{IsSoundOperator, IsSoundPlan}
use Rattle.pj_scheme.specs.Derived.{inputs_schemes, schemes_of}
use Rattle.pj_scheme.proofs.Wide.{joins_fit}
use Rattle.pj_events.specs.Join.{AreCertified}
use Rattle.pj_laws.specs.HistoryLaws.{AllAreCertified, Certified}
use Rattle.pj_join.specs.Joins.{join_data}
use Rattle.pj_core.specs.Plans.{nodes_of, operator_of, run_plan}
use Rattle.pj_core.proofs.Frames.{certs_at, operator-is}
use Rattle.pj_core.proofs.Planned.{with-long}
use Rattle.pj_safe_core.specs.Verified.{AreCertificatesFor, AreVerified, AreVerifiedAt}

-- ---- the place of a join among the joins

-- the number stands at a place of the list, and at the same place of the certificates are these
record IsPlaced (numbers : List ℕ) (certs : List (List (List CertStep))) (number : ℕ) (own : List (List CertStep)) : Type 0 where
  place : ℕ
  there : place < length numbers
  number_is : get_or numbers place 0 ≡ number
  own_is : get_or certs place [] ≡ own

placed : (k : ℕ) (nodes : List PlanNode) (certs : List (List (List CertStep))) (n : ℕ) → n < length nodes → is_join (node_at nodes n) ≡ true
    → IsPlaced (numbers_from is_join k nodes) certs (k + n) (certs_at nodes certs n)
placed k [] certs n lt is = absurd (omega (arith, lt))
placed k (node ∷ nodes) certs zero lt is = go (is_join node.node) is
  where
    others : List ℕ
    others = numbers_from is_join (k + 1) nodes

    go : (b : Bool) → b ≡ true → IsPlaced (cond b (k ∷ others) others) certs (k + 0) (get_or certs 0 [])
    go true e = record { place = 0; there = omega arith; number_is = omega arith; own_is = refl }
    go false e = absurd (false≢true e)
placed k (node ∷ nodes) certs (suc n) lt is = go (is_join node.node) (λ cs. placed (k + 1) nodes cs n (omega (arith, lt)) is)
  where
    others : List ℕ
    others = numbers_from is_join (k + 1) nodes

    same : k + 1 + n ≡ k + suc n
    same = omega arith

    go : (b : Bool) → ((cs : List (List (List CertStep))) → IsPlaced others cs (k + 1 + n) (certs_at nodes cs n))
        → IsPlaced (cond b (k ∷ others) others) certs (k + suc n) (certs_at nodes (cond b (drop 1 certs) certs) n)
    go true ih =
        let p = ih (drop 1 certs) in
        let next : suc p.place ≡ 1 + p.place = omega arith in
        record {
          place = suc p.place;
          there = let lt = p.there in omega (arith, lt);
          number_is = p.number_is ∙ same;
          own_is = ap (λ (m : ℕ). get_or certs m []) next ∙ sym (get_or-drop 1 certs p.place []) ∙ p.own_is;
        }
    go false ih = let p = ih certs in record { place = p.place; there = p.there; number_is = p.number_is ∙ same; own_is = p.own_is }

-- ---- a node

module _ (nodes : List PlanNode) (certs : List (List (List CertStep))) (sound : IsSoundPlan nodes) (are : AreVerified nodes certs) (n : ℕ) (lt : n < length nodes) where
  abbrev own : List (List CertStep)
  own = certs_at nodes certs n

  -- the certificates of a join are those at its place
  own_verified : is_join (node_at nodes n) ≡ true → AreVerifiedAt nodes n own
  own_verified is =
      let p = placed 0 nodes certs n lt is in
      subst (λ (m : ℕ). AreVerifiedAt nodes m own) (p.number_is ∙ zero-add n)
      (subst (AreVerifiedAt nodes (get_or (joins_of nodes) p.place 0)) p.own_is (are.each p.place p.there))

  join_certified : (inputs : List ℕ) (spec : JoinSpec) → node_at nodes n ≡ JoinNode inputs spec → AreCertified (join_data spec (inputs_schemes (schemes_of nodes) inputs) own)
  join_certified inputs spec e = record {
    apart = fits.0.apart;
    fitting = wide;
    each = λ input low. these.each input (let long = length-map spec.inputs length in omega (arith, low, long));
  }
    where
      fits : IsSoundOperator nodes (node_schema nodes n) (JoinNode inputs spec)
      fits = subst (IsSoundOperator nodes (node_schema nodes n)) e (sound.each n lt).operator

      wide : FitSchemes spec.inputs (inputs_schemes (schemes_of nodes) inputs)
      wide =
          subst (λ (schemas : List (List Column)). FitSchemes schemas (inputs_schemes (schemes_of nodes) inputs)) (sym fits.1)
          (subst (λ (o : Operation). FitSchemes (map (node_schema nodes) (inputs_of o)) (inputs_schemes (schemes_of nodes) (inputs_of o))) e (joins_fit nodes sound n lt (ap is_join e)))

      these : AreCertificatesFor spec (inputs_schemes (schemes_of nodes) inputs) own
      these = own_verified (ap is_join e) inputs spec e

  node_verified : (o : Operation) → node_at nodes n ≡ o → Certified (operator_of (schemes_of nodes) own (node_schema nodes n) o)
  node_verified (StreamNode stated) e = tt
  node_verified (SelectNode input test) e = tt
  node_verified (ProjectNode input kept) e = tt
  node_verified (UnionNode inputs) e = tt
  node_verified (JoinNode inputs spec) e = join_certified inputs spec e
  node_verified (GroupNode input spec) e = tt

-- in a sound plan certificates that were verified are those that histories ask of its joins
pub verified_certified : (nodes : List PlanNode) (certs : List (List (List CertStep))) (trace : Bool) → IsSoundPlan nodes → AreVerified nodes certs
    → AllAreCertified (nodes_of (run_plan nodes certs trace))
verified_certified nodes certs trace sound are = λ n lt.
    let there : n < length nodes = let long = with-long (schemes_of nodes) certs nodes in omega (arith, lt, long) in
    subst Certified (sym (operator-is (schemes_of nodes) certs nodes n there)) (node_verified nodes certs sound are n there (node_at nodes n) refl)
