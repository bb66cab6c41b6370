-- The first node of a plan that is at a risk.
use Rattle.std.proofs.Common.{ℕ, ◌+◌, ◌<◌, ◌≤◌, ◌≡◌, length, get_or, drop, arith, Bool, true, false, cond, List, [], ◌∷◌, ◌++◌, map, Option, Some, None, refl, sym, ap, ◌∙◌, subst, append_assoc, append-nil, below_more}
use Rattle.std.proofs.lemmas.List.{drop_all, drop_more}
use Rattle.pj_shape.specs.declared.joins.CertStep.{CertStep}
use Rattle.pj_shape.specs.declared.joins.JoinSpec.{JoinSpec}
use Rattle.pj_plan.specs.declared.node.PlanNode.{PlanNode}
use Rattle.pj_plan.specs.Canonical.{no_node, node_at}
use Rattle.pj_plan.specs.Nodes.{is_join, join_in, numbers_from}
use Rattle.pj_scheme.specs.Derived.{schemes_of}
use Rattle.pj_safety.specs.declared.risk.PlanRisk.{PlanRisk}
use Rattle.pj_safety.specs.declared.risk.PlanRisk.TheVariants.{Stuck}
use Rattle.pj_safety.specs.Certificates.{AreCertificatesAt, certificates_at, certificates_of}
use Rattle.pj_safety.specs.Safety.{IsFirstRisk, IsRisk, IsSafeNode}
use Rattle.pj_safety.proofs.Nodes.{is_no_join, is_some_join, join_safe, join_stuck, no_shape, other_safe}
use Rattle.pj_judge.specs.declared.safety.Judged.TheVariants.{Safe, Unsafe as PlanRefused}
use Rattle.pj_judge.specs.declared.safety.Unsafe.{Unsafe}
use Rattle.pj_judge.specs.declared.safety.Verdict.{Verdict}
use Rattle.pj_judge.specs.declared.safety.Verdict.TheVariants.{Certified, Free, Refused}
use Rattle.pj_judge.specs.Asked.{AreRiskLines, IsAtRisk, IsFirstIn, IsJoinJudged, IsNodeJudged, IsRiskAt, IsRiskOf, asked_of, or_risk}
use Rattle.pj_judge.specs.Checks.{IsAnswer}
use Rattle.pj_judge.specs.Judgments.{AreUnsafeLines, HasUnsafeLines, IsJudgment}
use Rattle.pj_judge.proofs.Inputs.{all_safe}

-- ---- one node

pub other_safe_at : (nodes : List PlanNode) (n : ℕ) → None ≡ join_in (node_at nodes n) → IsSafeNode nodes n
other_safe_at nodes n e = other_safe (schemes_of nodes) (node_at nodes n) (is_no_join (node_at nodes n) e)

risk_of_join : (nodes : List PlanNode) (n : ℕ) (risk : PlanRisk) → is_join (node_at nodes n) ≡ true → IsAtRisk (asked_of nodes n) risk → IsRisk nodes n risk
risk_of_join nodes n (Stuck input missing) is stuck = join_stuck (schemes_of nodes) (node_at nodes n) input missing is stuck

pub risk_at : (nodes : List PlanNode) (n : ℕ) (spec : JoinSpec) (found : Option PlanRisk) → Some spec ≡ join_in (node_at nodes n) → IsRiskOf (asked_of nodes n) found
    → IsRiskAt nodes n found
risk_at nodes n spec None e all = join_safe (schemes_of nodes) (node_at nodes n) (is_some_join (node_at nodes n) spec e) (all_safe (asked_of nodes n) all)
risk_at nodes n spec (Some risk) e stuck = risk_of_join nodes n risk (is_some_join (node_at nodes n) spec e) stuck

-- ---- the first of them

-- so many nodes, the first ones, are safe
abbrev pub FirstAreSafe : List PlanNode → ℕ → Type 0
FirstAreSafe nodes n = (other : ℕ) → other < n → IsSafeNode nodes other

one_more : (nodes : List PlanNode) (n : ℕ) → FirstAreSafe nodes n → IsSafeNode nodes n → FirstAreSafe nodes (n + 1)
one_more nodes n before safe = below_more (IsSafeNode nodes) n before safe

pub no_first : (nodes : List PlanNode) → IsFirstIn nodes 0 None
no_first nodes other lt = absurd (omega (arith, lt))

pub first_more : (nodes : List PlanNode) (n : ℕ) (first : Option (ℕ × PlanRisk)) (found : Option PlanRisk) → IsFirstIn nodes n first → n < length nodes
    → IsRiskAt nodes n found → IsFirstIn nodes (n + 1) (or_risk first n found)
first_more nodes n (Some first) found is lt this = is
first_more nodes n None None is lt this = one_more nodes n is this
first_more nodes n None (Some risk) is lt this = record { there = lt; before = is; at_risk = this }

pub answered : (nodes : List PlanNode) (n : ℕ) (first : Option (ℕ × PlanRisk)) → n ≡ length nodes → IsFirstIn nodes n first → IsAnswer nodes first
answered nodes n None e is = subst (FirstAreSafe nodes) e is
answered nodes n (Some first) e is = is

-- ---- what is found of a plan

-- the certificates of the joins from this node on
abbrev pub certificates_from : List PlanNode → ℕ → List (List (List CertStep))
certificates_from nodes n = map (certificates_at nodes) (numbers_from is_join n (drop n nodes))

-- so many nodes, the first ones, are safe, and these are the certificates of the joins among them
pub record FirstAreJudged (nodes : List PlanNode) (n : ℕ) (certs : List (List (List CertStep))) : Type 0 where
  pub safe : FirstAreSafe nodes n
  pub in_order : certs ++ certificates_from nodes n ≡ certificates_of nodes
  pub valid : (other : ℕ) → other < n → AreCertificatesAt nodes other

pub none_yet : (nodes : List PlanNode) → FirstAreJudged nodes 0 []
none_yet nodes = record { safe = λ other lt. absurd (omega (arith, lt)); in_order = refl; valid = λ other lt. absurd (omega (arith, lt)) }

module _ (nodes : List PlanNode) (n : ℕ) (lt : n < length nodes) where
  abbrev rest : List ℕ
  rest = numbers_from is_join (n + 1) (drop (n + 1) nodes)

  from_here : certificates_from nodes n ≡ map (certificates_at nodes) (cond (is_join (node_at nodes n)) (n ∷ rest) rest)
  from_here = ap (λ (ns : List PlanNode). map (certificates_at nodes) (numbers_from is_join n ns)) (drop_more nodes n no_node lt)

  from_other : is_join (node_at nodes n) ≡ false → certificates_from nodes n ≡ certificates_from nodes (n + 1)
  from_other e = from_here ∙ ap (λ (b : Bool). map (certificates_at nodes) (cond b (n ∷ rest) rest)) e

  from_join : is_join (node_at nodes n) ≡ true → certificates_from nodes n ≡ certificates_at nodes n ∷ certificates_from nodes (n + 1)
  from_join e = from_here ∙ ap (λ (b : Bool). map (certificates_at nodes) (cond b (n ∷ rest) rest)) e

none_at : (nodes : List PlanNode) (n : ℕ) → is_join (node_at nodes n) ≡ false → AreCertificatesAt nodes n
none_at nodes n e input lt = absurd (let none : input < 0 = subst (λ (spec : JoinSpec). input < length spec.inputs) (no_shape (node_at nodes n) e) lt in omega (arith, none))

pub other_more : (nodes : List PlanNode) (n : ℕ) (certs : List (List (List CertStep))) → FirstAreJudged nodes n certs → n < length nodes
    → IsNodeJudged nodes n Free → FirstAreJudged nodes (n + 1) certs
other_more nodes n certs before lt e = record {
  safe = one_more nodes n before.safe (other_safe (schemes_of nodes) (node_at nodes n) e);
  in_order = ap (λ (cs : List (List (List CertStep))). certs ++ cs) (sym (from_other nodes n lt e)) ∙ before.in_order;
  valid = below_more (AreCertificatesAt nodes) n before.valid (none_at nodes n e);
}

pub one_certified : (nodes : List PlanNode) (n : ℕ) (list : List (List CertStep)) (certs more : List (List (List CertStep))) → FirstAreJudged nodes n certs
    → n < length nodes → IsNodeJudged nodes n (Certified list) → more ≡ certs ++ list ∷ [] → FirstAreJudged nodes (n + 1) more
one_certified nodes n list certs more before lt (is, found) pushed = record {
  safe = one_more nodes n before.safe (join_safe (schemes_of nodes) (node_at nodes n) is (all_safe (asked_of nodes n) found.everywhere));
  in_order =
      ap (λ (cs : List (List (List CertStep))). cs ++ certificates_from nodes (n + 1)) pushed
      ∙ append_assoc certs (list ∷ []) (certificates_from nodes (n + 1))
      ∙ ap (λ (cs : List (List CertStep)). certs ++ cs ∷ certificates_from nodes (n + 1)) found.in_order
      ∙ ap (λ (cs : List (List (List CertStep))). certs ++ cs) (sym (from_join nodes n lt is))
      ∙ before.in_order;
  valid = below_more (AreCertificatesAt nodes) n before.valid found.valid;
}

pub plan_certified : (nodes : List PlanNode) (n : ℕ) (certs : List (List (List CertStep))) → n ≡ length nodes → FirstAreJudged nodes n certs → IsJudgment nodes (Safe certs)
plan_certified nodes n certs e all = (
  subst (FirstAreSafe nodes) e all.safe,
  sym (append-nil certs)
      ∙ ap (λ (ns : List PlanNode). certs ++ map (certificates_at nodes) (numbers_from is_join n ns)) (sym (drop_all n nodes (omega (arith, e))))
      ∙ all.in_order,
  subst (λ (m : ℕ). (other : ℕ) → other < m → AreCertificatesAt nodes other) e all.valid,
)

unsafe_lines_are : (nodes : List PlanNode) (n : ℕ) (risk : PlanRisk) (lines : List (List ℕ)) → AreRiskLines (asked_of nodes n) risk lines → AreUnsafeLines nodes n risk lines
unsafe_lines_are nodes n (Stuck input missing) lines are =
    (are.reached, record { rising = are.stuck.in_order; exactly = are.stuck.exactly }, are.told)

pub plan_refused : (nodes : List PlanNode) (n : ℕ) (certs : List (List (List CertStep))) (found : Unsafe) → FirstAreJudged nodes n certs → n < length nodes
    → IsNodeJudged nodes n (Refused found) → IsJudgment nodes (PlanRefused found)
plan_refused nodes n certs found before lt (is, refused) =
    subst (λ (m : ℕ). IsFirstRisk nodes m found.risk × AreUnsafeLines nodes m found.risk found.lines) (sym refused.same)
    (record { there = lt; before = before.safe; at_risk = risk_of_join nodes n found.risk is refused.at_risk }, unsafe_lines_are nodes n found.risk found.lines refused.told)

-- ---- what is told of it

pub judged_at : (nodes : List PlanNode) (n : ℕ) (spec : JoinSpec) (verdict : Verdict) → Some spec ≡ join_in (node_at nodes n) → IsJoinJudged (asked_of nodes n) n verdict
    → IsNodeJudged nodes n verdict
judged_at nodes n spec Free e found = absurd found
judged_at nodes n spec (Certified certs) e found = (is_some_join (node_at nodes n) spec e, found)
judged_at nodes n spec (Refused found) e refused = (is_some_join (node_at nodes n) spec e, refused)

pub judged_notes : (nodes : List PlanNode) (n : ℕ) (found : Unsafe) → IsNodeJudged nodes n (Refused found) → HasUnsafeLines found
judged_notes nodes n found (is, refused) = refused.notes
