-- A plan with a first node at a risk is not safe, and has one such node and one such risk alone.
use Rattle.std.proofs.Common.{ℕ, ◌≡◌, arith, Bool, List, sym, ap₂, subst, inl, inr}
use Rattle.std.proofs.lemmas.Bool.{cases_lt}
use Rattle.pj_shape.specs.declared.joins.JoinSpec.{JoinSpec}
use Rattle.pj_plan.specs.declared.node.Node.{Node}
use Rattle.pj_plan.specs.declared.node.Node.TheVariants.{Stream, Select, Project, Union, Join, Group}
use Rattle.pj_plan.specs.declared.node.PlanNode.{PlanNode}
use Rattle.pj_plan.specs.Canonical.{node_at}
use Rattle.pj_scheme.specs.Derived.{inputs_schemes, schemes_of}
use Rattle.pj_safety.specs.declared.risk.PlanRisk.{PlanRisk}
use Rattle.pj_safety.specs.declared.risk.PlanRisk.TheVariants.{Stuck}
use Rattle.pj_safety.specs.Laws.{RiskIsAlone, RiskIsUnsafe}
use Rattle.pj_safety.specs.Safety.{IsFirstRisk, IsFirstStuck, IsOperatorRisk, IsSafeOperator}

-- ---- one join

module _ (spec : JoinSpec) (schemes : List (List (List Bool))) (input missing : ℕ) (f : IsFirstStuck spec schemes input missing) where
  same_input : (i m : ℕ) → IsFirstStuck spec schemes i m → input ≡ i
  same_input i m g = elim (cases_lt input i) [
    | inl before ↦ absurd (f.stuck (g.before input before missing f.missing_there))
    | inr le ↦ elim (cases_lt i input) [
      | inl behind ↦ absurd (g.stuck (f.before i behind m g.missing_there))
      | inr ge ↦ omega (arith, le, ge)
    ]
  ]

  same_missing : (m : ℕ) → IsFirstStuck spec schemes input m → missing ≡ m
  same_missing m g = elim (cases_lt missing m) [
    | inl before ↦ absurd (f.stuck (g.least missing before))
    | inr le ↦ elim (cases_lt m missing) [
      | inl behind ↦ absurd (g.stuck (f.least m behind))
      | inr ge ↦ omega (arith, le, ge)
    ]
  ]

  same_stuck : (i m : ℕ) → IsFirstStuck spec schemes i m → Stuck input missing ≡ Stuck i m
  same_stuck i m g =
      let input_is = same_input i m g in
      ap₂ Stuck input_is (same_missing m (subst (λ (k : ℕ). IsFirstStuck spec schemes k m) (sym input_is) g))

-- ---- one operator

module _ (all : List (List (List Bool))) where
  not_safe : (node : Node) (risk : PlanRisk) → IsOperatorRisk all node risk → IsSafeOperator all node → ⊥
  not_safe (Stream schemes) risk at_risk safe = at_risk
  not_safe (Select input test) risk at_risk safe = at_risk
  not_safe (Project input columns) risk at_risk safe = at_risk
  not_safe (Union inputs) risk at_risk safe = at_risk
  not_safe (Join inputs spec) (Stuck input missing) at_risk safe = at_risk.stuck (safe input missing at_risk.input_there at_risk.missing_there)
  not_safe (Group input spec) risk at_risk safe = at_risk

  same_risk : (node : Node) (risk other : PlanRisk) → IsOperatorRisk all node risk → IsOperatorRisk all node other → risk ≡ other
  same_risk (Stream schemes) risk other f g = absurd f
  same_risk (Select input test) risk other f g = absurd f
  same_risk (Project input columns) risk other f g = absurd f
  same_risk (Union inputs) risk other f g = absurd f
  same_risk (Join inputs spec) (Stuck input missing) (Stuck i m) f g = same_stuck spec (inputs_schemes all inputs) input missing f i m g
  same_risk (Group input spec) risk other f g = absurd f

-- ---- one plan

module _ (nodes : List PlanNode) (n : ℕ) (risk : PlanRisk) (f : IsFirstRisk nodes n risk) where
  same_node : (m : ℕ) (other : PlanRisk) → IsFirstRisk nodes m other → n ≡ m
  same_node m other g = elim (cases_lt n m) [
    | inl before ↦ absurd (not_safe (schemes_of nodes) (node_at nodes n) risk f.at_risk (g.before n before))
    | inr le ↦ elim (cases_lt m n) [
      | inl behind ↦ absurd (not_safe (schemes_of nodes) (node_at nodes m) other g.at_risk (f.before m behind))
      | inr ge ↦ omega (arith, le, ge)
    ]
  ]

pub risk_is_unsafe : RiskIsUnsafe
risk_is_unsafe nodes n risk f safe = not_safe (schemes_of nodes) (node_at nodes n) risk f.at_risk (safe n f.there)

pub risk_is_alone : RiskIsAlone
risk_is_alone nodes n m risk other f g = (
  node_is,
  same_risk (schemes_of nodes) (node_at nodes n) risk other f.at_risk
      (subst (λ (k : ℕ). IsOperatorRisk (schemes_of nodes) (node_at nodes k) other) (sym node_is) g.at_risk),
)
  where
    node_is : n ≡ m
    node_is = same_node nodes n risk f m other g
