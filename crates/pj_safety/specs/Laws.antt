-- Laws of safe plans.
use Rattle.std.specs.Prelude.{ℕ, ◌≡◌, ◌↔◌, List}
use Rattle.pj_value.specs.Lists.{In}
use Rattle.pj_shape.specs.Sets.{IsSafe}
use Rattle.pj_plan.specs.declared.node.PlanNode.{PlanNode}
use Rattle.pj_plan.specs.Nodes.{joins_of}
use Rattle.pj_safety.specs.declared.risk.PlanRisk.{PlanRisk}
use Rattle.pj_safety.specs.Safety.{IsFirstRisk, IsSafePlan, schemes_at, spec_at}

-- every input of each join reaches every other, by its derived schemes
abbrev pub JoinsAreSafe : List PlanNode → Type 0
JoinsAreSafe nodes = (join : ℕ) → In join (joins_of nodes) → IsSafe (spec_at nodes join) (schemes_at nodes join)

-- all nodes are safe exactly where all joins are
abbrev pub JudgedByNodes : Type 0
JudgedByNodes = (nodes : List PlanNode) → IsSafePlan nodes ↔ JoinsAreSafe nodes

-- a plan with a first node at a risk is not safe
abbrev pub RiskIsUnsafe : Type 0
RiskIsUnsafe = (nodes : List PlanNode) (n : ℕ) (risk : PlanRisk) → IsFirstRisk nodes n risk → ¬ IsSafePlan nodes

-- a plan has one first node at a risk at most, and that one risk
abbrev pub RiskIsAlone : Type 0
RiskIsAlone =
    (nodes : List PlanNode) (n m : ℕ) (risk other : PlanRisk) → IsFirstRisk nodes n risk → IsFirstRisk nodes m other → (n ≡ m) × (risk ≡ other)
