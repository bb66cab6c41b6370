-- Which nodes of a plan are safe, and at which risk the first is that is not.
use Rattle.std.specs.Prelude.{ℕ, ◌<◌, Bool, List, [], length}
use Rattle.std.specs.Option.{unwrap_or}
use Rattle.pj_shape.specs.declared.joins.JoinSpec.{JoinSpec}
use Rattle.pj_shape.specs.Sets.{IsSafe, Reaches}
use Rattle.pj_plan.specs.declared.node.Node.{Node}
use Rattle.pj_plan.specs.declared.node.Node.TheVariants.{Stream, Select, Project, Union, Join, Group}
use Rattle.pj_plan.specs.declared.node.PlanNode.{PlanNode}
use Rattle.pj_plan.specs.Nodes.{inputs_of, join_in}
use Rattle.pj_plan.specs.Canonical.{node_at}
use Rattle.pj_scheme.specs.Derived.{inputs_schemes, schemes_of}
use Rattle.pj_safety.specs.declared.risk.PlanRisk.{PlanRisk}
use Rattle.pj_safety.specs.declared.risk.PlanRisk.TheVariants.{Stuck}

-- ---- the joins of a plan

-- stands for the shape of a join where there is none
abbrev pub no_spec : JoinSpec
no_spec = record { inputs = []; classes = [] }

abbrev pub spec_in : Node → JoinSpec
spec_in node = unwrap_or (join_in node) no_spec

-- the shape of the join of this number
abbrev pub spec_at : List PlanNode → ℕ → JoinSpec
spec_at nodes join = spec_in (node_at nodes join)

-- the derived schemes of its inputs
abbrev pub schemes_at : List PlanNode → ℕ → List (List (List Bool))
schemes_at nodes join = inputs_schemes (schemes_of nodes) (inputs_of (node_at nodes join))

-- the number of its inputs
abbrev pub inputs_at : List PlanNode → ℕ → ℕ
inputs_at nodes join = length (spec_at nodes join).inputs

-- ---- safe nodes

-- the operator is safe, where these are the schemes of all nodes: every input of a join reaches every other
abbrev pub IsSafeOperator : List (List (List Bool)) → Node → Type 0
IsSafeOperator all (Stream schemes) = Unit {0}
IsSafeOperator all (Select input test) = Unit {0}
IsSafeOperator all (Project input columns) = Unit {0}
IsSafeOperator all (Union inputs) = Unit {0}
IsSafeOperator all (Join inputs spec) = IsSafe spec (inputs_schemes all inputs)
IsSafeOperator all (Group input spec) = Unit {0}

-- the node of this number is safe, by the derived schemes
abbrev pub IsSafeNode : List PlanNode → ℕ → Type 0
IsSafeNode nodes n = IsSafeOperator (schemes_of nodes) (node_at nodes n)

-- every node is safe
abbrev pub IsSafePlan : List PlanNode → Type 0
IsSafePlan nodes = (n : ℕ) → n < length nodes → IsSafeNode nodes n

-- ---- nodes at a risk

-- an input of a join reaches all
abbrev pub ReachesAll : JoinSpec → List (List (List Bool)) → ℕ → Type 0
ReachesAll spec schemes from = (to : ℕ) → to < length spec.inputs → Reaches spec schemes from to

-- so many inputs of a join, the first ones, reach all
abbrev pub FirstReachAll : JoinSpec → List (List (List Bool)) → ℕ → Type 0
FirstReachAll spec schemes count = (from : ℕ) → from < count → ReachesAll spec schemes from

-- all inputs of a join before this one reach all, and this one does not reach that one, the least such
pub record IsFirstStuck (spec : JoinSpec) (schemes : List (List (List Bool))) (input missing : ℕ) : Type 0 where
  pub before : FirstReachAll spec schemes input
  pub input_there : input < length spec.inputs
  pub missing_there : missing < length spec.inputs
  pub stuck : ¬ Reaches spec schemes input missing
  pub least : (other : ℕ) → other < missing → Reaches spec schemes input other

-- the operator is at this risk, where these are the schemes of all nodes
abbrev pub IsOperatorRisk : List (List (List Bool)) → Node → PlanRisk → Type 0
IsOperatorRisk all (Stream schemes) risk = ⊥
IsOperatorRisk all (Select input test) risk = ⊥
IsOperatorRisk all (Project input columns) risk = ⊥
IsOperatorRisk all (Union inputs) risk = ⊥
IsOperatorRisk all (Join inputs spec) (Stuck input missing) = IsFirstStuck spec (inputs_schemes all inputs) input missing
IsOperatorRisk all (Group input spec) risk = ⊥

-- the node of this number is at this risk, by the derived schemes
abbrev pub IsRisk : List PlanNode → ℕ → PlanRisk → Type 0
IsRisk nodes n risk = IsOperatorRisk (schemes_of nodes) (node_at nodes n) risk

-- all nodes before this one are safe, and this one is at this risk
pub record IsFirstRisk (nodes : List PlanNode) (n : ℕ) (risk : PlanRisk) : Type 0 where
  pub there : n < length nodes
  pub before : (other : ℕ) → other < n → IsSafeNode nodes other
  pub at_risk : IsRisk nodes n risk
