-- Laws of the schemes of a sound plan.
use Rattle.std.specs.Prelude.{ℕ, ◌≡◌, ◌<◌, ◌≤◌, true, List, map, length}
use Rattle.pj_plan.specs.declared.node.PlanNode.{PlanNode}
use Rattle.pj_plan.specs.Nodes.{inputs_of, is_join}
use Rattle.pj_plan.specs.Canonical.{node_at, node_schema}
use Rattle.pj_plan.specs.Sound.{IsSoundPlan}
use Rattle.pj_scheme.specs.Derived.{schemes_at, schemes_of, inputs_schemes}
use Rattle.pj_scheme.specs.Fitting.{AreAsWide}
use Rattle.pj_shape.specs.Sound.{FitSchemes}

-- each scheme of a node is as long as the node's schema
abbrev pub NodesFit : Type 0
NodesFit = (nodes : List PlanNode) → IsSoundPlan nodes → AreAsWide nodes (schemes_of nodes)

-- these schemes of inputs fit the inputs
abbrev pub InputsFit : List PlanNode → List ℕ → Type 0
InputsFit nodes inputs = FitSchemes (map (node_schema nodes) inputs) (inputs_schemes (schemes_of nodes) inputs)

-- each scheme of an input of a join is as long as the input's schema
abbrev pub JoinsFit : Type 0
JoinsFit =
    (nodes : List PlanNode) → IsSoundPlan nodes → (join : ℕ) → join < length nodes → is_join (node_at nodes join) ≡ true
    → InputsFit nodes (inputs_of (node_at nodes join))

-- a node has at most 16 schemes for each of 16 streams
abbrev pub SchemesAreFew : Type 0
SchemesAreFew = (nodes : List PlanNode) → IsSoundPlan nodes → (n : ℕ) → n < length nodes → length (schemes_at (schemes_of nodes) n) ≤ 256
