-- What a sound plan says of one node.
use Rattle.std.proofs.Common.{ℕ, ◌<◌, length, get_or, arith, List}
use Rattle.pj_value.proofs.Members.{in-place}
use Rattle.pj_shape.specs.declared.columns.Column.{Column}
use Rattle.pj_plan.specs.declared.node.Node.{Node}
use Rattle.pj_plan.specs.declared.node.Node.TheVariants.{Stream, Select, Project, Union, Join, Group}
use Rattle.pj_plan.specs.declared.node.PlanNode.{PlanNode}
use Rattle.pj_plan.specs.Nodes.{inputs_of}
use Rattle.pj_plan.specs.Canonical.{node_at, node_schema}
use Rattle.pj_plan.specs.Sound.{IsSoundPlan, IsSoundOperator}
use Rattle.pj_scheme.specs.Fitting.{IsNarrow}

narrow : (nodes : List PlanNode) (schema : List Column) (node : Node) → IsSoundOperator nodes schema node → IsNarrow node
narrow nodes schema (Stream schemes) sound = tt
narrow nodes schema (Select input test) sound = tt
narrow nodes schema (Project input columns) sound = tt
narrow nodes schema (Union inputs) sound = tt
narrow nodes schema (Join inputs spec) sound = sound.0.few_columns
narrow nodes schema (Group input spec) sound = tt

pub is_narrow : (nodes : List PlanNode) (n : ℕ) → IsSoundPlan nodes → n < length nodes → IsNarrow (node_at nodes n)
is_narrow nodes n sound lt = narrow nodes (node_schema nodes n) (node_at nodes n) (sound.each n lt).operator

-- the nodes that feed a node are there
pub input_there : (nodes : List PlanNode) (n k : ℕ) → IsSoundPlan nodes → n < length nodes → k < length (inputs_of (node_at nodes n))
    → get_or (inputs_of (node_at nodes n)) k 0 < length nodes
input_there nodes n k sound lt h =
    omega (arith, (sound.each n lt).before (get_or (inputs_of (node_at nodes n)) k 0) (in-place (inputs_of (node_at nodes n)) 0 k h))
