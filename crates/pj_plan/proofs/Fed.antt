-- The nodes of a sound plan have few inputs.
use Rattle.std.proofs.Common.{◌≤◌, All, List, length, arith, ap, subst}
use Rattle.std.proofs.lemmas.List.{get_or_default, length-map}
use Rattle.pj_shape.specs.declared.columns.Column.{Column}
use Rattle.pj_plan.specs.declared.node.PlanNode.{PlanNode}
use Rattle.pj_plan.specs.declared.node.Node.{Node}
use Rattle.pj_plan.specs.declared.node.Node.TheVariants.{Stream, Select, Project, Union, Join, Group}
use Rattle.pj_plan.specs.Nodes.{inputs_of}
use Rattle.pj_plan.specs.Canonical.{no_node, node_at, node_schema}
use Rattle.pj_plan.specs.Sound.{IsSoundOperator, IsSoundPlan}

few : (nodes : List PlanNode) (schema : List Column) (node : Node) → IsSoundOperator nodes schema node → length (inputs_of node) ≤ 16
few nodes schema (Stream schemes) sound = omega arith
few nodes schema (Select input test) sound = omega arith
few nodes schema (Project input columns) sound = omega arith
few nodes schema (Union inputs) sound = sound.1
few nodes schema (Join inputs spec) sound = omega (arith, sound.0.few_inputs.1, ap length sound.1, length-map inputs (node_schema nodes))
few nodes schema (Group input spec) sound = omega arith

pub few_inputs : (nodes : List PlanNode) → IsSoundPlan nodes → All (λ node. length (inputs_of node.node) ≤ 16) nodes
few_inputs nodes sound k node lt =
    subst (λ (m : PlanNode). length (inputs_of m.node) ≤ 16) (get_or_default nodes k no_node node lt)
    (few nodes (node_schema nodes k) (node_at nodes k) (sound.each k lt).operator)
