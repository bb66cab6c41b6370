-- What the making of a node asks of the nodes and the statement.
use Rattle.std.specs.Prelude.{ℕ, ◌≤◌, List, length}
use Rattle.pj_plan.specs.declared.node.PlanNode.{PlanNode}
use Rattle.pj_plan.specs.Made.{schema_of}

-- at most 64 nodes, each of at most 120 columns
pub record AreSmall (nodes : List PlanNode) : Type 0 where
  pub few : length nodes ≤ 64
  pub narrow : (name : List ℕ) → length (schema_of nodes name) ≤ 120
