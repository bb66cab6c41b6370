-- The nodes of a plan as histories speak of them, and which plans a core runs.
use Rattle.std.specs.Prelude.{ℕ, Bool, if◌then◌else◌, List, [], ◌∷◌, drop, length, slice_index_or}
use Rattle.pj_shape.specs.declared.columns.Column.{Column}
use Rattle.pj_plan.specs.declared.node.Node.{Node as Operation}
use Rattle.pj_plan.specs.declared.node.Node.TheVariants.{Stream as StreamNode, Select as SelectNode, Project as ProjectNode, Union as UnionNode, Join as JoinNode, Group as GroupNode}
use Rattle.pj_plan.specs.declared.node.PlanNode.{PlanNode}
use Rattle.pj_plan.specs.Nodes.{inputs_of, is_join}
use Rattle.pj_shape.specs.declared.joins.CertStep.{CertStep}
use Rattle.pj_shape.specs.declared.joins.JoinSpec.{JoinSpec}
use Rattle.pj_scheme.specs.Derived.{schemes_of, inputs_schemes}
use Rattle.pj_events.specs.Join.{start}
use Rattle.pj_events.specs.Plan.{Operator, Stream, Select, Project, Union, Join, Group, Node}
use Rattle.pj_join.specs.Joins.{join_data}

-- ---- nodes

-- A plan as it is run: its nodes, for each join in order a certificate of each of its inputs, and whether the rows that
-- sweeps remove are noted
pub record RunPlan : Type 0 where
  pub nodes : List PlanNode
  pub certs : List (List (List CertStep))
  pub trace : Bool

abbrev pub run_plan : List PlanNode → List (List (List CertStep)) → Bool → RunPlan
run_plan nodes certs trace = record { nodes = nodes; certs = certs; trace = trace }

-- the join of these inputs at its start, with the schemes of these nodes that feed it, and these certificates
abbrev pub join_at_start : List (List (List Bool)) → List (List CertStep) → List ℕ → JoinSpec → Operator
join_at_start schemes certs inputs spec = Join (join_data spec (inputs_schemes schemes inputs) certs) start

-- an operator at its start, with these columns, where these are the schemes of all nodes and, of a join, the certificates
abbrev pub operator_of : List (List (List Bool)) → List (List CertStep) → List Column → Operation → Operator
operator_of schemes certs columns (StreamNode stated) = Stream columns []
operator_of schemes certs columns (SelectNode input test) = Select test
operator_of schemes certs columns (ProjectNode input kept) = Project kept
operator_of schemes certs columns (UnionNode inputs) = Union (length inputs) (record { came = []; waiting = [] })
operator_of schemes certs columns (JoinNode inputs spec) = join_at_start schemes certs inputs spec
operator_of schemes certs columns (GroupNode input spec) = Group spec []

abbrev pub node_of : List (List (List Bool)) → List (List CertStep) → PlanNode → Node
node_of schemes certs node = record { inputs = inputs_of node.node; operator = operator_of schemes certs node.schema node.node }

-- the certificates that are left for the joins behind a node
abbrev pub certs_behind : PlanNode → List (List (List CertStep)) → List (List (List CertStep))
certs_behind node certs = if is_join node.node then drop 1 certs else certs

-- these nodes at their starts; each join has the next of the certificates
abbrev pub nodes_with : List (List (List Bool)) → List (List (List CertStep)) → List PlanNode → List Node
nodes_with schemes certs [] = []
nodes_with schemes certs (node ∷ nodes) =
    node_of schemes (slice_index_or certs 0 []) node ∷ nodes_with schemes (certs_behind node certs) nodes

-- the nodes of a plan at their starts
abbrev pub nodes_of : RunPlan → List Node
nodes_of plan = nodes_with (schemes_of plan.nodes) plan.certs plan.nodes
