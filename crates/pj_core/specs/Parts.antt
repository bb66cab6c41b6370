-- What the parts of a core are seen as, and what its nodes are made of.
use Rattle.std.specs.Prelude.{ℕ, ◌+◌, ◌≡◌, Bool, List, [], ◌∷◌, map, length, slice_index_or, Option}
use Rattle.pj_shape.specs.declared.columns.Column.{Column}
use Rattle.pj_shape.specs.declared.joins.CertStep.{CertStep}
use Rattle.pj_plan.specs.declared.node.Node.{Node as Operation}
use Rattle.pj_plan.specs.declared.node.Node.TheVariants.{Stream as StreamNode, Select as SelectNode, Project as ProjectNode, Union as UnionNode, Join as JoinNode, Group as GroupNode}
use Rattle.pj_plan.specs.declared.node.PlanNode.{PlanNode}
use Rattle.pj_plan.specs.Canonical.{no_node}
use Rattle.pj_plan.specs.Nodes.{parent_of, streams_of, stream_columns, streams_in}
use Rattle.pj_plan.specs.Sound.{IsSoundPlan}
use Rattle.pj_scheme.specs.Derived.{inputs_schemes, schemes_of}
use Rattle.pj_pattern.specs.declared.element.Element.{Element}
use Rattle.pj_pattern.specs.declared.element.Element.TheVariants.{Punct}
use Rattle.pj_events.specs.Patterns.{all_wild}
use Rattle.pj_events.specs.declared.events.Out.{Out}
use Rattle.pj_events.specs.declared.events.Stop.{Stop}
use Rattle.pj_events.specs.CoreKept.{CoreKept}
use Rattle.pj_laws.specs.HistoryLaws.{AllAreCertified}
use Rattle.pj_join.specs.Joins.{join_data}
use Rattle.pj_operator.specs.declared.operator.RunningOperator.{RunningOperator}
use Rattle.pj_operator.specs.Operators.{Frame, GroupKind, JoinKind, Kind, ProjectKind, SelectKind, StreamKind, UnionKind, count_seen, frames_in, kept_seen, peak_seen}
use Rattle.pj_operator.specs.Emitting.{AreOrderly, Emits, Scene}
use Rattle.pj_core.specs.Cores.{CoreState}
use Rattle.pj_core.specs.Plans.{RunPlan, certs_behind, nodes_of}

-- ---- what is seen

-- all that a core with these nodes keeps
abbrev pub all_kept : List RunningOperator → List ℕ → Bool → List Out → Option Stop → CoreKept
all_kept operators closed halted undrained stop = record {
  nodes = map (λ operator. kept_seen operator.state) operators;
  counts = map count_seen operators;
  peaks = map peak_seen operators;
  closed = closed;
  undrained = undrained;
  halted = halted;
  stop = stop;
}

-- what a core with these parts is seen as
abbrev pub core_of : RunPlan → ℕ → List RunningOperator → List ℕ → Bool → List Out → Option Stop → CoreState
core_of plan limit operators closed halted undrained stop = record { plan = plan; limit = limit; kept = all_kept operators closed halted undrained stop }

-- ---- the nodes of a plan

-- an operator of these columns is such a node, with this limit, where these are the schemes of all nodes and, of a join, its
-- number and its certificates
abbrev pub kind_for : List (List (List Bool)) → ℕ → ℕ → List (List CertStep) → List Column → Operation → Kind
kind_for schemes limit number certs columns (StreamNode stated) = StreamKind
kind_for schemes limit number certs columns (SelectNode input test) = SelectKind test
kind_for schemes limit number certs columns (ProjectNode input kept) = ProjectKind kept
kind_for schemes limit number certs columns (UnionNode inputs) = UnionKind (length inputs) (length columns)
kind_for schemes limit number certs columns (JoinNode inputs spec) = JoinKind number (join_data spec (inputs_schemes schemes inputs) certs) limit
kind_for schemes limit number certs columns (GroupNode input spec) = GroupKind spec limit

-- a node of the plan
abbrev pub plan_node : List PlanNode → ℕ → PlanNode
plan_node nodes number = slice_index_or nodes number no_node

abbrev pub frame_for : List PlanNode → ℕ → ℕ → List (List CertStep) → PlanNode → Frame
frame_for nodes limit number certs node = record {
  kind = kind_for (schemes_of nodes) limit number certs node.schema node.node;
  above = parent_of nodes number;
  width = length node.schema;
}

-- these nodes of the plan, from this number on; each join has the next of the certificates
abbrev pub frames_from : List PlanNode → ℕ → ℕ → List (List (List CertStep)) → List PlanNode → List Frame
frames_from all limit number certs [] = []
frames_from all limit number certs (node ∷ nodes) =
    frame_for all limit number (slice_index_or certs 0 []) node ∷ frames_from all limit (number + 1) (certs_behind node certs) nodes

-- the nodes of a plan, where each join and group has this limit
abbrev pub frames_of : RunPlan → ℕ → List Frame
frames_of plan limit = frames_from plan.nodes limit 0 plan.certs plan.nodes

-- the plan is a sound one, each of its joins has certificates, and the nodes are its and orderly
abbrev pub IsMadeOf : RunPlan → ℕ → List RunningOperator → Type 0
IsMadeOf plan limit operators = IsSoundPlan plan.nodes × AllAreCertified (nodes_of plan) × (frames_in operators ≡ frames_of plan limit) × AreOrderly operators

-- the punctuation that closes a stream: a wildcard for each of its columns
abbrev pub closing_in : List PlanNode → ℕ → Element
closing_in nodes stream = Punct (all_wild (length (stream_columns (streams_in nodes) stream)))

-- a stream of the plan closes: its node emits a punctuation with a wildcard for each of its columns
abbrev pub StreamCloses : List PlanNode → ℕ → Scene → Scene → Type 0
StreamCloses nodes stream old new = Emits old new (slice_index_or (streams_of nodes) stream 0) (closing_in nodes stream ∷ [])
