-- The streams and the joins of a core's plan, as the histories of a hub speak of them.
use Rattle.std.proofs.Common.{ℕ, ◌+◌, ◌<◌, Bool, true, List, [], ◌∷◌, ◌≡◌, length, get_or, refl, ap, ◌∙◌, subst, arith}
use Rattle.std.proofs.lemmas.Bool.{false≢true}
use Rattle.std.proofs.lemmas.List.{length-map}
use Rattle.pj_shape.specs.declared.columns.Column.{Column}
use Rattle.pj_shape.specs.declared.joins.CertStep.{CertStep}
use Rattle.pj_plan.specs.declared.node.Node.{Node as Operation}
use Rattle.pj_plan.specs.declared.node.Node.TheVariants.{Stream as StreamNode, Select as SelectNode, Project as ProjectNode, Union as UnionNode, Join as JoinNode, Group as GroupNode}
use Rattle.pj_plan.specs.declared.node.PlanNode.{PlanNode}
use Rattle.pj_plan.specs.Canonical.{no_node, node_schema}
use Rattle.pj_plan.specs.Nodes.{inputs_of, is_join, is_stream, streams_of, stream_columns, streams_in}
use Rattle.pj_plan.specs.Sound.{IsSoundOperator, IsSoundPlan}
use Rattle.pj_scheme.specs.Derived.{inputs_schemes, schemes_of}
use Rattle.pj_events.specs.Join.{inputs}
use Rattle.pj_events.specs.Plan.{Operator, operator_at}
use Rattle.pj_events.specs.History.{streams_of as streams_among}
use Rattle.pj_events.specs.OneThread.{schema_of}
use Rattle.pj_laws.specs.HistoryLaws.{schema_at}
use Rattle.pj_join.specs.Joins.{join_data}
use Rattle.pj_core.specs.Calls.{IsJoinInput}
use Rattle.pj_core.specs.Cores.{CoreState}
use Rattle.pj_core.specs.Plans.{RunPlan, nodes_of, operator_of}
use Rattle.pj_core.proofs.Frames.{certs_at, operator-is}
use Rattle.pj_core.proofs.Planned.{nodes-long}
use Rattle.pj_core.proofs.Streams.{columns_there, number_below, stream-number, stream-there, streams-with}
use Rattle.pj_core_laws.proofs.PlainAnswers.{same-streams}
use Rattle.pj_laws.specs.Seats.{HasInput, IsInputOf}

-- ---- streams

pub stream-below : (plan : RunPlan) (s : ℕ) → s < length (streams_among (nodes_of plan)) → s < length (streams_of plan.nodes)
stream-below plan s lt = subst (λ (ns : List ℕ). s < length ns) (same-streams plan) lt

stream-schema : (schemes : List (List (List Bool))) (certs : List (List CertStep)) (columns : List Column) (operation : Operation) → is_stream operation ≡ true → schema_of (operator_of schemes certs columns operation) ≡ columns
stream-schema schemes certs columns (StreamNode stated) t = refl
stream-schema schemes certs columns (SelectNode input test) t = absurd (false≢true t)
stream-schema schemes certs columns (ProjectNode input kept) t = absurd (false≢true t)
stream-schema schemes certs columns (UnionNode ins) t = absurd (false≢true t)
stream-schema schemes certs columns (JoinNode ins spec) t = absurd (false≢true t)
stream-schema schemes certs columns (GroupNode input spec) t = absurd (false≢true t)

-- the columns of a stream are those of the plan
pub schema-is : (plan : RunPlan) (s : ℕ) → s < length (streams_of plan.nodes) → schema_at (nodes_of plan) s ≡ stream_columns (streams_in plan.nodes) s
schema-is plan s lt =
    ap (λ (n : ℕ). schema_of (operator_at (nodes_of plan) n)) (stream-number plan [] s lt)
    ∙ ap schema_of (operator-is (schemes_of plan.nodes) plan.certs plan.nodes place (number_below plan.nodes s lt))
    ∙ stream-schema (schemes_of plan.nodes) (certs_at plan.nodes plan.certs place) (get_or plan.nodes place no_node).schema (get_or plan.nodes place no_node).node (stream-there plan.nodes s lt)
    ∙ columns_there plan.nodes s lt
  where
    place : ℕ
    place = get_or (streams_of plan.nodes) s 0

-- ---- joins

join-of : (nodes : List PlanNode) (schemes : List (List (List Bool))) (certs : List (List CertStep)) (columns : List Column) (operation : Operation) (input : ℕ) → IsSoundOperator nodes columns operation → HasInput (operator_of schemes certs columns operation) input
    → (is_join operation ≡ true) × (input < length (inputs_of operation))
join-of nodes schemes certs columns (StreamNode stated) input s h = absurd h
join-of nodes schemes certs columns (SelectNode i test) input s h = absurd h
join-of nodes schemes certs columns (ProjectNode i kept) input s h = absurd h
join-of nodes schemes certs columns (UnionNode ins) input s h = absurd h
join-of nodes schemes certs columns (JoinNode ins spec) input s h =
    let many : inputs (join_data spec (inputs_schemes schemes ins) certs) ≡ length ins = length-map spec.inputs length ∙ ap length s.1 ∙ length-map ins (node_schema nodes) in
    (refl, omega (arith, h, many))
join-of nodes schemes certs columns (GroupNode i spec) input s h = absurd h

-- an input of a join of the hub's plan is one of the core's
pub input-there : (core : CoreState) (join input : ℕ) → IsSoundPlan core.plan.nodes → IsInputOf (nodes_of core.plan) join input → IsJoinInput core join input
input-there core join input sound at =
    let lt : join < length core.plan.nodes = let a = at.0 in omega (arith, a, nodes-long core.plan) in
    let is = operator-is (schemes_of core.plan.nodes) core.plan.certs core.plan.nodes join lt in
    let j = join-of core.plan.nodes (schemes_of core.plan.nodes) (certs_at core.plan.nodes core.plan.certs join) (get_or core.plan.nodes join no_node).schema (get_or core.plan.nodes join no_node).node input (sound.each join lt).operator
    (subst (λ (o : Operator). HasInput o input) is at.1) in
    ((lt, j.0), j.1)
