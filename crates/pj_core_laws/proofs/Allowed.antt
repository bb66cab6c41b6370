-- Which steps of a core are allowed.
use Rattle.std.proofs.Common.{ℕ, ◌<◌, Bool, true, false, List, ◌≡◌, None, length, get_or, inl, refl, sym, ap, ◌∙◌, subst, arith}
use Rattle.std.proofs.lemmas.Bool.{false≢true}
use Rattle.std.proofs.lemmas.List.{length-map}
use Rattle.pj_shape.specs.declared.columns.Column.{Column}
use Rattle.pj_shape.specs.declared.joins.CertStep.{CertStep}
use Rattle.pj_plan.specs.declared.node.Node.{Node as Operation}
use Rattle.pj_plan.specs.declared.node.Node.TheVariants.{Stream as StreamNode, Select as SelectNode, Project as ProjectNode, Union as UnionNode, Join as JoinNode, Group as GroupNode}
use Rattle.pj_plan.specs.declared.node.PlanNode.{PlanNode}
use Rattle.pj_plan.specs.Canonical.{no_node, node_schema}
use Rattle.pj_plan.specs.Nodes.{inputs_of, is_join}
use Rattle.pj_plan.specs.Sound.{IsSoundOperator, IsSoundPlan}
use Rattle.pj_scheme.specs.Derived.{inputs_schemes, schemes_of}
use Rattle.pj_events.specs.declared.events.Entry.{Entry}
use Rattle.pj_events.specs.Join.{inputs}
use Rattle.pj_events.specs.Plan.{Operator}
use Rattle.pj_events.specs.History.{IsOn, reached_of}
use Rattle.pj_laws.specs.HistoryLaws.{AllAreCertified}
use Rattle.pj_laws.specs.Seats.{HasInput, IsInputOf}
use Rattle.pj_laws.proofs.Held.{give-allowed, sweep-allowed}
use Rattle.pj_join.specs.Joins.{join_data}
use Rattle.pj_core.specs.Calls.{GivesMayFollow, IsJoinInput, SweepsMayFollow}
use Rattle.pj_core.specs.Cores.{CoreState, StandsFor, nodes_in}
use Rattle.pj_core.specs.Plans.{operator_of}
use Rattle.pj_core.proofs.Frames.{certs_at, operator-is}
use Rattle.pj_core.proofs.Planned.{nodes-long, planned}
use Rattle.pj_core.proofs.Stops.{stop-same}

-- an input of a join of the plan is one of the operator
pub input-of : (nodes : List PlanNode) (schemes : List (List (List Bool))) (certs : List (List CertStep)) (columns : List Column) (operation : Operation) (input : ℕ) → IsSoundOperator nodes columns operation → is_join operation ≡ true
    → input < length (inputs_of operation) → HasInput (operator_of schemes certs columns operation) input
input-of nodes schemes certs columns (StreamNode stated) input s t lt = absurd (false≢true t)
input-of nodes schemes certs columns (SelectNode i test) input s t lt = absurd (false≢true t)
input-of nodes schemes certs columns (ProjectNode i kept) input s t lt = absurd (false≢true t)
input-of nodes schemes certs columns (UnionNode ins) input s t lt = absurd (false≢true t)
input-of nodes schemes certs columns (JoinNode ins spec) input s t lt =
    let many : inputs (join_data spec (inputs_schemes schemes ins) certs) ≡ length ins = length-map spec.inputs length ∙ ap length s.1 ∙ length-map ins (node_schema nodes) in
    omega (arith, lt, many)
input-of nodes schemes certs columns (GroupNode i spec) input s t lt = absurd (false≢true t)

is-input : (core : CoreState) → IsSoundPlan core.plan.nodes → (join input : ℕ) → IsJoinInput core join input → IsInputOf (nodes_in core) join input
is-input core sound join input at =
    let nodes : List PlanNode = core.plan.nodes in
    let lt : join < length nodes = at.0.0 in (
      (let l = nodes-long core.plan in omega (arith, lt, l)),
      subst (λ (o : Operator). HasInput o input) (sym (operator-is (schemes_of nodes) core.plan.certs nodes join lt))
          (input-of nodes (schemes_of nodes) (certs_at nodes core.plan.certs join) (get_or nodes join no_node).schema (get_or nodes join no_node).node input (sound.each join lt).operator at.0.1 at.1),
    )

pub goes-on : (core : CoreState) (h : List Entry) → StandsFor core h → core.kept.stop ≡ None → IsOn (reached_of false (nodes_in core) h)
goes-on core h S on = sym (stop-same core.plan.trace (nodes_in core) h) ∙ sym S.stands.3 ∙ on

pub sweeps-may-follow : (core : CoreState) → IsSoundPlan core.plan.nodes → AllAreCertified (nodes_in core) → SweepsMayFollow core
sweeps-may-follow core sound certified on h S join input at =
    (sweep-allowed (nodes_in core) (planned core.plan sound) certified h (goes-on core h S on) join input (is-input core sound join input at), inl refl)

pub gives-may-follow : (core : CoreState) → IsSoundPlan core.plan.nodes → GivesMayFollow core
gives-may-follow core sound on h S join ticket way = (give-allowed (nodes_in core) (planned core.plan sound) h (goes-on core h S on) join ticket way, inl refl)
