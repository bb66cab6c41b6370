-- A probe that is under way in a history is open at a core that stands for it, and its results fit its join.
use Rattle.std.proofs.Common.{ℕ, ◌<◌, Bool, List, [], ◌∷◌, ◌≡◌, None, map, length, sum, get_or, refl, sym, ap, ap₂, ◌∙◌, subst, arith}
use Rattle.std.proofs.lemmas.List.{get_or-map}
use Rattle.pj_events.specs.CoreKept.{CoreKept, JoinKept, KeptOperator, NothingKept, core_kept, kept_in}
use Rattle.pj_value.specs.declared.values.Value.{Value}
use Rattle.pj_value.proofs.Members.{In-map}
use Rattle.pj_shape.specs.declared.columns.Column.{Column}
use Rattle.pj_shape.specs.declared.joins.CertStep.{CertStep}
use Rattle.pj_plan.specs.declared.node.Node.{Node as Operation}
use Rattle.pj_plan.specs.declared.node.Node.TheVariants.{Stream as StreamNode, Select as SelectNode, Project as ProjectNode, Union as UnionNode, Join as JoinNode, Group as GroupNode}
use Rattle.pj_plan.specs.declared.node.PlanNode.{PlanNode}
use Rattle.pj_plan.specs.Canonical.{node_at, node_schema}
use Rattle.pj_plan.specs.Sound.{IsSoundOperator}
use Rattle.pj_scheme.specs.Derived.{schemes_of}
use Rattle.pj_events.specs.History.{data_in, nodes_from, state_in}
use Rattle.pj_events.specs.Join.{In, JoinData, JoinState, Step, TupleAt, arities, joined, results, run, start}
use Rattle.pj_events.specs.KeptState.{kept_of}
use Rattle.pj_events.specs.Outcomes.{join_steps_of, results_of}
use Rattle.pj_events.specs.Plan.{Join, Node, Operator, nowhere}
use Rattle.pj_laws.proofs.Held.{IsOpenAt, open-under-way}
use Rattle.pj_join_laws.proofs.Sound.{sound-run, sound-start}
use Rattle.pj_laws.specs.HistoryLaws.{JoinRuns}
use Rattle.pj_laws.proofs.JoinRuns.{join-runs}
use Rattle.pj_laws.proofs.Operators.{results-fit}
use Rattle.pj_laws.proofs.Probes.{length-from}
use Rattle.pj_operator.specs.Operators.{IsTakenIn}
use Rattle.pj_core.specs.Calls.{FitWhatIsUnderWay, OpensWhatIsUnderWay}
use Rattle.pj_core.specs.Plans.{operator_of}
use Rattle.pj_core.proofs.Frames.{certs_at, operator-is}
use Rattle.pj_core.specs.Cores.{nodes_in}
use Rattle.pj_core.proofs.Planned.{node_made, nodes-long, planned}

pub opens-under_way : OpensWhatIsUnderWay
opens-under_way core sound on history S probe way =
    subst (λ (k : KeptOperator). IsTakenIn k probe.ticket) (sym there) (is-open.opened, is-open.taken)
  where
    plan : List Node
    plan = nodes_in core

    is-open : IsOpenAt plan history probe.join probe.ticket
    is-open = open-under-way plan (planned core.plan sound) history S.legal probe.join probe.ticket way

    kept : core.kept ≡ core_kept core.plan.trace plan history
    kept = S.stands.0 (sym S.stands.3 ∙ on)

    there : get_or core.kept.nodes probe.join NothingKept ≡ JoinKept (kept_of (run is-open.spec start (join_steps_of plan history probe.join)))
    there =
        ap (λ (k : CoreKept). get_or k.nodes probe.join NothingKept) kept
        ∙ get_or-map (λ (node : Node). kept_in node.operator) (nodes_from plan history) probe.join nowhere NothingKept (let l = length-from plan history in let t = is-open.there in omega (arith, l, t))
        ∙ ap kept_in ((join-runs plan (planned core.plan sound)).state history probe.join is-open.spec is-open.there is-open.starts)

-- ---- results

-- a join of the plan hands up as many columns as its node has
join-width : (nodes : List PlanNode) (schemes : List (List (List Bool))) (certs : List (List CertStep)) (schema : List Column) (operation : Operation) (spec : JoinData) → IsSoundOperator nodes schema operation
    → operator_of schemes certs schema operation ≡ Join spec start → sum (arities spec) ≡ length schema
join-width nodes schemes certs schema (StreamNode stated) spec s is = cc
join-width nodes schemes certs schema (SelectNode input test) spec s is = cc
join-width nodes schemes certs schema (ProjectNode input columns) spec s is = cc
join-width nodes schemes certs schema (UnionNode inputs) spec s is = cc
join-width nodes schemes certs schema (JoinNode inputs own) spec s is =
    ap (λ (o : Operator). sum (arities (data_in o))) (sym is) ∙ (node_made schemes certs schema (λ n. length (node_schema nodes n)) nodes (JoinNode inputs own) s (λ n h. refl)).width
join-width nodes schemes certs schema (GroupNode input own) spec s is = cc

pub fits-under_way : FitWhatIsUnderWay
fits-under_way core sound history S probe way row h =
    subst (λ (vs : List Value). length vs ≡ sum (arities way.spec)) found.2
    (results-fit way.spec s (sound-run way.spec start steps (sound-start way.spec) (runs.legal history probe.join way.spec S.legal way.there way.starts)) probe.ticket found.0 found.1)
    ∙ join-width core.plan.nodes (schemes_of core.plan.nodes) (certs_at core.plan.nodes core.plan.certs probe.join) (node_schema core.plan.nodes probe.join) (node_at core.plan.nodes probe.join) way.spec (sound.each probe.join there).operator
    (sym (operator-is (schemes_of core.plan.nodes) core.plan.certs core.plan.nodes probe.join there) ∙ way.starts)
  where
    plan : List Node
    plan = nodes_in core

    runs : JoinRuns plan
    runs = join-runs plan (planned core.plan sound)

    steps : List Step
    steps = join_steps_of plan history probe.join

    s : JoinState
    s = run way.spec start steps

    there : probe.join < length core.plan.nodes
    there = let lt = way.there in omega (arith, lt, nodes-long core.plan)

    are : results_of plan history probe.join probe.ticket ≡ map joined (results way.spec s.tuples s.tuples probe.ticket)
    are = ap₂ (λ (o p : Operator). map joined (results (data_in o) (state_in p).tuples (state_in p).tuples probe.ticket)) way.starts (runs.state history probe.join way.spec way.there way.starts)

    found : (c : List TupleAt) × In c (results way.spec s.tuples s.tuples probe.ticket) × (joined c ≡ row)
    found = In-map joined row (results way.spec s.tuples s.tuples probe.ticket) (subst (λ (rows : List (List Value)). In row rows) are h)
