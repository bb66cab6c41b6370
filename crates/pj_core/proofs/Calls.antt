-- What the takes, gives, sweeps and drains of a core answer, as its parts are seen.
use Rattle.std.proofs.Common.{ℕ, ◌+◌, ◌<◌, Bool, true, false, cond, List, [], ◌∷◌, ◌++◌, ◌≡◌, Option, Some, None, map, length, sum, eqb, refl, sym, ap, ◌∙◌, subst, inl, arith, append-nil}
use Rattle.std.proofs.lemmas.List.{length-map}
use Rattle.std.proofs.lemmas.Bool.{eqb-true, false≢true}
use Rattle.pj_plan.specs.declared.node.Node.{Node as Operation}
use Rattle.pj_plan.specs.declared.node.Node.TheVariants.{Stream as StreamNode, Select as SelectNode, Project as ProjectNode, Union as UnionNode, Join as JoinNode, Group as GroupNode}
use Rattle.pj_plan.specs.Canonical.{node_schema}
use Rattle.pj_plan.specs.Nodes.{inputs_of, is_join}
use Rattle.pj_plan.specs.Sound.{IsSoundOperator}
use Rattle.pj_scheme.specs.Derived.{inputs_schemes, schemes_of}
use Rattle.pj_events.specs.declared.events.Entry.{Entry}
use Rattle.pj_events.specs.declared.events.Event.TheVariants.{Idle, Sweep as Swept}
use Rattle.pj_events.specs.declared.events.Out.{Out}
use Rattle.pj_events.specs.declared.events.Stop.{Stop}
use Rattle.pj_events.specs.declared.events.Stop.TheVariants.{Limit, NoMemory}
use Rattle.pj_events.specs.Join.{inputs}
use Rattle.pj_events.specs.History.{nodes_from, pending_in}
use Rattle.pj_events.specs.OneThread.{next_probe}
use Rattle.pj_laws.proofs.NextProbe.{none-is-pending}
use Rattle.pj_probe.specs.declared.probe.Found.{Found}
use Rattle.pj_join.specs.Joins.{JoinView}
use Rattle.pj_join.specs.Joins.{join_data}
use Rattle.pj_operator.specs.declared.operator.RunningOperator.{RunningOperator}
use Rattle.pj_operator.specs.declared.operator.OperatorState.{OperatorState}
use Rattle.pj_operator.specs.declared.operator.OperatorState.TheVariants.{Stream as RunningStream, Select as RunningSelect, Project as RunningProject, Union as RunningUnion, Join as RunningJoin, Group as RunningGroup}
use Rattle.pj_operator.specs.Acts.{HasGivenOn, HasJoinInput, HasSweptAt, IsGiveStop, IsSweepStop, TakesFirst, first_pending}
use Rattle.pj_core.specs.Calls.{CoreTakes, FindsNone, HasGiven, HasSwept, IsCause, IsGiveCause, IsJoinInput}
use Rattle.pj_operator.specs.Operators.{Frame, running_at, frame_at, kept_seen, kind_of, IsTakenIn, pending_kept}
use Rattle.pj_core.specs.Cores.{StandsFor}
use Rattle.pj_core.specs.Parts.{IsMadeOf, core_of, kind_for, plan_node}
use Rattle.pj_core.specs.Plans.{RunPlan, nodes_of}
use Rattle.pj_operator.proofs.Emits.{frame-at}
use Rattle.pj_core.proofs.Frames.{certs_at, frame-is}
use Rattle.pj_core.proofs.Stands.{are}
use Rattle.pj_core.proofs.Stops.{nothing-out, quiet-noted, same-nodes}
use Rattle.pj_core.proofs.Sweeps.{has-swept, sweep-stop}
use Rattle.pj_core.proofs.Takes.{first_there, give-stop, has-given, next-is, sum-none, takes-next}
use Rattle.pj_core.proofs.Words.{long}

-- ---- takes

-- nothing is pending where no node is the first
none-pending : (k : ℕ) (operators : List RunningOperator) → first_pending k operators ≡ None → sum (map pending_kept (map (λ (x : RunningOperator). kept_seen x.state) operators)) ≡ 0
none-pending k [] e = refl
none-pending k (operator ∷ operators) e = go (eqb (pending_kept (kept_seen operator.state)) 0) refl e (none-pending (k + 1) operators)
  where
    go : (b : Bool) → eqb (pending_kept (kept_seen operator.state)) 0 ≡ b → cond b (first_pending (k + 1) operators) (Some k) ≡ None → (first_pending (k + 1) operators ≡ None → sum (map pending_kept (map (λ (x : RunningOperator). kept_seen x.state) operators)) ≡ 0)
        → sum (map pending_kept (map (λ (x : RunningOperator). kept_seen x.state) (operator ∷ operators))) ≡ 0
    go true q r ih = sum-none (kept_seen operator.state) (map (λ (x : RunningOperator). kept_seen x.state) operators) (eqb-true (pending_kept (kept_seen operator.state)) 0 q) (ih r)
    go false q r ih = cc

finds-none : (plan : RunPlan) (limit : ℕ) (operators : List RunningOperator) (c : List ℕ) (halt : Bool) (u : List Out) → IsMadeOf plan limit operators → first_pending 0 operators ≡ None → FindsNone (core_of plan limit operators c halt u None) (core_of plan limit operators c halt u None)
finds-none plan limit operators c halt u made first = record {
  none = λ history S. none history S;
  pending = none-pending 0 operators first;
  stays = refl;
  notes = record {
    plan = refl;
    limit = refl;
    stands = λ history S.
        quiet-noted plan limit operators made c halt u history S Idle halt u refl
        ((λ o. ap pending_in (same-nodes plan limit operators made c halt u history S) ∙ (none-is-pending (nodes_from (nodes_of plan) history)).0 (none history S)), inl refl)
        refl (sym (ap (λ (outs : List Out). u ++ outs) (nothing-out plan limit operators made c halt u history S Idle refl refl) ∙ append-nil u)) refl refl;
  };
}
  where
    none : (history : List Entry) → StandsFor (core_of plan limit operators c halt u None) history → next_probe (nodes_from (nodes_of plan) history) ≡ None
    none history S = next-is operators (nodes_from (nodes_of plan) history) (are plan limit operators made c halt u history S) ∙ ap (first_there (nodes_from (nodes_of plan) history)) first

pub core-takes : (plan : RunPlan) (limit : ℕ) (operators new : List RunningOperator) (c : List ℕ) (halt : Bool) (u : List Out) (answer : Option Found) → IsMadeOf plan limit operators → TakesFirst operators new answer
    → CoreTakes (core_of plan limit operators c halt u None) (core_of plan limit new c halt u None) answer
core-takes plan limit operators new c halt u None made t =
    subst (λ (xs : List RunningOperator). FindsNone (core_of plan limit operators c halt u None) (core_of plan limit xs c halt u None)) (sym t.0) (finds-none plan limit operators c halt u made t.1)
core-takes plan limit operators new c halt u (Some found) made t = takes-next plan limit operators new c halt u found made t

-- ---- joins of the plan

join-kind : (schemes : List (List (List Bool))) (limit n : ℕ) (certs : List _) (columns : List _) (operation : Operation) (input : ℕ) (state : OperatorState) → is_join operation ≡ true → input < length (inputs_of operation)
    → (nodes : List _) → IsSoundOperator nodes columns operation → kind_of state ≡ kind_for schemes limit n certs columns operation → HasJoinInput state input
join-kind schemes limit n certs columns (StreamNode stated) input state t lt nodes s k = absurd (false≢true t)
join-kind schemes limit n certs columns (SelectNode i test) input state t lt nodes s k = absurd (false≢true t)
join-kind schemes limit n certs columns (ProjectNode i kept) input state t lt nodes s k = absurd (false≢true t)
join-kind schemes limit n certs columns (UnionNode ins) input state t lt nodes s k = absurd (false≢true t)
join-kind schemes limit n certs columns (JoinNode ins spec) input RunningStream t lt nodes s k = cc
join-kind schemes limit n certs columns (JoinNode ins spec) input (RunningSelect test) t lt nodes s k = cc
join-kind schemes limit n certs columns (JoinNode ins spec) input (RunningProject cs) t lt nodes s k = cc
join-kind schemes limit n certs columns (JoinNode ins spec) input (RunningUnion union) t lt nodes s k = cc
join-kind schemes limit n certs columns (JoinNode ins spec) input (RunningJoin join) t lt nodes s k =
    let same : join.spec ≡ join_data spec (inputs_schemes schemes ins) certs = cc in
    let many : inputs (join_data spec (inputs_schemes schemes ins) certs) ≡ length ins = length-map spec.inputs length ∙ ap length s.1 ∙ length-map ins (node_schema nodes) in
    let e = ap inputs same ∙ many in
    omega (arith, lt, e)
join-kind schemes limit n certs columns (JoinNode ins spec) input (RunningGroup group) t lt nodes s k = cc
join-kind schemes limit n certs columns (GroupNode i spec) input state t lt nodes s k = absurd (false≢true t)

-- the join at a place of the plan, as its node is seen
module _ (plan : RunPlan) (limit : ℕ) (operators : List RunningOperator) (c : List ℕ) (halt : Bool) (u : List Out) (made : IsMadeOf plan limit operators) where
  operators-long : length operators ≡ length plan.nodes
  operators-long = long plan limit operators c halt u None (core_of plan limit operators c halt u None) refl made

  kind-here : (n : ℕ) → n < length plan.nodes → kind_of (running_at operators n).state ≡ kind_for (schemes_of plan.nodes) limit n (certs_at plan.nodes plan.certs n) (plan_node plan.nodes n).schema (plan_node plan.nodes n).node
  kind-here n lt = ap (λ (f : Frame). f.kind) (sym (frame-at operators n) ∙ ap (λ (fs : List Frame). frame_at fs n) made.2 ∙ frame-is plan limit n lt)

  pub input-there : (join input : ℕ) → IsJoinInput (core_of plan limit operators c halt u None) join input → (join < length operators) × HasJoinInput (running_at operators join).state input
  input-there join input at = (
    (let l = at.0.0 in omega (arith, l, operators-long)),
    join-kind (schemes_of plan.nodes) limit join (certs_at plan.nodes plan.certs join) (plan_node plan.nodes join).schema (plan_node plan.nodes join).node input (running_at operators join).state at.0.1 at.1 plan.nodes
        (made.0.each join at.0.0).operator (kind-here join at.0.0),
  )

  input-of : (join input : ℕ) → HasJoinInput (running_at operators join).state input → (view : JoinView) → (running_at operators join).state ≡ RunningJoin view → input < inputs view.spec
  input-of join input has view e = subst (λ (w : OperatorState). HasJoinInput w input) e has

  pub swept-core : (new : List RunningOperator) (u' : List Out) (join input count : ℕ) → IsJoinInput (core_of plan limit operators c halt u None) join input
      → HasSweptAt plan.trace (record { operators = operators; outs = u }) (record { operators = new; outs = u' }) join input count → HasSwept (core_of plan limit operators c halt u None) (core_of plan limit new c halt u' None) join input count
  swept-core new u' join input count at H =
      let t = input-there join input at in
      has-swept plan limit operators c halt u join input made t.0 (input-of join input t.1) new u' count H

  pub swept-cause : (join input : ℕ) (stop : Stop) → IsJoinInput (core_of plan limit operators c halt u None) join input → IsSweepStop plan.trace (record { operators = operators; outs = u }) join input stop
      → IsCause (core_of plan limit operators c halt u None) (Swept join input) stop
  swept-cause join input stop at s =
      let t = input-there join input at in
      sweep-stop plan limit operators c halt u join input made t.0 (input-of join input t.1) stop s

  pub given-core : (new : List RunningOperator) (u' : List Out) (probe found : Found) → (probe.join < length operators) × IsTakenIn (kept_seen (running_at operators probe.join).state) probe.ticket
      → HasGivenOn (record { operators = operators; outs = u }) (record { operators = new; outs = u' }) probe found.rows → HasGiven (core_of plan limit operators c halt u None) (core_of plan limit new c halt u' None) probe found
  given-core new u' probe found taken H = has-given plan limit operators c halt u probe found H.state made taken.0 taken.1 H.acts new u' H.emits H.stays

  pub given-cause : (probe found : Found) (stop : Stop) → (probe.join < length operators) × IsTakenIn (kept_seen (running_at operators probe.join).state) probe.ticket
      → IsGiveStop operators probe found.rows stop → IsGiveCause (core_of plan limit operators c halt u None) probe found stop
  given-cause probe found (Limit at) taken b = give-stop plan limit operators c halt u probe found b.state made taken.0 taken.1 b.acts (Limit at) b.beyond
  given-cause probe found NoMemory taken b = tt
