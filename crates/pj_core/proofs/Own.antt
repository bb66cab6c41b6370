-- The steps of its own that a join of a core makes.
use Rattle.std.proofs.Common.{ℕ, ◌<◌, Bool, true, false, List, [], ◌∷◌, ◌++◌, ◌≡◌, Some, None, map, length, refl, sym, ap, ap₂, ◌∙◌, subst, inl, arith, append-nil}
use Rattle.pj_events.specs.declared.events.Entry.{Entry}
use Rattle.pj_events.specs.declared.events.Event.{Event}
use Rattle.pj_events.specs.declared.events.Out.{Out}
use Rattle.pj_events.specs.Join.{AreCertified, AreLegalSteps, IsAllowed, JoinData, JoinState, Step, Sweep, Take, Give, hands_up, has, inputs, joined, results, run, start, step}
use Rattle.pj_events.specs.KeptState.{KeptState, kept_of, kept_step}
use Rattle.pj_events.specs.Plan.{Act, IsOwn, IsStepAllowed, MayAct, Operator, Join, Node, Own, after as after_local, hands, operator_at}
use Rattle.pj_events.specs.declared.events.Event.TheVariants.{Take as Taken, Give as Given, Sweep as Swept}
use Rattle.pj_events.specs.History.{IsEntryAllowed, IsLegal, IsOn, data_in, nodes_from, reached_of, state_in}
use Rattle.pj_laws.specs.HistoryLaws.{Certified}
use Rattle.pj_events.specs.OneThread.{plain}
use Rattle.pj_join_laws.proofs.Tickets.{lacking-come, lacking-none}
use Rattle.pj_join.specs.Joins.{IsTaken, JoinView, StandsFor as JoinStandsFor, after}
use Rattle.pj_operator.specs.Acts.{with_state}
use Rattle.pj_core.proofs.Planned.{nodes-long}
use Rattle.pj_events.specs.CoreKept.{JoinKept, kept_in}
use Rattle.pj_laws.specs.Climb.{Climbed, climbed_where, local_of}
use Rattle.pj_events.specs.Outcomes.{origin_of, results_of}
use Rattle.pj_laws.proofs.ClimbingEvents.{events-climb, leaves-nodes}
use Rattle.pj_laws.proofs.HistoryAnswers.{adds-entry, grows-legally, trace-adds-notes}
use Rattle.pj_laws.proofs.ClimbingKept.{stored_of}
use Rattle.pj_join_laws.proofs.Stand.{kept-own}
use Rattle.pj_operator.specs.declared.operator.RunningOperator.{RunningOperator}
use Rattle.pj_operator.specs.declared.operator.OperatorState.{OperatorState}
use Rattle.pj_operator.specs.declared.operator.OperatorState.TheVariants.{Join as RunningJoin}
use Rattle.pj_operator.specs.Operators.{AreAs, IsAs, IsBelowIn, IsKind, JoinKind, JoinRole, running_at, count_in, kind_of, role_in}
use Rattle.pj_core.specs.Cores.{StandsFor}
use Rattle.pj_core.specs.Parts.{IsMadeOf, core_of}
use Rattle.pj_core.specs.Plans.{RunPlan, nodes_of}
use Rattle.pj_core.proofs.Events.{KeepsPeak, Steps, steps-at}
use Rattle.pj_core.proofs.Stands.{are, below-at, join-start, join-steps, long-now}

-- ---- on what is kept

-- the operator of a join
pub record IsJoinWith (join : JoinView) (operator : Operator) : Type 0 where
  pub state : JoinState
  pub is : operator ≡ Join join.spec state
  pub kept : join.kept ≡ kept_of state

pub join-with : (join : JoinView) (operator : Operator) → IsAs (RunningJoin join) operator → IsJoinWith join operator
join-with join (Join spec s) a =
    let same : spec ≡ join.spec = (let k : JoinRole join.spec ≡ JoinRole spec = a.kind in cc) in
    record { state = s; is = ap (λ (d : JoinData). Join d s) same; kept = (let e : JoinKept join.kept ≡ JoinKept (kept_of s) = a.kept in cc) }
join-with join operator a = absurd (let k : JoinRole join.spec ≡ role_in operator = a.kind in cc)

-- ---- behind a history

module _ (plan : RunPlan) (limit : ℕ) (operators : List RunningOperator) (made : IsMadeOf plan limit operators) (c : List ℕ) (halt : Bool) (u : List Out) (history : List Entry) (S : StandsFor (core_of plan limit operators c halt u None) history)
    (place : ℕ) (there : place < length operators) (join : JoinView) (at : (running_at operators place).state ≡ RunningJoin join) where
  abbrev nodes : List Node
  nodes = nodes_from (nodes_of plan) history

  pub A : AreAs operators nodes
  A = are plan limit operators made c halt u history S

  pub within : place < length plan.nodes
  within = omega (arith, there, A.long, long-now plan limit history made.0 S.legal)

  pub J : IsJoinWith join (operator_at nodes place)
  J = join-with join (operator_at nodes place) (subst (λ (w : OperatorState). IsAs w (operator_at nodes place)) at (A.each place there))

  pub start-is : operator_at (nodes_of plan) place ≡ Join join.spec start
  start-is = (join-start plan limit history made.0 S.legal place within join.spec J.state J.is).0

  -- legal steps that the join stands for
  pub steps : (es : List Step) × AreLegalSteps join.spec start es × (J.state ≡ run join.spec start es)
  steps = join-steps plan limit history made.0 S.legal place within join.spec J.state J.is

  pub stands : JoinStandsFor join steps.0
  stands = (steps.1, J.kept ∙ ap kept_of steps.2)

  -- the results of a ticket
  pub results-are : (t : ℕ) → results_of (nodes_of plan) history place t ≡ map joined (results join.spec J.state.tuples J.state.tuples t)
  results-are t =
      ap₂ (λ (m o : Operator). map joined (results (data_in m) (state_in o).tuples (state_in o).tuples t)) start-is J.is

  on : IsOn (reached_of false (nodes_of plan) history)
  on = go plan.trace S.stands.3
    where
      go : (trace : Bool) → None ≡ (reached_of trace (nodes_of plan) history).stop → (reached_of false (nodes_of plan) history).stop ≡ None
      go true e = sym ((trace-adds-notes (nodes_of plan) history).stop) ∙ sym e
      go false e = sym e

  -- a step of the join's own that is allowed may be made
  step-allowed : (e : Step) → IsOwn e → IsAllowed join.spec J.state e → IsStepAllowed (reached_of false (nodes_of plan) history).nodes (Act place e)
  step-allowed e own may =
      subst (λ (ns : List Node). IsStepAllowed ns (Act place e)) (sym ((trace-adds-notes (nodes_of plan) history).nodes false))
      ((let a = A.long in omega (arith, there, a)), subst (λ (o : Operator). MayAct o e) (sym J.is) (own, may))

  pub take-allowed : (t : ℕ) → has join.kept.pending t ≡ true → IsEntryAllowed (reached_of false (nodes_of plan) history) (plain (Taken place t))
  take-allowed t p =
      ((on, step-allowed (Take t) tt (lacking-come J.state.taken J.state.tuples t (subst (λ (k : KeptState). has k.pending t ≡ true) J.kept p))), inl refl)

  pub give-allowed : (t : ℕ) → IsTaken join.kept t → IsEntryAllowed (reached_of false (nodes_of plan) history) (plain (Given place t))
  give-allowed t p =
      let come = lacking-come J.state.given J.state.tuples t (subst (λ (k : KeptState). has k.opened t ≡ true) J.kept p.0) in
      ((on, step-allowed (Give t) tt (lacking-none J.state.taken J.state.tuples t come.0 (subst (λ (k : KeptState). has k.pending t ≡ false) J.kept p.1), come.1)), inl refl)

  certified : AreCertified join.spec
  certified = subst Certified start-is (made.1 place (let l = nodes-long plan in omega (arith, within, l)))

  pub sweep-allowed : (input : ℕ) → input < inputs join.spec → IsEntryAllowed (reached_of false (nodes_of plan) history) (plain (Swept place input))
  sweep-allowed input lt = ((on, step-allowed (Sweep input) tt (lt, certified)), inl refl)

  legal-then : (event : Event) → IsEntryAllowed (reached_of false (nodes_of plan) history) (plain event) → IsLegal (nodes_of plan) (history ++ plain event ∷ [])
  legal-then event may = (grows-legally (nodes_of plan) history (plain event)).1 (S.legal, may)

  -- the join behind an allowed step of its own
  pub later : (event : Event) (e : Step) → local_of event ≡ Some (Own e) → origin_of nodes event ≡ place → IsEntryAllowed (reached_of false (nodes_of plan) history) (plain event)
      → operator_at (nodes_from (nodes_of plan) (history ++ plain event ∷ [])) place ≡ after_local (operator_at nodes place) (Own e)
  later event e local begins may =
      ap (λ (ns : List Node). operator_at ns place)
      ((adds-entry (nodes_of plan) history (plain event)).nodes ∙ (events-climb nodes A.tree event).moves
      ∙ ap (λ (k : Climbed). k.nodes) (ap₂ (climbed_where nodes) begins local))
      ∙ (leaves-nodes nodes A.tree place (Own e)).first (let a = A.long in omega (arith, there, a))

  -- an allowed step of the join's own, with the operator behind it
  pub own-steps : (event : Event) (e : Step) (peak : ℕ) → local_of event ≡ Some (Own e) → origin_of nodes event ≡ place → IsOwn e → IsEntryAllowed (reached_of false (nodes_of plan) history) (plain event)
      → KeepsPeak peak (running_at operators place) (operator_at nodes place) (after_local (operator_at nodes place) (Own e))
      → Steps operators (with_state operators place (RunningJoin (after join e)) peak) nodes place (Own e)
  own-steps event e peak local begins own may keeps =
      steps-at operators nodes place (Own e) (record (running_at operators place) { state = RunningJoin (after join e); peak = peak }) A there
      (record { kind = kind; kept = kept-is; below = below })
      (ap (λ (w : OperatorState). record { kind = kind_of w; above = (running_at operators place).above; width = (running_at operators place).width }) (sym at))
      (next join.kept e own ∙ ap count_in (sym at))
      keeps
    where
      behind : after_local (operator_at nodes place) (Own e) ≡ Join join.spec (step join.spec J.state e)
      behind = ap (λ (o : Operator). after_local o (Own e)) J.is

      kind : IsKind (JoinKind join.node join.spec join.limit) (after_local (operator_at nodes place) (Own e))
      kind = subst (IsKind (JoinKind join.node join.spec join.limit)) (sym behind) refl

      kept-is : JoinKept (kept_step join.spec join.kept e) ≡ kept_in (after_local (operator_at nodes place) (Own e))
      kept-is = ap (λ (k : KeptState). JoinKept (kept_step join.spec k e)) J.kept ∙ ap JoinKept (kept-own join.spec J.state e own) ∙ ap kept_in (sym behind)

      below : IsBelowIn (after_local (operator_at nodes place) (Own e))
      below = subst IsBelowIn (later event e local begins may) (below-at plan limit (history ++ plain event ∷ []) made.0 (legal-then event may) place within)

      next : (k : KeptState) (st : Step) → IsOwn st → (kept_step join.spec k st).next ≡ k.next
      next k (Take t) o = refl
      next k (Give t) o = refl
      next k (Sweep input) o = refl
      next k st o = absurd o

  -- what the join hands up at a step of its own
  pub handed-own : (e : Step) → hands (operator_at nodes place) (Own e) ≡ hands_up join.spec J.state e
  handed-own e = ap (λ (o : Operator). hands o (Own e)) J.is ∙ append-nil (hands_up join.spec J.state e)

  pub stored-own : (e : Step) → stored_of (after_local (operator_at nodes place) (Own e)) ≡ length (step join.spec J.state e).stored
  stored-own e = ap (λ (o : Operator). stored_of (after_local o (Own e))) J.is

  pub stored-before : stored_of (operator_at nodes place) ≡ length J.state.stored
  stored-before = ap stored_of J.is
