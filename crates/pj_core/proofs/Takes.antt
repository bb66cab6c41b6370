-- Takes and gives at a core.
use Rattle.std.proofs.Common.{ℕ, zero, suc, ◌+◌, ◌<◌, Bool, true, false, cond, List, [], ◌∷◌, ◌++◌, ◌≡◌, Option, Some, None, map, length, sum, get_or, set, eqb, refl, sym, ap, ◌∙◌, subst, inl, arith, append-nil}
use Rattle.std.proofs.lemmas.Bool.{eq-eqb, ne_eqb}
use Rattle.std.proofs.lemmas.List.{get_or-map, get_or-set_same, length-map, length-set}
use Rattle.std.proofs.lemmas.List.Sums.{sum-map, sum_by-cons}
use Rattle.pj_value.specs.declared.values.Value.{Value}
use Rattle.pj_value.proofs.Numbers.{has-in}
use Rattle.pj_plan.specs.Canonical.{node_schema}
use Rattle.pj_pattern.specs.declared.element.Element.{Element}
use Rattle.pj_pattern.specs.declared.element.Element.TheVariants.{Tuple}
use Rattle.pj_events.specs.declared.events.Entry.{Entry}
use Rattle.pj_events.specs.declared.events.Event.TheVariants.{Take as Taken, Give as Given}
use Rattle.pj_events.specs.declared.events.Out.{Out}
use Rattle.pj_events.specs.declared.events.Stop.{Stop}
use Rattle.pj_events.specs.declared.events.Stop.TheVariants.{Limit, NoMemory}
use Rattle.pj_events.specs.Join.{Give, In, JoinState, Take, TupleAt, has, joined, results}
use Rattle.pj_events.specs.KeptState.{KeptState, kept_of, lacking, without}
use Rattle.pj_events.specs.Plan.{after as after_local, Node, Operator, Stream, Select, Project, Union, Join, Group, Own, hands, operator_at}
use Rattle.pj_events.specs.History.{data_at, nodes_from, state_in}
use Rattle.pj_events.specs.Outcomes.{goes_beyond, results_of}
use Rattle.pj_events.specs.OneThread.{Pending, first_of, next_from, next_probe, pending_at, plain}
use Rattle.pj_events.specs.CoreKept.{JoinKept, KeptOperator, NothingKept, UnionKept, GroupKept, kept_in}
use Rattle.pj_laws.proofs.Quiet.{take-within}
use Rattle.pj_join_laws.proofs.Tickets.{AreAscending, first-least, pending-ascends}
use Rattle.pj_probe.specs.declared.probe.Found.{Found}
use Rattle.pj_join.specs.Joins.{IsTaken, JoinView, after}
use Rattle.pj_operator.specs.declared.operator.RunningOperator.{RunningOperator}
use Rattle.pj_operator.specs.declared.operator.OperatorState.{OperatorState}
use Rattle.pj_operator.specs.declared.operator.OperatorState.TheVariants.{Join as RunningJoin}
use Rattle.pj_operator.specs.Acts.{FirstTook, JoinActs, first_pending, with_state}
use Rattle.pj_core.specs.Calls.{FitNode, HasGiven, IsGiveCause, IsOpen, TakesNext}
use Rattle.pj_operator.specs.Operators.{AreAs, AreLinked, Frame, IsOrderly, running_at, frame_at, frame_of, kept_seen, kind_of, no_operator, IsTakenIn, pending_kept}
use Rattle.pj_operator.specs.Emitting.{Emits, GoBeyond, IsEmitStop, StaysAs}
use Rattle.pj_core.specs.Cores.{StandsFor}
use Rattle.pj_core.specs.Parts.{IsMadeOf, core_of}
use Rattle.pj_core.specs.Plans.{RunPlan, nodes_of}
use Rattle.pj_operator.proofs.Emits.{emits-none, frame-at, stays-none}
use Rattle.pj_operator.proofs.Changes.{own-width}
use Rattle.pj_operator.proofs.Joins.{fewer-without}
use Rattle.pj_operator.proofs.Widths.{found-fits}
use Rattle.pj_core.proofs.Events.{Steps, beyond-is, note}
use Rattle.pj_core.proofs.Frames.{frame-is, join-number, links-of, long-of}
use Rattle.pj_core.proofs.Own as own
use Rattle.pj_core.proofs.Planned.{tree}
use Rattle.pj_core.proofs.Own.{IsJoinWith}
use Rattle.pj_core.proofs.Stands.{are}

-- ---- what is pending

abbrev pub tickets : KeptOperator → List ℕ
tickets NothingKept = []
tickets (UnionKept union) = []
tickets (JoinKept kept) = kept.pending
tickets (GroupKept table) = []

pub pending-long : (k : KeptOperator) → pending_kept k ≡ length (tickets k)
pending-long NothingKept = refl
pending-long (UnionKept union) = refl
pending-long (JoinKept kept) = refl
pending-long (GroupKept table) = refl

pub tickets-are : (operators : List RunningOperator) (nodes : List Node) (n : ℕ) → AreAs operators nodes → n < length operators → pending_at nodes n ≡ tickets (kept_seen (running_at operators n).state)
tickets-are operators nodes n A lt = of (operator_at nodes n) ∙ ap tickets (sym (A.each n lt).kept)
  where
    of : (o : Operator) → lacking (state_in o).taken (state_in o).tuples ≡ tickets (kept_in o)
    of (Stream schema sent) = refl
    of (Select test) = refl
    of (Project columns) = refl
    of (Union m u) = refl
    of (Join spec s) = refl
    of (Group spec rows) = refl

-- the first pending ticket of a node
abbrev pub first_there : List Node → Option ℕ → Option Pending
first_there nodes None = None
first_there nodes (Some place) = first_of place (pending_at nodes place) None

next-there : (nodes : List Node) (k : ℕ) (operators : List RunningOperator) → ((i : ℕ) → i < length operators → pending_at nodes (k + i) ≡ tickets (kept_seen (running_at operators i).state))
    → next_from nodes k (length operators) ≡ first_there nodes (first_pending k operators)
next-there nodes k [] f = refl
next-there nodes k (operator ∷ operators) f =
    go (tickets (kept_seen operator.state)) here (pending-long (kept_seen operator.state))
    (next-there nodes (k + 1) operators (λ i lt. let z : k + 1 + i ≡ k + suc i = omega arith in ap (pending_at nodes) z ∙ f (suc i) (omega (arith, lt))))
  where
    here : pending_at nodes k ≡ tickets (kept_seen operator.state)
    here = let z : k ≡ k + 0 = omega arith in ap (pending_at nodes) z ∙ f 0 (omega arith)

    go : (ts : List ℕ) → pending_at nodes k ≡ ts → pending_kept (kept_seen operator.state) ≡ length ts → next_from nodes (k + 1) (length operators) ≡ first_there nodes (first_pending (k + 1) operators)
        → first_of k (pending_at nodes k) (next_from nodes (k + 1) (length operators)) ≡ first_there nodes (cond (eqb (pending_kept (kept_seen operator.state)) 0) (first_pending (k + 1) operators) (Some k))
    go [] p e ih =
        ap (λ (us : List ℕ). first_of k us (next_from nodes (k + 1) (length operators))) p ∙ ih
        ∙ ap (λ (b : Bool). first_there nodes (cond b (first_pending (k + 1) operators) (Some k))) (sym (eq-eqb (pending_kept (kept_seen operator.state)) 0 e))
    go (t ∷ ts) p e ih =
        ap (λ (us : List ℕ). first_of k us (next_from nodes (k + 1) (length operators))) p
        ∙ sym (ap (λ (us : List ℕ). first_of k us None) p)
        ∙ ap (λ (b : Bool). first_there nodes (cond b (first_pending (k + 1) operators) (Some k))) (sym (ne_eqb (pending_kept (kept_seen operator.state)) 0 (λ q. omega (arith, e, q))))

pub next-is : (operators : List RunningOperator) (nodes : List Node) → AreAs operators nodes → next_probe nodes ≡ first_there nodes (first_pending 0 operators)
next-is operators nodes A =
    ap (next_from nodes 0) (sym A.long)
    ∙ next-there nodes 0 operators (λ i lt. let z : 0 + i ≡ i = omega arith in ap (pending_at nodes) z ∙ tickets-are operators nodes i A lt)

-- ---- fewer are pending

cons-sum : (k : KeptOperator) (ks : List KeptOperator) → sum (map pending_kept (k ∷ ks)) ≡ pending_kept k + sum (map pending_kept ks)
cons-sum k ks = sum-map pending_kept (k ∷ ks) ∙ sum_by-cons pending_kept k ks ∙ ap (λ (n : ℕ). pending_kept k + n) (sym (sum-map pending_kept ks))

pub sum-none : (k : KeptOperator) (ks : List KeptOperator) → pending_kept k ≡ 0 → sum (map pending_kept ks) ≡ 0 → sum (map pending_kept (k ∷ ks)) ≡ 0
sum-none k ks a b = let s = cons-sum k ks in omega (arith, s, a, b)

pub fewer-there : (operators : List RunningOperator) (n : ℕ) (operator : RunningOperator) → n < length operators → pending_kept (kept_seen operator.state) < pending_kept (kept_seen (running_at operators n).state)
    → sum (map pending_kept (map (λ (x : RunningOperator). kept_seen x.state) (set operators n operator))) < sum (map pending_kept (map (λ (x : RunningOperator). kept_seen x.state) operators))
fewer-there [] n operator lt less = absurd (omega (arith, lt))
fewer-there (x ∷ operators) zero operator lt less =
    omega (arith, less, cons-sum (kept_seen operator.state) (map (λ (y : RunningOperator). kept_seen y.state) operators), cons-sum (kept_seen x.state) (map (λ (y : RunningOperator). kept_seen y.state) operators))
fewer-there (x ∷ operators) (suc n) operator lt less = let ih = fewer-there operators n operator (omega (arith, lt)) less in
    omega (arith, ih, cons-sum (kept_seen x.state) (map (λ (y : RunningOperator). kept_seen y.state) (set operators n operator)), cons-sum (kept_seen x.state) (map (λ (y : RunningOperator). kept_seen y.state) operators))

-- ---- takes

kept-there : (operators : List RunningOperator) (n : ℕ) → n < length operators → get_or (map (λ (x : RunningOperator). kept_seen x.state) operators) n NothingKept ≡ kept_seen (running_at operators n).state
kept-there operators n lt = get_or-map (λ (x : RunningOperator). kept_seen x.state) operators n no_operator NothingKept lt

pub join-here : (plan : RunPlan) (limit : ℕ) (operators : List RunningOperator) → IsMadeOf plan limit operators → (place : ℕ) → place < length operators → (join : JoinView) → (running_at operators place).state ≡ RunningJoin join → join.node ≡ place
join-here plan limit operators made place lt join at =
    join-number plan limit place join.node join.spec join.limit
    (let l = sym (length-map operators frame_of) ∙ ap length made.2 ∙ long-of plan limit in omega (arith, lt, l))
    (ap (λ (fs : List Frame). (frame_at fs place).kind) (sym made.2) ∙ ap (λ (f : Frame). f.kind) (frame-at operators place) ∙ ap kind_of at)

module _ (plan : RunPlan) (limit : ℕ) (operators : List RunningOperator) (made : IsMadeOf plan limit operators) (c : List ℕ) (halt : Bool) (u : List Out) (history : List Entry) (S : StandsFor (core_of plan limit operators c halt u None) history)
    (place : ℕ) (there : place < length operators) (join : JoinView) (at : (running_at operators place).state ≡ RunningJoin join) where
  abbrev nodes : List Node
  nodes = nodes_from (nodes_of plan) history

  abbrev peak : ℕ
  peak = (running_at operators place).peak

  abbrev state-of : IsJoinWith join (operator_at nodes place)
  state-of = own.J plan limit operators made c halt u history S place there join at

  take-steps : (t : ℕ) → has join.kept.pending t ≡ true → Steps operators (with_state operators place (RunningJoin (after join (Take t))) peak) nodes place (Own (Take t))
  take-steps t p =
      own.own-steps plan limit operators made c halt u history S place there join at (Taken place t) (Take t) peak refl refl tt
      (own.take-allowed plan limit operators made c halt u history S place there join at t p)
      (inl (refl, let a = own.stored-before plan limit operators made c halt u history S place there join at in let b = own.stored-own plan limit operators made c halt u history S place there join at (Take t) in omega (arith, a, b)))

  pub takes : (t : ℕ) → has join.kept.pending t ≡ true → StandsFor (core_of plan limit (with_state operators place (RunningJoin (after join (Take t))) peak) c halt u None) (history ++ plain (Taken place t) ∷ [])
  takes t p =
      note plan limit operators made c halt u history S (Taken place t) place (Own (Take t)) refl refl mid (take-steps t p) mid c u u 0
      (own.take-allowed plan limit operators made c halt u history S place there join at t p) (silent plan.trace)
      (subst (λ (es : List Element). Emits (record { operators = mid; outs = u }) (record { operators = mid; outs = u }) place es)
      (sym (own.handed-own plan limit operators made c halt u history S place there join at (Take t))) (emits-none (record { operators = mid; outs = u }) place))
      (stays-none mid) refl (λ old more. refl) refl refl
    where
      mid : List RunningOperator
      mid = with_state operators place (RunningJoin (after join (Take t))) peak

      silent : (trace : Bool) → u ≡ u ++ cond trace [] []
      silent true = sym (append-nil u)
      silent false = sym (append-nil u)

  -- the results of a ticket that is taken stay
  pub results-stay : (t : ℕ) → has join.kept.pending t ≡ true → results_of (nodes_of plan) (history ++ plain (Taken place t) ∷ []) place t ≡ results_of (nodes_of plan) history place t
  results-stay t p =
      ap (λ (o : Operator). map joined (results (data_at (nodes_of plan) place) (state_in o).tuples (state_in o).tuples t))
      (own.later plan limit operators made c halt u history S place there join at (Taken place t) (Take t) refl refl (own.take-allowed plan limit operators made c halt u history S place there join at t p)
      ∙ ap (λ (o : Operator). after_local o (Own (Take t))) state-of.is)
      ∙ sym (ap (λ (o : Operator). map joined (results (data_at (nodes_of plan) place) (state_in o).tuples (state_in o).tuples t)) state-of.is)

  give-steps : (t : ℕ) → IsTaken join.kept t → Steps operators (with_state operators place (RunningJoin (after join (Give t))) peak) nodes place (Own (Give t))
  give-steps t p =
      own.own-steps plan limit operators made c halt u history S place there join at (Given place t) (Give t) peak refl refl tt
      (own.give-allowed plan limit operators made c halt u history S place there join at t p)
      (inl (refl, let a = own.stored-before plan limit operators made c halt u history S place there join at in let b = own.stored-own plan limit operators made c halt u history S place there join at (Give t) in omega (arith, a, b)))

  module _ (t : ℕ) (p : IsTaken join.kept t) (rows : List (List Value)) (are : rows ≡ results_of (nodes_of plan) history place t) where
    abbrev mid : List RunningOperator
    mid = with_state operators place (RunningJoin (after join (Give t))) peak

    handed : hands (operator_at nodes place) (Own (Give t)) ≡ map Tuple rows
    handed =
        own.handed-own plan limit operators made c halt u history S place there join at (Give t)
        ∙ both (results join.spec state-of.state.tuples state-of.state.tuples t)
        ∙ ap (map Tuple) (sym (are ∙ own.results-are plan limit operators made c halt u history S place there join at t))
      where
        both : (cs : List (List TupleAt)) → map (λ c. Tuple (joined c)) cs ≡ map Tuple (map joined cs)
        both [] = refl
        both (x ∷ cs) = ap (λ (es : List Element). Tuple (joined x) ∷ es) (both cs)

    pub gives : (new : List RunningOperator) (u' : List Out) → Emits (record { operators = mid; outs = u }) (record { operators = new; outs = u' }) place (map Tuple rows) → StaysAs mid new
        → StandsFor (core_of plan limit new c halt u' None) (history ++ plain (Given place t) ∷ [])
    gives new u' C stays =
        note plan limit operators made c halt u history S (Given place t) place (Own (Give t)) refl refl mid (give-steps t p) new c u u' 0
        (own.give-allowed plan limit operators made c halt u history S place there join at t p) (silent plan.trace)
        (subst (λ (es : List Element). Emits (record { operators = mid; outs = u }) (record { operators = new; outs = u' }) place es) (sym handed) C)
        stays refl (λ old more. refl) refl refl
      where
        silent : (trace : Bool) → u ≡ u ++ cond trace [] []
        silent true = sym (append-nil u)
        silent false = sym (append-nil u)

    pub give-beyond : (o : Option ℕ) → GoBeyond mid place (map Tuple rows) o → goes_beyond limit (nodes_of plan) history (Given place t) ≡ o
    give-beyond o G =
        beyond-is plan limit operators made c halt u history S (Given place t) place (Own (Give t)) refl refl mid (give-steps t p) o
        (subst (λ (es : List Element). GoBeyond mid place es o) (sym handed) G)

-- ---- calls

-- a ticket was taken at the first node that has one pending
pub takes-next : (plan : RunPlan) (limit : ℕ) (operators new : List RunningOperator) (c : List ℕ) (halt : Bool) (u : List Out) (found : Found) → IsMadeOf plan limit operators → FirstTook operators new found
    → TakesNext (core_of plan limit operators c halt u None) (core_of plan limit new c halt u None) found
takes-next plan limit operators new c halt u found made F =
    subst (λ (operators' : List RunningOperator). TakesNext (core_of plan limit operators c halt u None) (core_of plan limit operators' c halt u None) found) (sym changes)
    (record {
      next = λ history S. next history S;
      finds = λ history S. finds history S;
      keeps = λ history S.
          finds history S
          ∙ sym (ap (λ (n : ℕ). results_of (nodes_of plan) (history ++ plain (Taken n found.ticket) ∷ []) n found.ticket) joins
          ∙ results-stay plan limit operators made c halt u history S F.place F.there join F.took.was found.ticket F.took.takes.pending
          ∙ ap (λ (n : ℕ). results_of (nodes_of plan) history n found.ticket) (sym joins));
      opens = opens;
      fits = fits;
      within = λ history S. take-within limit (nodes_of plan) (tree plan made.0) history found.join found.ticket;
      notes = record {
        plan = refl;
        limit = refl;
        stands = λ history S.
            subst (λ (n : ℕ). StandsFor (core_of plan limit mid c halt u None) (history ++ plain (Taken n found.ticket) ∷ [])) (sym joins)
            (takes plan limit operators made c halt u history S F.place F.there join F.took.was found.ticket F.took.takes.pending);
      };
      on = refl;
      undrained = refl;
      fewer = fewer-there operators F.place (record (running_at operators F.place) { state = RunningJoin (after join (Take found.ticket)) }) F.there fewer;
    })
  where
    join : JoinView
    join = F.took.join

    mid : List RunningOperator
    mid = with_state operators F.place (RunningJoin (after join (Take found.ticket))) (running_at operators F.place).peak

    changes : new ≡ mid
    changes = F.changes ∙ ap (λ (w : OperatorState). with_state operators F.place w (running_at operators F.place).peak) F.took.is

    joins : found.join ≡ F.place
    joins = ap (λ (f : Found). f.join) F.took.takes.finds ∙ join-here plan limit operators made F.place F.there join F.took.was

    fewer : pending_kept (kept_seen (RunningJoin (after join (Take found.ticket)))) < pending_kept (kept_seen (running_at operators F.place).state)
    fewer = subst (λ (w : OperatorState). length (without join.kept.pending found.ticket) < pending_kept (kept_seen w)) (sym F.took.was) (fewer-without join.kept.pending found.ticket F.took.takes.pending)

    fits : FitNode (core_of plan limit mid c halt u None) found.join found.rows
    fits row h =
        found-fits join found.ticket (subst IsOrderly F.took.was (made.3 F.place)) row (subst (λ (f : Found). In row f.rows) F.took.takes.finds h)
        ∙ sym (own-width operators F.place join (subst AreLinked (sym made.2) (links-of plan limit made.0)) F.there F.took.was)
        ∙ ap (λ (f : Frame). f.width) (sym (frame-at operators F.place) ∙ ap (λ (fs : List Frame). frame_at fs F.place) made.2 ∙ frame-is plan limit F.place (let l = F.there in omega (arith, l, sym (length-map operators frame_of) ∙ ap length made.2 ∙ long-of plan limit)))
        ∙ ap (λ (n : ℕ). length (node_schema plan.nodes n)) (sym joins)

    opens : IsOpen (core_of plan limit mid c halt u None) found
    opens =
        subst (λ (n : ℕ). IsTakenIn (get_or (map (λ (x : RunningOperator). kept_seen x.state) mid) n NothingKept) found.ticket) (sym joins)
        (subst (λ (k : KeptOperator). IsTakenIn k found.ticket)
        (sym (kept-there mid F.place (let l = F.there in omega (arith, l, length-set operators F.place operator)) ∙ ap (λ (x : RunningOperator). kept_seen x.state) (get_or-set_same operators F.place operator no_operator F.there)))
        F.took.takes.taken)
      where
        operator : RunningOperator
        operator = record (running_at operators F.place) { state = RunningJoin (after join (Take found.ticket)) }

    finds : (history : List Entry) → StandsFor (core_of plan limit operators c halt u None) history → found.rows ≡ results_of (nodes_of plan) history found.join found.ticket
    finds history S =
        let J = own.J plan limit operators made c halt u history S F.place F.there join F.took.was in
        let steps = own.steps plan limit operators made c halt u history S F.place F.there join F.took.was in
        F.took.finds steps.0 (own.stands plan limit operators made c halt u history S F.place F.there join F.took.was)
        ∙ ap (λ (s : JoinState). map joined (results join.spec s.tuples s.tuples found.ticket)) (sym steps.2)
        ∙ sym (own.results-are plan limit operators made c halt u history S F.place F.there join F.took.was found.ticket)
        ∙ ap (λ (n : ℕ). results_of (nodes_of plan) history n found.ticket) (sym joins)

    next : (history : List Entry) → StandsFor (core_of plan limit operators c halt u None) history → next_probe (nodes_from (nodes_of plan) history) ≡ Some (record { join = found.join; ticket = found.ticket })
    next history S =
        let A = are plan limit operators made c halt u history S in
        let J = own.J plan limit operators made c halt u history S F.place F.there join F.took.was in
        let steps = own.steps plan limit operators made c halt u history S F.place F.there join F.took.was in
        let pending : pending_at (nodes_from (nodes_of plan) history) F.place ≡ join.kept.pending =
        tickets-are operators (nodes_from (nodes_of plan) history) F.place A F.there ∙ ap (λ (w : OperatorState). tickets (kept_seen w)) F.took.was in
        let kept = J.kept ∙ ap kept_of steps.2 in
        next-is operators (nodes_from (nodes_of plan) history) A ∙ ap (first_there (nodes_from (nodes_of plan) history)) F.first
        ∙ ap (λ (us : List ℕ). first_of F.place us None) pending
        ∙ first-least F.place join.kept.pending found.ticket (subst (λ (k : KeptState). AreAscending k.pending) (sym kept) (pending-ascends join.spec steps.0))
        (has-in join.kept.pending found.ticket F.took.takes.pending) F.took.takes.least
        ∙ ap (λ (n : ℕ). Some (record { join = n; ticket = found.ticket })) (sym joins)

-- what is open is taken at a join that is there
pub open-there : (operators : List RunningOperator) (n t : ℕ) → IsTakenIn (get_or (map (λ (x : RunningOperator). kept_seen x.state) operators) n NothingKept) t → (n < length operators) × IsTakenIn (kept_seen (running_at operators n).state) t
open-there [] n t h = absurd h
open-there (x ∷ operators) zero t h = (omega arith, h)
open-there (x ∷ operators) (suc n) t h = let r = open-there operators n t h in (let l = r.0 in omega (arith, l), r.1)

module _ (plan : RunPlan) (limit : ℕ) (operators : List RunningOperator) (c : List ℕ) (halt : Bool) (u : List Out) (probe found : Found) (state : OperatorState) (made : IsMadeOf plan limit operators)
    (there : probe.join < length operators) (taken : IsTakenIn (kept_seen (running_at operators probe.join).state) probe.ticket) (acts : JoinActs (running_at operators probe.join).state state (Give probe.ticket)) where
  abbrev given : List RunningOperator
  given = with_state operators probe.join state (running_at operators probe.join).peak

  same : given ≡ with_state operators probe.join (RunningJoin (after acts.join (Give probe.ticket))) (running_at operators probe.join).peak
  same = ap (λ (w : OperatorState). with_state operators probe.join w (running_at operators probe.join).peak) acts.is

  taken-there : IsTaken acts.join.kept probe.ticket
  taken-there = subst (λ (w : OperatorState). IsTakenIn (kept_seen w) probe.ticket) acts.was taken

  -- the ticket was given, and the rows climbed
  pub has-given : (new : List RunningOperator) (u' : List Out) → Emits (record { operators = given; outs = u }) (record { operators = new; outs = u' }) probe.join (map Tuple found.rows) → StaysAs given new
      → HasGiven (core_of plan limit operators c halt u None) (core_of plan limit new c halt u' None) probe found
  has-given new u' C stays = record {
    on = (refl, refl);
    plan = refl;
    limit = refl;
    within = λ history S are.
        give-beyond plan limit operators made c halt u history S probe.join there acts.join acts.was probe.ticket taken-there found.rows are None
        (subst (λ (operators' : List RunningOperator). GoBeyond operators' probe.join (map Tuple found.rows) None) same C.within);
    stands = λ history S are.
        gives plan limit operators made c halt u history S probe.join there acts.join acts.was probe.ticket taken-there found.rows are new u'
        (subst (λ (operators' : List RunningOperator). Emits (record { operators = operators'; outs = u }) (record { operators = new; outs = u' }) probe.join (map Tuple found.rows)) same C)
        (subst (λ (operators' : List RunningOperator). StaysAs operators' new) same stays);
  }

  pub give-stop : (stop : Stop) → IsEmitStop given probe.join (map Tuple found.rows) stop → IsGiveCause (core_of plan limit operators c halt u None) probe found stop
  give-stop (Limit node) g = λ history S are.
      give-beyond plan limit operators made c halt u history S probe.join there acts.join acts.was probe.ticket taken-there found.rows are (Some node)
      (subst (λ (operators' : List RunningOperator). GoBeyond operators' probe.join (map Tuple found.rows) (Some node)) same g)
  give-stop NoMemory g = tt
