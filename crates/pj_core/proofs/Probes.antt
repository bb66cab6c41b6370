-- A probe at a join of a core: a take and a give at once.
use Rattle.std.proofs.Common.{ℕ, zero, suc, inl, inr, ◌⊎◌, ◌<◌, ◌≤◌, Bool, true, false, List, [], ◌∷◌, ◌++◌, ◌≡◌, Option, Some, None, map, length, get_or, set, refl, sym, ap, ◌∙◌, subst, arith, append-nil, append_assoc}
use Rattle.std.proofs.lemmas.Bool.{cases_lt}
use Rattle.std.proofs.lemmas.List.{get_or-set_same, length-set, nil_from_length}
use Rattle.pj_value.specs.declared.values.Value.{Value}
use Rattle.pj_value.proofs.Numbers.{has-in}
use Rattle.pj_pattern.specs.declared.element.Element.{Element}
use Rattle.pj_pattern.specs.declared.element.Element.TheVariants.{Tuple}
use Rattle.pj_events.specs.declared.events.Entry.{Entry}
use Rattle.pj_events.specs.declared.events.Event.TheVariants.{Take as Taken, Give as Given, Stopped}
use Rattle.pj_events.specs.declared.events.Out.{Out}
use Rattle.pj_events.specs.declared.events.Stop.{Stop}
use Rattle.pj_events.specs.declared.events.Stop.TheVariants.{Limit, NoMemory}
use Rattle.pj_events.specs.Join.{Give, JoinState, Take, joined, results}
use Rattle.pj_events.specs.KeptState.{KeptState, kept_of}
use Rattle.pj_events.specs.Plan.{Node}
use Rattle.pj_events.specs.History.{nodes_from}
use Rattle.pj_events.specs.Outcomes.{elements_out, goes_beyond, results_of}
use Rattle.pj_events.specs.OneThread.{Pending, first_of, pending_at, plain, probes_at}
use Rattle.pj_events.specs.CoreKept.{NothingKept}
use Rattle.pj_laws.proofs.Quiet.{take-within}
use Rattle.pj_core.proofs.Planned.{tree}
use Rattle.pj_join_laws.proofs.Tickets.{AreAscending, first-least, pending-ascends}
use Rattle.pj_join.specs.Joins.{JoinView, after, found_of}
use Rattle.pj_operator.specs.declared.operator.RunningOperator.{RunningOperator}
use Rattle.pj_operator.specs.declared.operator.OperatorState.{OperatorState}
use Rattle.pj_operator.specs.declared.operator.OperatorState.TheVariants.{Join as RunningJoin}
use Rattle.pj_operator.specs.Acts.{IsProbeStop, JoinProbed, ProbesOn, found_outs, with_state}
use Rattle.pj_operator.specs.Operators.{AreAs, running_at, frames_in, kept_seen, kind_of, no_operator, pending_kept}
use Rattle.pj_operator.specs.Emitting.{Emits, GoBeyond, Scene, StaysAs}
use Rattle.pj_core.specs.Cores.{CoreState, StandsFor}
use Rattle.pj_core.specs.Parts.{IsMadeOf, core_of}
use Rattle.pj_core.specs.Plans.{RunPlan, nodes_of}
use Rattle.pj_core.specs.Turns.{MayProbeAt, ProbesAt, StopsAtProbe, StopsProbe, kept_pending}
use Rattle.pj_operator.proofs.Changes.{frames-state, opens-state}
use Rattle.pj_operator.proofs.Widths.{outs-rows}
use Rattle.pj_operator.proofs.Joins.{took_keeps}
use Rattle.pj_core.proofs.Own as own
use Rattle.pj_core.proofs.Stands.{are}
use Rattle.pj_core.proofs.Stops.{stops-now}
use Rattle.pj_core.proofs.Takes.{give-beyond, gives, pending-long, results-stay, takes, tickets, tickets-are}

set-twice : {X : Type 0} (xs : List X) (n : ℕ) (x y : X) → set (set xs n x) n y ≡ set xs n y
set-twice [] n x y = refl
set-twice (z ∷ xs) zero x y = refl
set-twice (z ∷ xs) (suc n) x y = ap (λ (ys : List _). z ∷ ys) (set-twice xs n x y)

-- the list starts with this ticket
pub record StartsWith (ts : List ℕ) (t : ℕ) : Type 0 where
  pub others : List ℕ
  pub is : ts ≡ t ∷ others

pub record HasSome (ts : List ℕ) : Type 0 where
  pub ticket : ℕ
  pub others : List ℕ
  pub is : ts ≡ ticket ∷ others

headed : (n t : ℕ) (ts : List ℕ) → first_of n ts None ≡ Some (record { join = n; ticket = t }) → StartsWith ts t
headed n t [] e = cc
headed n t (v ∷ ts) e = record { others = ts; is = ap (λ (m : ℕ). m ∷ ts) (ap (λ (o : Option Pending). ticket_in o) e) }
  where
    ticket_in : Option Pending → ℕ
    ticket_in None = 0
    ticket_in (Some p) = p.ticket

-- the join at this place works on its least pending ticket
module _ (plan : RunPlan) (limit : ℕ) (operators : List RunningOperator) (made : IsMadeOf plan limit operators) (c : List ℕ) (halt : Bool) (u : List Out)
    (place : ℕ) (there : place < length operators) (state : OperatorState) (ticket : ℕ) (P : JoinProbed (running_at operators place).state state [] (found_outs (running_at operators place).state ticket) ticket) where
  abbrev pub join : JoinView
  join = P.join

  abbrev pub rows : List (List Value)
  rows = (found_of join ticket).rows

  abbrev pub taken : JoinView
  taken = after join (Take ticket)

  abbrev pub peak : ℕ
  peak = (running_at operators place).peak

  abbrev pub operator : RunningOperator
  operator = record (running_at operators place) { state = RunningJoin taken }

  abbrev pub mid : List RunningOperator
  mid = with_state operators place (RunningJoin taken) peak

  at-mid : running_at mid place ≡ operator
  at-mid = get_or-set_same operators place operator no_operator there

  there-mid : place < length mid
  there-mid = let l = length-set operators place operator in omega (arith, there, l)

  made-mid : IsMadeOf plan limit mid
  made-mid = (
    made.0,
    made.1,
    frames-state operators place no_operator (RunningJoin taken) (ap kind_of (sym P.was)) ∙ made.2,
    (opens-state operators place no_operator (RunningJoin taken) there
        (subst (λ (w : OperatorState). Rattle.pj_operator.specs.Operators.KeepsOpen w (RunningJoin taken)) (sym P.was) (took_keeps (Some (found_of join ticket)) join taken P.takes)) made.3).0,
  )

  -- the operators behind the give
  behind-is : with_state operators place state peak ≡ with_state mid place (RunningJoin (after taken (Give ticket))) (running_at mid place).peak
  behind-is =
      ap (λ (w : OperatorState). with_state operators place w peak) P.is
      ∙ sym (ap (λ (x : RunningOperator). set mid place (record x { state = RunningJoin (after taken (Give ticket)) })) at-mid
      ∙ set-twice operators place operator (record (running_at operators place) { state = RunningJoin (after taken (Give ticket)) }))

  elements-are : elements_out (found_outs (running_at operators place).state ticket) ≡ map Tuple rows
  elements-are = ap (λ (w : OperatorState). elements_out (found_outs w ticket)) P.was ∙ outs-rows rows

  module _ (history : List Entry) (S : StandsFor (core_of plan limit operators c halt u None) history) where
    abbrev pub late : List Entry
    late = history ++ plain (Taken place ticket) ∷ []

    S-mid : StandsFor (core_of plan limit mid c halt u None) late
    S-mid = takes plan limit operators made c halt u history S place there join P.was ticket P.takes.pending

    are-rows : rows ≡ results_of (nodes_of plan) late place ticket
    are-rows =
        let steps = own.steps plan limit operators made c halt u history S place there join P.was in
        P.finds steps.0 (own.stands plan limit operators made c halt u history S place there join P.was)
        ∙ ap (λ (s : JoinState). map joined (results join.spec s.tuples s.tuples ticket)) (sym steps.2)
        ∙ sym (own.results-are plan limit operators made c halt u history S place there join P.was ticket)
        ∙ sym (results-stay plan limit operators made c halt u history S place there join P.was ticket P.takes.pending)

    pub ways : (o : Option ℕ) → GoBeyond (with_state operators place state peak) place (elements_out (found_outs (running_at operators place).state ticket)) o → goes_beyond limit (nodes_of plan) late (Given place ticket) ≡ o
    ways o G =
        give-beyond plan limit mid made-mid c halt u late S-mid place there-mid taken (ap (λ (x : RunningOperator). x.state) at-mid) ticket P.takes.taken rows are-rows o
        (subst (λ (xs : List RunningOperator). GoBeyond xs place (map Tuple rows) o) behind-is (subst (λ (es : List Element). GoBeyond (with_state operators place state peak) place es o) elements-are G))

    within-take : goes_beyond limit (nodes_of plan) history (Taken place ticket) ≡ None
    within-take = take-within limit (nodes_of plan) (tree plan made.0) history place ticket

    pub starts : StartsWith (pending_at (nodes_from (nodes_of plan) history) place) ticket
    starts =
        let J = own.J plan limit operators made c halt u history S place there join P.was in
        let steps = own.steps plan limit operators made c halt u history S place there join P.was in
        let kept = J.kept ∙ ap kept_of steps.2 in
        let pending : pending_at (nodes_from (nodes_of plan) history) place ≡ join.kept.pending =
        tickets-are operators (nodes_from (nodes_of plan) history) place (are plan limit operators made c halt u history S) there ∙ ap (λ (w : OperatorState). tickets (kept_seen w)) P.was in
        headed place ticket (pending_at (nodes_from (nodes_of plan) history) place)
        (ap (λ (us : List ℕ). first_of place us None) pending
        ∙ first-least place join.kept.pending ticket (subst (λ (k : KeptState). AreAscending k.pending) (sym kept) (pending-ascends join.spec steps.0))
        (has-in join.kept.pending ticket P.takes.pending) P.takes.least)

    pub stands : (new : List RunningOperator) (u' : List Out) → Emits (record { operators = with_state operators place state peak; outs = u }) (record { operators = new; outs = u' }) place (elements_out (found_outs (running_at operators place).state ticket))
        → StaysAs (with_state operators place state peak) new → StandsFor (core_of plan limit new c halt u' None) (history ++ probes_at place (ticket ∷ []))
    stands new u' C stays =
        subst (StandsFor (core_of plan limit new c halt u' None)) (append_assoc history (plain (Taken place ticket) ∷ []) (plain (Given place ticket) ∷ []))
        (gives plan limit mid made-mid c halt u late S-mid place there-mid taken (ap (λ (x : RunningOperator). x.state) at-mid) ticket P.takes.taken rows are-rows new u'
        (subst (λ (xs : List RunningOperator). Emits (record { operators = xs; outs = u }) (record { operators = new; outs = u' }) place (map Tuple rows)) behind-is
        (subst (λ (es : List Element). Emits (record { operators = with_state operators place state peak; outs = u }) (record { operators = new; outs = u' }) place es) elements-are C))
        (subst (λ (xs : List RunningOperator). StaysAs xs new) behind-is stays))

    pub stops : (operators' : List RunningOperator) (node : ℕ) → GoBeyond (with_state operators place state peak) place (elements_out (found_outs (running_at operators place).state ticket)) (Some node)
        → StopsAtProbe (core_of plan limit operators c halt u None) (core_of plan limit operators' c halt u (Some (Limit node))) history place (Limit node)
    stops operators' node G = record {
      ticket = ticket;
      others = starts.others;
      front = plain (Taken place ticket) ∷ [];
      back = plain (Given place ticket) ∷ [];
      first = starts.is;
      parts = refl;
      within = (within-take, tt);
      stops = ways (Some node) G;
      stands = (stops-now plan limit mid operators' c c halt u (Limit node)).notes.stands late S-mid;
    }

  pub probes-at : (new : List RunningOperator) (u' : List Out) → Emits (record { operators = with_state operators place state peak; outs = u }) (record { operators = new; outs = u' }) place (elements_out (found_outs (running_at operators place).state ticket))
      → StaysAs (with_state operators place state peak) new → kept_pending (core_of plan limit new c halt u' None) place < kept_pending (core_of plan limit operators c halt u None) place
      → ProbesAt (core_of plan limit operators c halt u None) (core_of plan limit new c halt u' None) place
  probes-at new u' C stays fewer = record {
    plan = refl;
    limit = refl;
    on = refl;
    fewer = fewer;
    probes = λ history S. record {
      ticket = ticket;
      others = (starts history S).others;
      first = (starts history S).is;
      within = (within-take history S, (ways history S None C.within, tt));
      stands = stands history S new u' C stays;
    };
  }

-- ---- the call

pub kept-at : (operators : List RunningOperator) (n : ℕ) → pending_kept (get_or (map (λ (x : RunningOperator). kept_seen x.state) operators) n NothingKept) ≡ pending_kept (kept_seen (running_at operators n).state)
kept-at [] n = refl
kept-at (x ∷ operators) zero = refl
kept-at (x ∷ operators) (suc n) = kept-at operators n

module _ (plan : RunPlan) (limit : ℕ) (operators : List RunningOperator) (c : List ℕ) (halt : Bool) (u : List Out) (made : IsMadeOf plan limit operators) where
  -- none is pending at the node
  none-at : (place : ℕ) → pending_kept (kept_seen (running_at operators place).state) ≡ 0 → (history : List Entry) → StandsFor (core_of plan limit operators c halt u None) history → pending_at (nodes_from (nodes_of plan) history) place ≡ []
  none-at place e history S = go (cases_lt place (length operators))
    where
      A : AreAs operators (nodes_from (nodes_of plan) history)
      A = are plan limit operators made c halt u history S

      go : (place < length operators) ⊎ (length operators ≤ place) → pending_at (nodes_from (nodes_of plan) history) place ≡ []
      go (inl lt) = tickets-are operators (nodes_from (nodes_of plan) history) place A lt ∙ nil_from_length (tickets (kept_seen (running_at operators place).state)) (sym (pending-long (kept_seen (running_at operators place).state)) ∙ e)
      go (inr ge) = beyond (nodes_from (nodes_of plan) history) place (let l = A.long in omega (arith, ge, l))
        where
          beyond : (nodes : List Node) (n : ℕ) → length nodes ≤ n → pending_at nodes n ≡ []
          beyond [] n g = refl
          beyond (node ∷ nodes) zero g = absurd (omega (arith, g))
          beyond (node ∷ nodes) (suc n) g = beyond nodes n (omega (arith, g))

  pub may-probe : (place : ℕ) (more : Bool) (new : List RunningOperator) (u' : List Out) → ProbesOn more (record { operators = operators; outs = u }) (record { operators = new; outs = u' }) place
      → MayProbeAt more (core_of plan limit operators c halt u None) (core_of plan limit new c halt u' None) place
  may-probe place true new u' H =
      probes-at plan limit operators made c halt u place H.there H.state H.ticket H.probed new u' H.emits H.stays
      (let f = H.fewer in let a = kept-at operators place in let b = kept-at new place in omega (arith, f, a, b))
  may-probe place false new u' H = (ap (λ (s : Scene). core_of plan limit s.operators c halt s.outs None) H.0, λ history S. none-at place H.1 history S)

  pub probe-stops : (place : ℕ) (operators' : List RunningOperator) (stop : Stop) → IsProbeStop operators place stop → StopsProbe (core_of plan limit operators c halt u None) (core_of plan limit operators' c halt u (Some stop)) place stop
  probe-stops place operators' (Limit node) b = record {
    plan = refl;
    limit = refl;
    stopped = refl;
    undrained = refl;
    stops = λ history S. stops plan limit operators made c halt u place b.there b.state b.ticket b.probed history S operators' node b.beyond;
  }
  probe-stops place operators' NoMemory b = record {
    plan = refl;
    limit = refl;
    stopped = refl;
    undrained = refl;
    stops = λ history S.
        let T = some-in (pending_at (nodes_from (nodes_of plan) history) place)
        (let p = b.1 in let l = pending-long (kept_seen (running_at operators place).state) in
        let e = ap length (tickets-are operators (nodes_from (nodes_of plan) history) place (are plan limit operators made c halt u history S) b.0) in omega (arith, p, l, e)) in
        record {
          ticket = T.ticket;
          others = T.others;
          front = [];
          back = probes_at place (T.ticket ∷ []);
          first = T.is;
          parts = refl;
          within = tt;
          stops = tt;
          stands =
              subst (λ (h : List Entry). StandsFor (core_of plan limit operators' c halt u (Some NoMemory)) (h ++ plain (Stopped NoMemory) ∷ [])) (sym (append-nil history))
              ((stops-now plan limit operators operators' c c halt u NoMemory).notes.stands history S);
        };
  }
    where
      some-in : (ts : List ℕ) → 0 < length ts → HasSome ts
      some-in [] l = absurd (omega (arith, l))
      some-in (t ∷ ts) l = record { ticket = t; others = ts; is = refl }

  pub probe-stops-now : (t : Option Stop) (old : CoreState) → core_of plan limit operators c halt u t ≡ old → t ≡ None → (place : ℕ) (operators' : List RunningOperator) (u' : List Out) (stop : Stop) → u' ≡ u → IsProbeStop operators place stop
      → StopsProbe old (core_of plan limit operators' c halt u' (Some stop)) place stop
  probe-stops-now t old is e place operators' u' stop outs b =
      subst (λ (v : List Out). StopsProbe old (core_of plan limit operators' c halt v (Some stop)) place stop) (sym outs)
      (subst (λ (o : CoreState). StopsProbe o (core_of plan limit operators' c halt u (Some stop)) place stop) (ap (core_of plan limit operators c halt u) (sym e) ∙ is) (probe-stops place operators' stop b))
