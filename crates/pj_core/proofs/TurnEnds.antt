-- Whole turns.
use Rattle.std.proofs.Common.{ℕ, zero, suc, ◌+◌, Bool, true, false, cond, List, [], ◌∷◌, ◌++◌, ◌≡◌, Option, Some, None, refl, sym, ap, ap₂, ◌∙◌, subst, append_assoc}
use Rattle.std.proofs.lemmas.List.{append-nil}
use Rattle.pj_events.specs.declared.events.Entry.{Entry}
use Rattle.pj_events.specs.declared.events.Event.TheVariants.{Arrive, Drain, Stopped, Sweep as Swept}
use Rattle.pj_events.specs.declared.events.Out.{Out}
use Rattle.pj_events.specs.declared.events.Stop.{Stop}
use Rattle.pj_events.specs.declared.events.Stop.TheVariants.{Limit, NoMemory}
use Rattle.pj_events.specs.Plan.{Node}
use Rattle.pj_events.specs.History.{Reached, reached_of, begun, nodes_from}
use Rattle.pj_events.specs.Limits.{StaysWithin, StopsAt}
use Rattle.pj_events.specs.Outcomes.{goes_beyond, outputs_of}
use Rattle.pj_events.specs.OneThread.{Place, Turn, arrival_of, is_punct, pending_at, places_from, plain, probes, probes_at, probes_from, sweeps_at}
use Rattle.pj_laws.proofs.Drains.{AreNoDrains, front-no-drains, kept-outs, probes-no-drains, push-no-drains}
use Rattle.pj_laws.proofs.Nodes.{drain-silent}
use Rattle.pj_laws.proofs.Idle.{drain-within, stop-silent}
use Rattle.pj_laws.proofs.Histories.{nodes-append, outputs-append, reached-append, reached-nodes}
use Rattle.pj_core.specs.Plans.{RunPlan, nodes_of}
use Rattle.pj_core.specs.Cores.{CoreState, Notes, StandsFor, nodes_after, nodes_in}
use Rattle.pj_core.specs.Calls.{HasArrived, IsCause, IsRefused, IsTurnRefused, MakesTurn, StopsInTurn, StopsNow, turn_behind}
use Rattle.pj_core.specs.Turns.{Finishes, Makes, StopsMaking, finishing, probing, swept_where, working}
use Rattle.pj_core.proofs.Making.{makes-then, nodes-on, stops-at-as, stops-longer, within-as}

-- ---- work has no drains

append-no-drains : (xs ys : List Entry) → AreNoDrains xs → AreNoDrains ys → AreNoDrains (xs ++ ys)
append-no-drains [] ys p q = q
append-no-drains (x ∷ xs) ys p q = (p.0, append-no-drains xs ys p.1 q)

probes-quiet : (nodes : List Node) (join n : ℕ) → AreNoDrains (probes_from nodes join n)
probes-quiet nodes join zero = tt
probes-quiet nodes join (suc n) =
    let here = probes_at join (pending_at nodes join) in
    append-no-drains here (probes_from (nodes_from nodes here) (join + 1) n) (probes-no-drains join (pending_at nodes join)) (probes-quiet (nodes_from nodes here) (join + 1) n)

all-quiet : (nodes : List Node) → AreNoDrains (probes nodes)
all-quiet nodes = probes-quiet nodes 0 _

sweeps-quiet : (nodes : List Node) (places : List Place) → AreNoDrains (sweeps_at nodes places)
sweeps-quiet nodes [] = tt
sweeps-quiet nodes (place ∷ places) =
    let here = plain (Swept place.join place.input) ∷ [] in
    let after = here ++ probes (nodes_from nodes here) in
    append-no-drains after (sweeps_at (nodes_from nodes after) places) (tt, all-quiet (nodes_from nodes here)) (sweeps-quiet (nodes_from nodes after) places)

where-quiet : (core : CoreState) (sweeps : Bool) (h : List Entry) → AreNoDrains (swept_where sweeps core h)
where-quiet core true h = sweeps-quiet (nodes_after core h) (places_from 0 (nodes_after core h))
where-quiet core false h = tt

working-quiet : (core : CoreState) (sweeps : Bool) (h : List Entry) → AreNoDrains (working sweeps core h)
working-quiet core sweeps h = append-no-drains (probing core h) (swept_where sweeps core (h ++ probing core h)) (all-quiet (nodes_after core h)) (where-quiet core sweeps (h ++ probing core h))

-- ---- what is handed out on the way

-- the outputs behind entries without drains
grown : (a b : CoreState) (h es : List Entry) → b.plan ≡ a.plan → StandsFor a h → StandsFor b (h ++ es) → AreNoDrains es
    → b.kept.undrained ≡ a.kept.undrained ++ outputs_of a.plan.trace (nodes_after a h) es
grown a b h es p S T n =
    T.stands.1
    ∙ ap (λ (plan : RunPlan). (reached_of plan.trace (nodes_of plan) (h ++ es)).undrained) p
    ∙ ap (λ (r : Reached). r.undrained) (reached-append a.plan.trace (begun (nodes_in a)) h es)
    ∙ kept-outs a.plan.trace (reached_of a.plan.trace (nodes_in a) h) es n
    ∙ ap₂ (λ (outs : List Out) (nodes : List Node). outs ++ outputs_of a.plan.trace nodes es) (sym S.stands.1) (reached-nodes a.plan.trace (begun (nodes_in a)) h)

-- a drain hands out nothing more
drain-last : (trace : Bool) (nodes : List Node) (es : List Entry) → outputs_of trace nodes es ≡ outputs_of trace nodes (es ++ plain Drain ∷ [])
drain-last trace nodes es =
    sym (append-nil (outputs_of trace nodes es))
    ∙ ap (λ (outs : List Out). outputs_of trace nodes es ++ outs) (sym (ap (λ (outs : List Out). outs ++ []) (drain-silent trace (nodes_from nodes es))))
    ∙ sym (outputs-append trace nodes es (plain Drain ∷ []))

-- nor does a stop
stop-last : (trace : Bool) (nodes : List Node) (es : List Entry) (stop : Stop) → outputs_of trace nodes (es ++ plain (Stopped stop) ∷ []) ≡ outputs_of trace nodes es
stop-last trace nodes es stop =
    outputs-append trace nodes es (plain (Stopped stop) ∷ [])
    ∙ ap (λ (outs : List Out). outputs_of trace nodes es ++ (outs ++ [])) (stop-silent trace (nodes_from nodes es) stop)
    ∙ append-nil (outputs_of trace nodes es)

-- ---- the end of a turn

makes-drain : (mid new : CoreState) → mid.kept.stop ≡ None → new ≡ record mid { kept = record mid.kept { undrained = [] } } → Notes mid new (plain Drain) → Makes mid new (λ h. plain Drain ∷ [])
makes-drain mid new on e n = record {
  plan = n.plan;
  limit = n.limit;
  on = ap (λ (c : CoreState). c.kept.stop) e ∙ on;
  within = λ h S. (drain-within mid.limit (nodes_in mid) h, tt);
  stands = n.stands;
}

pub finishes : (sweeps : Bool) (old mid new : CoreState) (outs : List Out) → Makes old mid (working sweeps old) → outs ≡ mid.kept.undrained
    → new ≡ record mid { kept = record mid.kept { undrained = [] } } → Notes mid new (plain Drain) → Finishes sweeps old new outs
finishes sweeps old mid new outs m o e n = record {
  makes = makes-then old mid new (working sweeps old) (λ h. plain Drain ∷ []) m (makes-drain mid new m.on e n);
  undrained = ap (λ (c : CoreState). c.kept.undrained) e;
  hands = λ h S. o ∙ grown old mid h (working sweeps old h) m.plan S (m.stands h S) (working-quiet old sweeps h);
}

-- ---- whole turns

abbrev here : Turn → List Entry
here turn = arrival_of turn ∷ []

-- what a turn does behind its arrival
abbrev rest : Bool → CoreState → List Entry → Turn → List Entry
rest sweeps a h turn = working sweeps a (h ++ here turn)

turn-is : (old a : CoreState) (h : List Entry) (turn : Turn) → a.plan ≡ old.plan → turn_behind old h turn ≡ arrival_of turn ∷ finishing (is_punct turn.element) a (h ++ here turn)
turn-is old a h turn p =
    ap (λ (ns : List Node). arrival_of turn ∷ ((probes ns ++ swept (nodes_from ns (probes ns))) ++ plain Drain ∷ [])) (sym (nodes-on old a h (here turn) p))
    ∙ ap (λ (ns : List Node). arrival_of turn ∷ ((probing a (h ++ here turn) ++ swept ns) ++ plain Drain ∷ [])) (sym (nodes-append (nodes_in a) (h ++ here turn) (probing a (h ++ here turn))))
  where
    swept : List Node → List Entry
    swept ns = cond (is_punct turn.element) (sweeps_at ns (places_from 0 ns)) []

-- an arrival and more entries stay within the limit
both-within : (old a : CoreState) (h es : List Entry) (turn : Turn) → HasArrived old a (arrival_of turn) → StandsFor old h
    → StaysWithin a.limit (nodes_in a) (h ++ here turn) es → StaysWithin old.limit (nodes_in old) h (arrival_of turn ∷ es)
both-within old a h es turn q S w = (q.within h S, within-as old a (h ++ here turn) es q.notes.plan q.notes.limit w)

-- what an arrival and more entries hand out
both-outs : (old new : CoreState) (h es : List Entry) (turn : Turn) → new.plan ≡ old.plan → StandsFor old h → StandsFor new ((h ++ here turn) ++ es) → AreNoDrains es
    → new.kept.undrained ≡ old.kept.undrained ++ outputs_of old.plan.trace (nodes_after old h) (arrival_of turn ∷ es)
both-outs old new h es turn p S T n = grown old new h (arrival_of turn ∷ es) p S (subst (StandsFor new) (append_assoc h (here turn) es) T) (tt, n)

hands-on : (old a : CoreState) (h es : List Entry) (turn : Turn) → a.plan ≡ old.plan → StandsFor old h → StandsFor a (h ++ here turn)
    → a.kept.undrained ++ outputs_of a.plan.trace (nodes_after a (h ++ here turn)) es ≡ old.kept.undrained ++ outputs_of old.plan.trace (nodes_after old h) (arrival_of turn ∷ es)
hands-on old a h es turn p S A =
    ap₂ (λ (outs : List Out) (t : Bool). outs ++ outputs_of t (nodes_after a (h ++ here turn)) es) (grown old a h (here turn) p S A (tt, tt)) (ap (λ (plan : RunPlan). plan.trace) p)
    ∙ ap (λ (ns : List Node). (old.kept.undrained ++ outputs_of old.plan.trace (nodes_after old h) (here turn)) ++ outputs_of old.plan.trace ns es) (nodes-on old a h (here turn) p)
    ∙ append_assoc old.kept.undrained (outputs_of old.plan.trace (nodes_after old h) (here turn)) (outputs_of old.plan.trace (nodes_from (nodes_after old h) (here turn)) es)
    ∙ ap (λ (outs : List Out). old.kept.undrained ++ outs) (sym (outputs-append old.plan.trace (nodes_after old h) (here turn) es))

pub makes-turn : (old a new : CoreState) (turn : Turn) (sweeps : Bool) (outs : List Out) → sweeps ≡ is_punct turn.element → HasArrived old a (arrival_of turn) → Finishes sweeps a new outs → MakesTurn old new turn outs
makes-turn old a new turn sweeps outs is q f' =
    record {
      on = (q.on.0, f.makes.on);
      plan = f.makes.plan ∙ q.notes.plan;
      limit = f.makes.limit ∙ q.notes.limit;
      undrained = f.undrained;
      within = λ h S m.
          subst (StaysWithin old.limit (nodes_in old) h) (sym (turn-is old a h turn q.notes.plan))
          (both-within old a h (finishing punct a (h ++ here turn)) turn q S (f.makes.within (h ++ here turn) (q.notes.stands h S m)));
      stands = λ h S m.
          subst (StandsFor new)
          (append_assoc h (here turn) (finishing punct a (h ++ here turn)) ∙ ap (λ (es : List Entry). h ++ es) (sym (turn-is old a h turn q.notes.plan)))
          (f.makes.stands (h ++ here turn) (q.notes.stands h S m));
      hands = λ h S m.
          let A = q.notes.stands h S m in
          f.hands (h ++ here turn) A
          ∙ ap (λ (outs : List Out). a.kept.undrained ++ outs) (drain-last a.plan.trace (nodes_after a (h ++ here turn)) (rest punct a h turn))
          ∙ hands-on old a h (finishing punct a (h ++ here turn)) turn q.notes.plan S A
          ∙ ap (λ (es : List Entry). old.kept.undrained ++ outputs_of old.plan.trace (nodes_after old h) es) (sym (turn-is old a h turn q.notes.plan));
    }
  where
    punct : Bool
    punct = is_punct turn.element

    f : Finishes punct a new outs
    f = subst (λ (s : Bool). Finishes s a new outs) is f'

stops-in-turn : (old a new : CoreState) (turn : Turn) (stop : Stop) → HasArrived old a (arrival_of turn) → StopsMaking a new (working (is_punct turn.element) a) stop → StopsInTurn old new turn stop
stops-in-turn old a new turn stop q f = record {
  plan = plans;
  limit = f.limit ∙ q.notes.limit;
  stopped = f.stopped;
  takes = λ h S m.
      let A = q.notes.stands h S m in
      let s = f.stops (h ++ here turn) A in
      let quiet = front-no-drains s.front s.back (subst AreNoDrains s.parts (working-quiet a (is_punct turn.element) (h ++ here turn))) in
      record {
        front = arrival_of turn ∷ s.front;
        back = s.back ++ plain Drain ∷ [];
        parts = turn-is old a h turn q.notes.plan
            ∙ ap (λ (es : List Entry). arrival_of turn ∷ (es ++ plain Drain ∷ [])) s.parts
            ∙ ap (λ (es : List Entry). arrival_of turn ∷ es) (append_assoc s.front s.back (plain Drain ∷ []));
        within = both-within old a h s.front turn q S s.within;
        stops = stops-longer old.limit (nodes_in old) (h ++ arrival_of turn ∷ s.front) s.back (plain Drain ∷ []) stop
            (subst (λ (g : List Entry). StopsAt old.limit (nodes_in old) g s.back stop) (append_assoc h (here turn) s.front) (stops-at-as old a ((h ++ here turn) ++ s.front) s.back stop q.notes.plan q.notes.limit s.stops));
        stands = subst (λ (es : List Entry). StandsFor new (es ++ plain (Stopped stop) ∷ [])) (append_assoc h (here turn) s.front) s.stands;
        undrained =
            both-outs old new h (s.front ++ plain (Stopped stop) ∷ []) turn plans S (subst (StandsFor new) (append_assoc (h ++ here turn) s.front (plain (Stopped stop) ∷ [])) s.stands)
            (push-no-drains s.front (plain (Stopped stop)) quiet tt)
            ∙ ap (λ (outs : List Out). old.kept.undrained ++ outs) (stop-last old.plan.trace (nodes_after old h) (arrival_of turn ∷ s.front) stop);
      };
}
  where
    plans : new.plan ≡ old.plan
    plans = f.plan ∙ q.notes.plan

pub turn-stopped : (old a new : CoreState) (turn : Turn) (sweeps : Bool) (stop : Stop) → sweeps ≡ is_punct turn.element → HasArrived old a (arrival_of turn) → StopsMaking a new (working sweeps a) stop
    → IsTurnRefused old.kept.stop old new turn stop
turn-stopped old a new turn sweeps stop is q f =
    subst (λ (t : Option Stop). IsTurnRefused t old new turn stop) (sym q.on.0)
    (stops-in-turn old a new turn stop q (subst (λ (s : Bool). StopsMaking a new (working s a) stop) is f))

-- ---- an arrival that is refused

-- a limit stops the arrival
stops-first : (old : CoreState) (h : List Entry) (turn : Turn) (stop : Stop) → IsCause old (Arrive turn.stream turn.element) stop → StandsFor old h
    → StopsAt old.limit (nodes_in old) (h ++ []) (turn_behind old h turn) stop
stops-first old h turn (Limit node) c S = ap (λ (g : List Entry). goes_beyond old.limit (nodes_in old) g (Arrive turn.stream turn.element)) (append-nil h) ∙ c h S
stops-first old h turn NoMemory c S = tt

stops-at-arrival : (old new : CoreState) (turn : Turn) (stop : Stop) → StopsNow old new stop → IsCause old (Arrive turn.stream turn.element) stop → StopsInTurn old new turn stop
stops-at-arrival old new turn stop s c = record {
  plan = s.notes.plan;
  limit = s.notes.limit;
  stopped = s.stopped;
  takes = λ h S m. record {
    front = [];
    back = turn_behind old h turn;
    parts = refl;
    within = tt;
    stops = stops-first old h turn stop c S;
    stands = subst (λ (es : List Entry). StandsFor new (es ++ plain (Stopped stop) ∷ [])) (sym (append-nil h)) (s.notes.stands h S);
    undrained = s.undrained ∙ sym (append-nil old.kept.undrained);
  };
}

refused-where : (t : Option Stop) (old new : CoreState) (turn : Turn) (stop : Stop) → IsRefused t old new stop (IsCause old (Arrive turn.stream turn.element) stop) → IsTurnRefused t old new turn stop
refused-where None old new turn stop r = stops-at-arrival old new turn stop r.0 r.1
refused-where (Some before) old new turn stop r = r

pub turn-refused : (old new : CoreState) (turn : Turn) (stop : Stop) → IsRefused old.kept.stop old new stop (IsCause old (Arrive turn.stream turn.element) stop) → IsTurnRefused old.kept.stop old new turn stop
turn-refused old new turn stop r = refused-where old.kept.stop old new turn stop r
