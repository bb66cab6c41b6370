-- Steps that bring nothing: takes, gives, sweeps and drains.
use Rattle.std.proofs.Common.{◌≡◌, ◌≤◌, ◌⊎◌, ℕ, Bool, true, false, List, [], ◌∷◌, ◌++◌, map, get_or, length, arith, Option, Some, None, IsTrue, refl, ap, sym, ◌∙◌, subst, inl, inr, append-nil}
use Rattle.std.specs.Prelude.{⊤}
use Rattle.pj_io.specs.States.{SinkState}
use Rattle.pj_value.specs.Lists.{has}
use Rattle.pj_pattern.specs.declared.element.Element.{Element}
use Rattle.pj_pattern.specs.Elements.{rows_of}
use Rattle.pj_plan.specs.Nodes.{streams_in}
use Rattle.pj_plan.specs.Sound.{IsSoundPlan}
use Rattle.pj_events.specs.declared.events.Entry.{Entry}
use Rattle.pj_events.specs.declared.events.Event.TheVariants.{Take as Taken, Give as Given, Sweep as Swept, Drain as Drained}
use Rattle.pj_events.specs.declared.events.Out.{Out}
use Rattle.pj_events.specs.declared.events.Stop.{Stop}
use Rattle.pj_events.specs.declared.events.Stop.TheVariants.{Limit as CoreLimit, NoMemory as CoreMemory}
use Rattle.pj_events.specs.Plan.{Node}
use Rattle.pj_events.specs.History.{Reached, begun, next, reached_of}
use Rattle.pj_events.specs.OneThread.{Pending, Turn, next_probe, plain}
use Rattle.pj_events.specs.Outcomes.{elements_of as arrived_at, elements_out}
use Rattle.pj_laws.proofs.Drains.{IsNoDrain}
use Rattle.pj_laws.proofs.Histories.{reached-append}
use Rattle.pj_laws.proofs.Idle.{drain-within}
use Rattle.pj_laws.proofs.Nodes.{drain-silent}
use Rattle.pj_laws.proofs.OneRun.{elements-append}
use Rattle.pj_core.specs.Cores.{nodes_after, nodes_in}
use Rattle.pj_core.specs.Plans.{RunPlan, nodes_of}
use Rattle.pj_feed.specs.Feeds.{FeedState, AreFeeds, feed_left}
use Rattle.pj_feed.proofs.AllFeeds.{all_same}
use Rattle.pj_hand.specs.Hands.{HandState, HandStandsFor}
use Rattle.pj_hand.specs.Steps.{AnswersStep, HandNotes, HandStops, IsHandCause, IsHandRefused, IsMade, IsUnderWayThere, LacksMemory, MakesStep, SkipsStep}
use Rattle.pj_report.specs.Forms.{TakesMore, shown, taken_so_far}
use Rattle.pj_report.specs.Written.{WritesNothing, flat}
use Rattle.pj_report.proofs.Forms.{shown-nil}
use Rattle.pj_run.specs.declared.checking.AcceptedRows.{AcceptedRows}
use Rattle.pj_run.specs.declared.run.Gathered.{Gathered}
use Rattle.pj_run.specs.Runs.{plan_in}
use Rattle.pj_run.specs.Stops.{of_core, of_turn}
use Rattle.pj_script.specs.declared.step.ScriptStep.{ScriptStep}
use Rattle.pj_script.specs.declared.step.ScriptStep.TheVariants.{Arrive, Take, Give, Sweep, Drain}
use Rattle.pj_script.specs.Playing.{give_if, left_behind, step_entry, take_if, under_way_at}
use Rattle.pj_run.specs.Goes.{HasLists}
use Rattle.pj_replay.specs.Playing.{AnswersPlay, Follows, GoesOver, IsReady, KeepsRowsOf, MakesEntry, Stage, StepMade, StepSkipped, StepStops, entry_of, lefts, stage}
use Rattle.pj_replay.proofs.Made.{core-stops, memory-stops, stops-now}
use Rattle.pj_replay.proofs.Settled.{quiet-outs}

-- a take, a give, a sweep or a drain
abbrev pub IsAct : ScriptStep → Type 0
IsAct (Arrive stream) = ⊥
IsAct Take = ⊤
IsAct (Give join ticket) = ⊤
IsAct (Sweep join input) = ⊤
IsAct Drain = ⊤

-- the entry brings nothing to a stream, and closes none
pub record BringsNone (entry : Entry) : Type 0 where
  pub none : (s : ℕ) → arrived_at s (entry ∷ []) ≡ []
  pub closes : (r : Reached) → (next false r entry).closed ≡ r.closed

-- and is no drain
pub record IsQuiet (entry : Entry) : Type 0 where
  pub brings : BringsNone entry
  pub no_drain : IsNoDrain entry.event

take-quiet : (o : Option Pending) (entry : Entry) → take_if o ≡ Some entry → IsQuiet entry
take-quiet None entry q = absurd (cc)
take-quiet (Some p) entry q =
    let same : plain (Taken p.join p.ticket) ≡ entry = cc q in
    subst IsQuiet same (record { brings = record { none = λ s. refl; closes = λ r. refl }; no_drain = tt })

give-quiet : (b : Bool) (join ticket : ℕ) (entry : Entry) → give_if b join ticket ≡ Some entry → IsQuiet entry
give-quiet false join ticket entry q = absurd (cc)
give-quiet true join ticket entry q =
    let same : plain (Given join ticket) ≡ entry = cc q in
    subst IsQuiet same (record { brings = record { none = λ s. refl; closes = λ r. refl }; no_drain = tt })

-- a take, a give or a sweep
abbrev pub IsWork : ScriptStep → Type 0
IsWork (Arrive stream) = ⊥
IsWork Take = ⊤
IsWork (Give join ticket) = ⊤
IsWork (Sweep join input) = ⊤
IsWork Drain = ⊥

work-quiet : (step : ScriptStep) → IsWork step → (nodes : List Node) (left : List (List Turn)) (entry : Entry) → step_entry nodes left step ≡ Some entry → IsQuiet entry
work-quiet (Arrive stream) w nodes left entry q = absurd w
work-quiet Take w nodes left entry q = take-quiet (next_probe nodes) entry q
work-quiet (Give join ticket) w nodes left entry q = give-quiet (has (under_way_at nodes join) ticket) join ticket entry q
work-quiet (Sweep join input) w nodes left entry q =
    let same : plain (Swept join input) ≡ entry = cc q in
    subst IsQuiet same (record { brings = record { none = λ s. refl; closes = λ r. refl }; no_drain = tt })
work-quiet Drain w nodes left entry q = absurd w

work-left : (step : ScriptStep) → IsWork step → (left : List (List Turn)) → left_behind left step ≡ left
work-left (Arrive stream) w left = absurd w
work-left Take w left = refl
work-left (Give join ticket) w left = refl
work-left (Sweep join input) w left = refl
work-left Drain w left = absurd w

-- ---- what has arrived stays

follows-still : (hand hand' : HandState) (feeds : List FeedState) (history : List Entry) (entry : Entry) → hand'.core.plan ≡ hand.core.plan → Follows hand feeds history → BringsNone entry → HandStandsFor hand' (history ++ entry ∷ []) → Follows hand' feeds (history ++ entry ∷ [])
follows-still hand hand' feeds history entry plan follows brings stands = record {
  stands = stands;
  come = λ k f at still.
      let c = follows.come k f at still in
      record {
        es = c.es;
        accepted = c.accepted;
        arrived = elements-append k history (entry ∷ []) ∙ ap (λ (xs : List Element). arrived_at k history ++ xs) (brings.none k) ∙ append-nil (arrived_at k history) ∙ c.arrived;
        unclosed =
            ap (λ (p : RunPlan). has (reached_of false (nodes_of p) (history ++ entry ∷ [])).closed k) plan
            ∙ ap (λ (r : Reached). has r.closed k) (reached-append false (begun (nodes_in hand.core)) history (entry ∷ []))
            ∙ ap (λ (ns : List ℕ). has ns k) (brings.closes (reached_of false (nodes_in hand.core) history)) ∙ c.unclosed;
      };
}

kept-still : (gathered : Gathered) (entry : Entry) → BringsNone entry → KeepsRowsOf gathered gathered entry
kept-still gathered entry brings asked s lt = sym (append-nil (get_or gathered.accepted.lists.items s [])) ∙ ap (λ (es : List Element). get_or gathered.accepted.lists.items s [] ++ rows_of es) (sym (brings.none s))

ready-still : (old : Stage) (hand' : HandState) (gathered' : Gathered) (sink' : SinkState) → IsReady old → hand'.core.kept.stop ≡ None → hand'.core.plan ≡ old.hand.core.plan → gathered'.accepted ≡ old.gathered.accepted
    → (history : List Entry) × Follows hand' old.feeds history → IsReady (stage hand' old.feeds gathered' sink')
ready-still old hand' gathered' sink' ready on plan accepted follows = record {
  on = on;
  sound = subst (λ (p : RunPlan). IsSoundPlan p.nodes) (sym plan) ready.sound;
  plan = plan ∙ (ready.plan ∙ ap plan_of (sym plan));
  fed = subst (λ (p : RunPlan). AreFeeds 0 (streams_in p.nodes) old.feeds) (sym plan) ready.fed;
  lists = subst (λ (p : RunPlan). HasLists (length (streams_in p.nodes)) gathered'.accepted) (sym plan) (subst (HasLists (length (streams_in old.hand.core.plan.nodes))) (sym accepted) ready.lists);
  follows = follows;
}
  where
    plan_of : RunPlan → RunPlan
    plan_of p = plan_in (record old.hand.core { plan = p })

-- ---- a take, a give or a sweep

module _ (old : Stage) (hand' : HandState) (step : ScriptStep) (work : IsWork step) (ready : IsReady old) where
  abbrev now : Stage
  now = stage hand' old.feeds old.gathered old.sink

  pub work-made : MakesStep old.hand hand' step → StepMade old now step
  work-made m = record {
    ready = ready-still old hand' old.gathered old.sink ready m.on.1 m.plan refl (let one = made ready.follows.0 ready.follows.1 in (ready.follows.0 ++ one.entry ∷ [], one.follows));
    plan = m.plan;
    limit = m.limit;
    same = all_same old.feeds;
    asked = refl;
    many = refl;
    tells = λ t. t;
    later = omega arith;
    outs = [];
    takes = λ form before is. is ∙ ap (taken_so_far form) (sym (append-nil before));
    written = λ told. sym (append-nil old.sink.written) ∙ ap (λ (ls : List (List ℕ)). old.sink.written ++ flat ls) (sym (shown-nil old.gathered.results.form old.hand.core.plan.nodes));
    makes = made;
  }
    where
      made : (history : List Entry) → Follows old.hand old.feeds history → MakesEntry old now step [] history
      made history follows = go (entry_of old history step) refl (m.makes history follows.stands (lefts old))
        where
          go : (o : Option Entry) → entry_of old history step ≡ o → IsMade old.hand hand' history o → MakesEntry old now step [] history
          go None q is = absurd is
          go (Some entry) q is =
              let quiet = work-quiet step work (nodes_after old.hand.core history) (lefts old) entry q in
              record {
                entry = entry;
                within = is.0;
                follows = follows-still old.hand hand' old.feeds history entry m.plan follows quiet.brings is.1;
                kept = kept-still old.gathered entry quiet.brings;
                hands = quiet-outs old.hand hand' history m.plan follows.stands (entry ∷ []) is.1.stands (quiet.no_drain, tt);
                told = λ told. (q, ap (λ (p : RunPlan). map (feed_left (streams_in p.nodes)) old.feeds) m.plan ∙ sym (work-left step work (lefts old)));
              }

  pub work-skipped : SkipsStep old.hand hand' step → StepSkipped old now step
  work-skipped s = record { hand = s.stays; feeds = refl; gathered = refl; sink = refl; none = λ told history follows. s.none history follows.stands (lefts old) }

  pub work-answers : (made : Bool) → AnswersStep made old.hand hand' step → AnswersPlay made old now step
  work-answers true m = work-made m
  work-answers false s = work-skipped s

  still : WritesNothing old.sink old.sink
  still = record { told = λ t. t; same = λ t. refl; later = omega arith }

  pub work-lacks : (stop : Stop) → LacksMemory old.hand hand' stop → StepStops (of_turn (of_core stop)) old now step
  work-lacks stop l = subst (λ (s : Stop). StepStops (of_turn (of_core s)) old now step) (sym l.memory) (memory-stops old now step l.stays refl (all_same old.feeds) still)

  pub work-stops : (stop : Stop) → HandStops old.hand hand' stop → ((node : ℕ) → stop ≡ CoreLimit node → (history : List Entry) → Follows old.hand old.feeds history → GoesOver old step node history) → StepStops (of_turn (of_core stop)) old now step
  work-stops stop s over = core-stops old now step stop s refl (all_same old.feeds) still over

  -- a take that is refused
  pub take-stops : (stop : Stop) → LacksMemory old.hand hand' stop ⊎ IsHandRefused old.hand.core.kept.stop old.hand hand' stop (stop ≡ CoreMemory) → StepStops (of_turn (of_core stop)) old now step
  take-stops stop (inl l) = work-lacks stop l
  take-stops stop (inr r) = let s = stops-now old.hand.core.kept.stop old.hand hand' stop (stop ≡ CoreMemory) ready.on r in work-stops stop s.0 (λ node is. absurd (let e : CoreLimit node ≡ CoreMemory = sym is ∙ s.1 in cc))

-- a give that is refused
pub give-stops : (old : Stage) (hand' : HandState) (join ticket : ℕ) → IsReady old → (stop : Stop) → LacksMemory old.hand hand' stop ⊎ IsHandRefused old.hand.core.kept.stop old.hand hand' stop (IsHandCause old.hand (Given join ticket) stop × IsUnderWayThere old.hand join ticket)
    → StepStops (of_turn (of_core stop)) old (stage hand' old.feeds old.gathered old.sink) (Give join ticket)
give-stops old hand' join ticket ready stop (inl l) = work-lacks old hand' (Give join ticket) tt ready stop l
give-stops old hand' join ticket ready stop (inr r) =
    let s = stops-now old.hand.core.kept.stop old.hand hand' stop (IsHandCause old.hand (Given join ticket) stop × IsUnderWayThere old.hand join ticket) ready.on r in
    work-stops old hand' (Give join ticket) tt ready stop s.0 (λ node is history follows. record {
      entry = plain (Given join ticket);
      beyond = (subst (IsHandCause old.hand (Given join ticket)) is s.1.0) history follows.stands;
      told = λ told. ap (λ (b : Bool). give_if b join ticket) (s.1.1 history follows.stands);
    })

-- a sweep that is refused
pub sweep-stops : (old : Stage) (hand' : HandState) (join input : ℕ) → IsReady old → (stop : Stop) → IsHandRefused old.hand.core.kept.stop old.hand hand' stop (IsHandCause old.hand (Swept join input) stop)
    → StepStops (of_turn (of_core stop)) old (stage hand' old.feeds old.gathered old.sink) (Sweep join input)
sweep-stops old hand' join input ready stop r =
    let s = stops-now old.hand.core.kept.stop old.hand hand' stop (IsHandCause old.hand (Swept join input) stop) ready.on r in
    work-stops old hand' (Sweep join input) tt ready stop s.0 (λ node is history follows. record {
      entry = plain (Swept join input);
      beyond = (subst (IsHandCause old.hand (Swept join input)) is s.1) history follows.stands;
      told = λ told. refl;
    })

-- ---- a drain

pub drain-made : (old : Stage) (hand' : HandState) (gathered' : Gathered) (sink' : SinkState) → IsReady old → hand' ≡ record old.hand { core = record old.hand.core { kept = record old.hand.core.kept { undrained = [] } } } → HandNotes old.hand hand' (plain Drained)
    → gathered'.accepted ≡ old.gathered.accepted → TakesMore old.gathered.results gathered'.results (elements_out old.hand.core.kept.undrained)
    → (IsTrue sink'.told → sink'.written ≡ old.sink.written ++ flat (shown old.gathered.results.form old.hand.core.plan.nodes old.hand.core.kept.undrained)) → (IsTrue sink'.told → IsTrue old.sink.told) → old.sink.faults ≤ sink'.faults → StepMade old (stage hand' old.feeds gathered' sink') Drain
drain-made old hand' gathered' sink' ready drained notes accepted takes written tells later = record {
  ready = ready-still old hand' gathered' sink' ready (ap (λ (h : HandState). h.core.kept.stop) drained ∙ ready.on) notes.plan accepted (ready.follows.0 ++ plain Drained ∷ [], follows-now ready.follows.0 ready.follows.1);
  plan = notes.plan;
  limit = notes.limit;
  same = all_same old.feeds;
  asked = ap (λ (a : AcceptedRows). a.asked) accepted;
  many = ap (λ (a : AcceptedRows). length a.lists.items) accepted;
  tells = tells;
  later = later;
  outs = old.hand.core.kept.undrained;
  takes = takes;
  written = written;
  makes = λ history follows. record {
    entry = plain Drained;
    within = drain-within old.hand.core.limit (nodes_in old.hand.core) history;
    follows = follows-now history follows;
    kept = subst (λ a. KeepsRowsOf old.gathered (record { results = gathered'.results; accepted = a }) (plain Drained)) (sym accepted) (kept-still old.gathered (plain Drained) brings);
    hands = ap (λ (h : HandState). old.hand.core.kept.undrained ++ h.core.kept.undrained) drained
        ∙ ap (λ (os : List Out). old.hand.core.kept.undrained ++ (os ++ [])) (sym (drain-silent old.hand.core.plan.trace (nodes_after old.hand.core history)));
    told = λ told. (refl, ap (λ (p : RunPlan). map (feed_left (streams_in p.nodes)) old.feeds) notes.plan);
  };
}
  where
    brings : BringsNone (plain Drained)
    brings = record { none = λ s. refl; closes = λ r. refl }

    follows-now : (history : List Entry) → Follows old.hand old.feeds history → Follows hand' old.feeds (history ++ plain Drained ∷ [])
    follows-now history follows = follows-still old.hand hand' old.feeds history (plain Drained) notes.plan follows brings (notes.stands history follows.stands)
