-- Steps that were made, that are not enabled, or that stopped.
use Rattle.std.proofs.Common.{◌≡◌, ℕ, zero, suc, ◌<◌, true, false, cond, List, [], ◌∷◌, ◌++◌, length, map, get_or, set, Option, Some, None, eqb, refl, ap, sym, ◌∙◌, subst, append-nil, arith}
use Rattle.std.specs.List.{slice_get}
use Rattle.std.proofs.lemmas.List.{map-set}
use Rattle.std.proofs.lemmas.Option.{get_or_from_slice_get}
use Rattle.pj_io.specs.States.{SinkState}
use Rattle.pj_value.specs.declared.values.Value.{Value}
use Rattle.pj_pattern.specs.declared.element.Element.{Element}
use Rattle.pj_pattern.specs.Elements.{rows_of}
use Rattle.pj_plan.specs.declared.node.PlanNode.{PlanNode}
use Rattle.pj_plan.specs.Nodes.{streams_in}
use Rattle.pj_plan.specs.Sound.{IsSoundPlan}
use Rattle.pj_events.specs.declared.events.Entry.{Entry}
use Rattle.pj_events.specs.declared.events.Stop.{Stop}
use Rattle.pj_events.specs.declared.events.Stop.TheVariants.{Limit as CoreLimit, NoMemory as CoreMemory}
use Rattle.pj_events.specs.OneThread.{Turn, arrival_of}
use Rattle.pj_core.specs.Cores.{MayFollow}
use Rattle.pj_core.specs.Plans.{RunPlan}
use Rattle.pj_feed.specs.declared.feeds.Arrival.{Arrival}
use Rattle.pj_feed.specs.Feeds.{FeedState, AreFeeds, AreSameFeeds, feed_left, turn_in}
use Rattle.pj_feed.proofs.AllFeeds.{feeds_set, one_of, same_set, told_at}
use Rattle.pj_feed.proofs.FeedFacts.{nothing_left_of}
use Rattle.pj_hand.specs.Hands.{HandState}
use Rattle.pj_hand.specs.Steps.{HandArrives, HandStops, IsHandCause, IsHandRefused}
use Rattle.pj_report.specs.Forms.{taken_so_far}
use Rattle.pj_report.specs.Written.{WritesNothing, flat}
use Rattle.pj_report.proofs.Forms.{shown-nil}
use Rattle.pj_run.specs.declared.run.Gathered.{Gathered}
use Rattle.pj_intake.specs.declared.intake.IntakeStop.TheVariants.{ReadFault as IntakeFault, ByteLimit, NoMemory as IntakeMemory}
use Rattle.pj_run.specs.declared.stops.FeedStop.{FeedStop}
use Rattle.pj_run.specs.declared.stops.FeedWhy.{FeedWhy}
use Rattle.pj_run.specs.declared.stops.FeedWhy.TheVariants.{Intake, WriteFailed as FlushFailed}
use Rattle.pj_run.specs.declared.stops.RunStop.TheVariants.{NoMemory}
use Rattle.pj_run.specs.Feeding.{FeedEnds}
use Rattle.pj_run.specs.Stops.{of_core, of_feed, of_turn, stop_at}
use Rattle.pj_run.specs.Checking.{IsThere, with_arrival}
use Rattle.pj_run.specs.Runs.{plan_in}
use Rattle.pj_run.specs.Turning.{IsTurnOf}
use Rattle.pj_run.proofs.Keeping.{arrival_more, there_of}
use Rattle.pj_run.proofs.Running.{turn_of_feeds}
use Rattle.pj_script.specs.declared.step.ScriptStep.{ScriptStep}
use Rattle.pj_script.specs.declared.step.ScriptStep.TheVariants.{Arrive}
use Rattle.pj_script.specs.Playing.{arrival_if}
use Rattle.pj_run.specs.Goes.{HasLists}
use Rattle.pj_replay.specs.Playing.{FeedFails, Follows, GoesOver, IsOpenAt, IsReady, NextAt, NoneAt, Stage, StepMade, StepSkipped, StepStops, StepWhy, stage}
use Rattle.pj_replay.proofs.Coming.{follows_turn, may_come}
use Rattle.pj_replay.proofs.Settled.{quiet-outs}

-- ---- the feed at a place

pub here-at : (feeds : List FeedState) (stream : ℕ) (feed : FeedState) → IsOpenAt feeds stream → feed ≡ get_or feeds stream feed → (o : IsOpenAt feeds stream) × (o.feed ≡ feed)
here-at feeds stream feed opened is = (opened, sym (get_or_from_slice_get feeds stream opened.feed feed opened.is) ∙ sym is)

pub get-there : (feeds : List FeedState) (k : ℕ) (feed : FeedState) → k < length feeds → feed ≡ get_or feeds k feed → slice_get feeds k ≡ Some feed
get-there [] k feed lt is = absurd (omega (arith, lt))
get-there (f ∷ feeds) zero feed lt is = ap Some (sym is)
get-there (f ∷ feeds) (suc k) feed lt is = get-there feeds k feed (omega (arith, lt)) is

pub next-same : (olds news : List FeedState) (stream : ℕ) (next : Arrival) → NextAt olds news stream next → AreSameFeeds olds news
next-same olds news stream next at = subst (AreSameFeeds olds) (sym at.news_are) (same_set olds stream at.before at.now at.was at.same)

pub left-at : (streams : List PlanNode) (feeds : List FeedState) (k : ℕ) (feed : FeedState) → slice_get feeds k ≡ Some feed → get_or (map (feed_left streams) feeds) k [] ≡ feed_left streams feed
left-at streams [] k feed is = absurd (cc)
left-at streams (f ∷ feeds) zero feed is = let same : f ≡ feed = cc is in ap (feed_left streams) same
left-at streams (f ∷ feeds) (suc k) feed is = left-at streams feeds k feed is

-- ---- a stream that has ended

pub ended : (s : Stage) (stream : ℕ) (feed : FeedState) → IsReady s → slice_get s.feeds stream ≡ Some feed → feed.is_open ≡ false → StepSkipped s s (Arrive stream)
ended s stream feed ready is closed = record {
  hand = refl;
  feeds = refl;
  gathered = refl;
  sink = refl;
  none = λ told history follows.
      let streams = streams_in s.hand.core.plan.nodes in
      let fed = (one_of 0 streams s.feeds stream feed ready.fed is).fed in
      let none : feed_left streams feed ≡ [] = rw (nothing_left_of feed fed (fed.closed closed) (told_at s.feeds stream feed told is)) (rw closed refl) in
      ap (λ (ts : List Turn). arrival_if (slice_get ts 0)) (left-at streams s.feeds stream feed is ∙ none);
}

-- ---- a turn that arrives

module _ (old : Stage) (hand' : HandState) (feeds' : List FeedState) (gathered' : Gathered) (sink' : SinkState) (stream : ℕ) (next : Arrival) (ready : IsReady old) (at : NextAt old.feeds feeds' stream next) where
  abbrev streams : List PlanNode
  streams = streams_in old.hand.core.plan.nodes

  abbrev t : Turn
  t = turn_in streams next

  -- it is one of the streams' and fits
  pub turn-of : IsTurnOf streams t
  turn-of = turn_of_feeds streams old.feeds next ready.fed (stream, at.before, at.was, at.brings)

  pub there : old.gathered.accepted.asked ≡ true → IsThere next old.gathered.accepted.lists.items
  there asked = there_of next streams old.gathered.accepted.lists.items turn-of (ready.lists asked)

  may : (history : List Entry) → Follows old.hand old.feeds history → MayFollow old.hand.core history (arrival_of t)
  may history follows = may_come old.hand old.feeds history stream at.before at.now next ready.sound ready.plan ready.on ready.fed follows at.was at.still at.same at.brings at.comes

  follows-more : HandArrives old.hand hand' (arrival_of t) → (history : List Entry) → Follows old.hand old.feeds history → Follows hand' feeds' (history ++ arrival_of t ∷ [])
  follows-more arrives history follows =
      subst (λ (fs : List FeedState). Follows hand' fs (history ++ arrival_of t ∷ [])) (sym at.news_are)
      (follows_turn old.hand old.feeds history stream at.before at.now next ready.sound ready.plan ready.on ready.fed follows at.was at.still at.same at.brings at.comes hand' arrives.plan (arrives.stands history follows.stands (may history follows)))

  pub arrives-made : HandArrives old.hand hand' (arrival_of t) → gathered'.results ≡ old.gathered.results → gathered'.accepted.asked ≡ old.gathered.accepted.asked → length gathered'.accepted.lists.items ≡ length old.gathered.accepted.lists.items
      → (old.gathered.accepted.asked ≡ true → gathered'.accepted.lists.items ≡ with_arrival next old.gathered.accepted.lists.items) → WritesNothing old.sink sink' → StepMade old (stage hand' feeds' gathered' sink') (Arrive stream)
  arrives-made arrives results asked many kept nothing = record {
    ready = record {
      on = arrives.on.1;
      sound = subst (λ (p : RunPlan). IsSoundPlan p.nodes) (sym arrives.plan) ready.sound;
      plan = arrives.plan ∙ (ready.plan ∙ ap (λ (p : RunPlan). plan_of p) (sym arrives.plan));
      fed = subst (λ (p : RunPlan). AreFeeds 0 (streams_in p.nodes) feeds') (sym arrives.plan)
          (subst (AreFeeds 0 streams) (sym at.news_are) (feeds_set 0 streams old.feeds stream at.before at.now ready.fed at.was at.same at.fed));
      lists = subst (λ (p : RunPlan). HasLists (length (streams_in p.nodes)) gathered'.accepted) (sym arrives.plan) (λ a. many ∙ ready.lists (sym asked ∙ a));
      follows = (ready.follows.0 ++ arrival_of t ∷ [], follows-more arrives ready.follows.0 ready.follows.1);
    };
    plan = arrives.plan;
    limit = arrives.limit;
    same = subst (AreSameFeeds old.feeds) (sym at.news_are) (same_set old.feeds stream at.before at.now at.was at.same);
    asked = asked;
    many = many;
    tells = nothing.told;
    later = nothing.later;
    outs = [];
    takes = λ form before is. results ∙ is ∙ ap (taken_so_far form) (sym (append-nil before));
    written = λ told. nothing.same told ∙ sym (append-nil old.sink.written) ∙ ap (λ (ls : List (List ℕ)). old.sink.written ++ flat ls) (sym (shown-nil old.gathered.results.form old.hand.core.plan.nodes));
    makes = λ history follows. record {
      entry = arrival_of t;
      within = arrives.within history follows.stands.stands;
      follows = follows-more arrives history follows;
      kept = λ was s lt.
          ap (λ (ls : List (List (List Value))). get_or ls s []) (kept was) ∙ arrival_more next streams old.gathered.accepted.lists.items s (there was)
          ∙ ap (λ (es : List Element). get_or old.gathered.accepted.lists.items s [] ++ rows_of es) (sym (append-nil (cond (eqb t.stream s) (t.element ∷ []) [])));
      hands = quiet-outs old.hand hand' history arrives.plan follows.stands (arrival_of t ∷ []) (arrives.stands history follows.stands (may history follows)).stands (tt, tt);
      told = λ told.
          let gave = at.gives (told_at old.feeds stream at.before told at.was) streams in
          let left = left-at streams old.feeds stream at.before at.was ∙ gave in (
            ap (λ (ts : List Turn). arrival_if (slice_get ts 0)) left,
            ap (λ (p : RunPlan). map (feed_left (streams_in p.nodes)) feeds') arrives.plan ∙ ap (map (feed_left streams)) at.news_are
                ∙ map-set (feed_left streams) old.feeds stream at.now ∙ ap (λ (ts : List Turn). set (map (feed_left streams) old.feeds) stream (rest-of ts)) (sym left),
          );
    };
  }
    where
      plan_of : RunPlan → RunPlan
      plan_of p = plan_in (record old.hand.core { plan = p })

      rest-of : List Turn → List Turn
      rest-of [] = []
      rest-of (x ∷ xs) = xs

-- ---- a turn that does not

-- the next turn of the stream could not be made
pub feed-stops : (old : Stage) (feeds' : List FeedState) (sink' : SinkState) (stream : ℕ) (stop : FeedStop) → NoneAt old.feeds feeds' stream old.sink sink' stop → WritesNothing old.sink sink' → StepStops (of_feed stop) old (stage old.hand feeds' old.gathered sink') (Arrive stream)
feed-stops old feeds' sink' stream stop none nothing = record {
  plan = refl;
  undrained = refl;
  results = refl;
  same = none.same;
  told = nothing.told;
  written = nothing.same;
  later = nothing.later;
  why = go stop.why none.ends;
}
  where
    fails : (why : FeedWhy) → FeedEnds none.before none.now old.sink sink' why → FeedFails old (stage old.hand feeds' old.gathered sink') (Arrive stream) stop.stream why
    fails why ends = record {
      is = ap Arrive (sym none.of);
      none = record {
        of = refl;
        before = none.before;
        now = none.now;
        was = ap (slice_get old.feeds) none.of ∙ none.was;
        is_now = ap (slice_get feeds') none.of ∙ none.is_now;
        still = none.still;
        same = none.same;
        ends = ends;
      };
    }

    go : (why : FeedWhy) → FeedEnds none.before none.now old.sink sink' why → StepWhy (stop_at stop.stream why) old (stage old.hand feeds' old.gathered sink') (Arrive stream)
    go (Intake IntakeFault) ends = fails (Intake IntakeFault) ends
    go (Intake ByteLimit) ends = fails (Intake ByteLimit) ends
    go (Intake IntakeMemory) ends = tt
    go FlushFailed ends = ends

-- memory was wanting, and the hand stays as it is
pub memory-stops : (old new : Stage) (step : ScriptStep) → new.hand ≡ old.hand → new.gathered.results ≡ old.gathered.results → AreSameFeeds old.feeds new.feeds → WritesNothing old.sink new.sink → StepStops NoMemory old new step
memory-stops old new step hand results same nothing = record {
  plan = ap (λ (h : HandState). h.core.plan) hand;
  undrained = ap (λ (h : HandState). h.core.kept.undrained) hand;
  results = results;
  same = same;
  told = nothing.told;
  written = nothing.same;
  later = nothing.later;
  why = tt;
}

-- the core stopped now
pub core-stops : (old new : Stage) (step : ScriptStep) (stop : Stop) → HandStops old.hand new.hand stop → new.gathered.results ≡ old.gathered.results → AreSameFeeds old.feeds new.feeds → WritesNothing old.sink new.sink
    → ((node : ℕ) → stop ≡ CoreLimit node → (history : List Entry) → Follows old.hand old.feeds history → GoesOver old step node history) → StepStops (of_turn (of_core stop)) old new step
core-stops old new step stop stops results same nothing over = record {
  plan = stops.notes.plan;
  undrained = stops.undrained;
  results = results;
  same = same;
  told = nothing.told;
  written = nothing.same;
  later = nothing.later;
  why = go stop refl;
}
  where
    go : (s : Stop) → s ≡ stop → StepWhy (of_turn (of_core s)) old new step
    go (CoreLimit node) e = over node (sym e)
    go CoreMemory e = tt

-- a hand that was on stops now
pub stops-now : (before : Option Stop) (old new : HandState) (stop : Stop) (cause : Type 0) → before ≡ None → IsHandRefused before old new stop cause → HandStops old new stop × cause
stops-now None old new stop cause on refused = refused
stops-now (Some s) old new stop cause on refused = absurd (cc)

-- the arrival goes beyond
pub arrival-over : (old : Stage) (feeds' : List FeedState) (stream : ℕ) (next : Arrival) → NextAt old.feeds feeds' stream next → (stop : Stop) → IsHandCause old.hand (arrival_of (turn_in (streams_in old.hand.core.plan.nodes) next)).event stop
    → (node : ℕ) → stop ≡ CoreLimit node → (history : List Entry) → Follows old.hand old.feeds history → GoesOver old (Arrive stream) node history
arrival-over old feeds' stream next at stop cause node is history follows = record {
  entry = arrival_of (turn_in (streams_in old.hand.core.plan.nodes) next);
  beyond = (subst (IsHandCause old.hand (arrival_of (turn_in (streams_in old.hand.core.plan.nodes) next)).event) is cause) history follows.stands;
  told = λ told.
      let streams = streams_in old.hand.core.plan.nodes in
      ap (λ (ts : List Turn). arrival_if (slice_get ts 0)) (left-at streams old.feeds stream at.before at.was ∙ at.gives (told_at old.feeds stream at.before told at.was) streams);
}
