-- The steps of a script on a hand, its feeds and what is gathered, one by one.
use Rattle.std.specs.Prelude.{◌≡◌, ◌⊎◌, ◌<◌, ◌≤◌, ℕ, ⊤, Bool, true, false, List, [], ◌∷◌, ◌++◌, map, length, set, Option, Some, None, IsTrue, slice_get, slice_index_or, Result, IfOk, IfErr}
use Rattle.pj_io.specs.Causes.{Rose}
use Rattle.pj_io.specs.States.{SinkState}
use Rattle.pj_value.specs.Lists.{has}
use Rattle.pj_pattern.specs.declared.element.Element.{Element}
use Rattle.pj_element.specs.Runs.{rows_of}
use Rattle.pj_plan.specs.Nodes.{streams_in}
use Rattle.pj_plan.specs.Sound.{IsSoundPlan}
use Rattle.pj_events.specs.declared.events.Entry.{Entry}
use Rattle.pj_events.specs.declared.events.Out.{Out}
use Rattle.pj_events.specs.History.{reached_of}
use Rattle.pj_events.specs.OneThread.{Turn}
use Rattle.pj_events.specs.Outcomes.{elements_of as arrived_at, elements_out, goes_beyond, outputs_of as handed_out}
use Rattle.pj_core.specs.Cores.{nodes_after, nodes_in}
use Rattle.pj_intake.specs.declared.intake.IntakeStop.TheVariants.{ReadFault as IntakeFault, ByteLimit}
use Rattle.pj_feed.specs.declared.feeds.Arrival.{Arrival}
use Rattle.pj_feed.specs.Feeds.{FeedState, AllTold, AreFeeds, AreSameFeeds, BringsOf, ComesBehind, GivesTurn, HasAccepted, IsFed, IsSameFeed, feed_left}
use Rattle.pj_run.specs.declared.stops.FeedStop.{FeedStop}
use Rattle.pj_hand.specs.Hands.{HandState, HandStandsFor}
use Rattle.pj_report.specs.Forms.{TakesMore, shown}
use Rattle.pj_report.specs.declared.stops.WriteStop.{WriteStop}
use Rattle.pj_report.specs.declared.stops.WriteStop.TheVariants.{Failed}
use Rattle.pj_report.specs.Written.{Leaves, flat, write_cut}
use Rattle.pj_run.specs.Stops.{of_turn, of_write}
use Rattle.pj_run.specs.declared.run.Gathered.{Gathered}
use Rattle.pj_run.specs.declared.stops.FeedWhy.{FeedWhy}
use Rattle.pj_run.specs.declared.stops.FeedWhy.TheVariants.{Intake}
use Rattle.pj_run.specs.declared.stops.RunStop.{RunStop}
use Rattle.pj_run.specs.declared.stops.RunStop.TheVariants.{ReadFault, TooLarge, Limit, Refused, WriteFailed, NoMemory, Cut as RunCut, CutRead, CutLarge, CutRefused}
use Rattle.pj_run.specs.Feeding.{FeedEnds}
use Rattle.pj_run.specs.Runs.{plan_in}
use Rattle.pj_script.specs.declared.step.ScriptStep.{ScriptStep}
use Rattle.pj_script.specs.declared.step.ScriptStep.TheVariants.{Arrive, Drain}
use Rattle.pj_script.specs.Playing.{left_behind, step_entry}
use Rattle.pj_run.specs.Goes.{HasLists}

-- a hand, its feeds, what was gathered, and the sink
pub record Stage : Type 0 where
  pub hand : HandState
  pub feeds : List FeedState
  pub gathered : Gathered
  pub sink : SinkState

abbrev pub stage : HandState → List FeedState → Gathered → SinkState → Stage
stage hand feeds gathered sink = record { hand = hand; feeds = feeds; gathered = gathered; sink = sink }

-- ---- what has arrived

-- exactly these elements arrived at the stream, which is not closed: those that were accepted of its file
pub record HasCome (hand : HandState) (history : List Entry) (stream : ℕ) (feed : FeedState) : Type 0 where
  pub es : List Element
  pub accepted : HasAccepted feed es
  pub arrived : arrived_at stream history ≡ es
  pub unclosed : has (reached_of false (nodes_in hand.core) history).closed stream ≡ false

-- the hand stands for the history, in which at each stream whose closing is still to come exactly that arrived which was accepted
pub record Follows (hand : HandState) (feeds : List FeedState) (history : List Entry) : Type 0 where
  pub stands : HandStandsFor hand history
  pub come : (stream : ℕ) (feed : FeedState) → slice_get feeds stream ≡ Some feed → feed.is_open ≡ true → HasCome hand history stream feed

-- what a step needs: nothing has stopped, there is a feed for each stream of the plan, and a list for its rows where they are asked for,
-- and the hand stands for a history
pub record IsReady (s : Stage) : Type 0 where
  pub on : s.hand.core.kept.stop ≡ None
  pub sound : IsSoundPlan s.hand.core.plan.nodes
  pub plan : s.hand.core.plan ≡ plan_in s.hand.core
  pub fed : AreFeeds 0 (streams_in s.hand.core.plan.nodes) s.feeds
  pub lists : HasLists (length (streams_in s.hand.core.plan.nodes)) s.gathered.accepted
  pub follows : (history : List Entry) × Follows s.hand s.feeds history

-- ---- the next turn of a stream

-- the stream at this place is fed, and its closing is still to come
pub record IsOpenAt (feeds : List FeedState) (stream : ℕ) : Type 0 where
  pub feed : FeedState
  pub is : slice_get feeds stream ≡ Some feed
  pub fed : IsFed feed
  pub still : feed.is_open ≡ true

-- it was made, and nothing else was changed
pub record NextAt (olds news : List FeedState) (stream : ℕ) (next : Arrival) : Type 0 where
  pub before : FeedState
  pub now : FeedState
  pub was : slice_get olds stream ≡ Some before
  pub still : before.is_open ≡ true
  pub news_are : news ≡ set olds stream now
  pub same : IsSameFeed before now
  pub fed : IsFed now
  pub gives : GivesTurn before now next
  pub comes : ComesBehind before now next
  pub brings : BringsOf before next

-- it could not be made
pub record NoneAt (olds news : List FeedState) (stream : ℕ) (before_sink sink : SinkState) (stop : FeedStop) : Type 0 where
  pub of : stop.stream ≡ stream
  pub before : FeedState
  pub now : FeedState
  pub was : slice_get olds stream ≡ Some before
  pub is_now : slice_get news stream ≡ Some now
  pub still : before.is_open ≡ true
  pub same : AreSameFeeds olds news
  pub ends : FeedEnds before now before_sink sink stop.why

-- ---- one step

-- what is left of each stream
abbrev pub lefts : Stage → List (List Turn)
lefts s = map (feed_left (streams_in s.hand.core.plan.nodes)) s.feeds

-- the entry of a step behind the history
abbrev pub entry_of : Stage → List Entry → ScriptStep → Option Entry
entry_of s history step = step_entry (nodes_after s.hand.core history) (lefts s) step

-- of each stream the rows that the entry brings are kept, where they are asked for
abbrev pub KeepsRowsOf : Gathered → Gathered → Entry → Type 0
KeepsRowsOf old new entry =
    old.accepted.asked ≡ true → (s : ℕ) → s < length old.accepted.lists.items
    → slice_index_or new.accepted.lists.items s [] ≡ slice_index_or old.accepted.lists.items s [] ++ rows_of (arrived_at s (entry ∷ []))

-- The step's entry was made within the limit, and its rows are kept; what it hands out, and what was not drained before, was given to the
-- writer or is not drained now
pub record MakesEntry (old new : Stage) (step : ScriptStep) (outs : List Out) (history : List Entry) : Type 0 where
  pub entry : Entry
  pub within : goes_beyond old.hand.core.limit (nodes_in old.hand.core) history entry.event ≡ None
  pub follows : Follows new.hand new.feeds (history ++ entry ∷ [])
  pub kept : KeepsRowsOf old.gathered new.gathered entry
  pub hands : outs ++ new.hand.core.kept.undrained ≡ old.hand.core.kept.undrained ++ handed_out old.hand.core.plan.trace (nodes_after old.hand.core history) (entry ∷ [])
  pub told : AllTold old.feeds → (entry_of old history step ≡ Some entry) × (lefts new ≡ left_behind (lefts old) step)

-- the step was made, behind each history that the hand stands for; this was given to the writer
pub record StepMade (old new : Stage) (step : ScriptStep) : Type 0 where
  pub ready : IsReady new
  pub plan : new.hand.core.plan ≡ old.hand.core.plan
  pub limit : new.hand.core.limit ≡ old.hand.core.limit
  pub same : AreSameFeeds old.feeds new.feeds
  pub asked : new.gathered.accepted.asked ≡ old.gathered.accepted.asked
  pub many : length new.gathered.accepted.lists.items ≡ length old.gathered.accepted.lists.items
  pub tells : IsTrue new.sink.told → IsTrue old.sink.told
  pub later : old.sink.faults ≤ new.sink.faults
  pub outs : List Out
  pub takes : TakesMore old.gathered.results new.gathered.results (elements_out outs)
  pub written : IsTrue new.sink.told → new.sink.written ≡ old.sink.written ++ flat (shown old.gathered.results.form old.hand.core.plan.nodes outs)
  pub makes : (history : List Entry) → Follows old.hand old.feeds history → MakesEntry old new step outs history

-- the step is not enabled, and all stays as it is
pub record StepSkipped (old new : Stage) (step : ScriptStep) : Type 0 where
  pub hand : new.hand ≡ old.hand
  pub feeds : new.feeds ≡ old.feeds
  pub gathered : new.gathered ≡ old.gathered
  pub sink : new.sink ≡ old.sink
  pub none : AllTold old.feeds → (history : List Entry) → Follows old.hand old.feeds history → entry_of old history step ≡ None

abbrev pub AnswersPlay : Bool → Stage → Stage → ScriptStep → Type 0
AnswersPlay true old new step = StepMade old new step
AnswersPlay false old new step = StepSkipped old new step

-- ---- a step that stopped

-- the next turn of the step's stream could not be made
pub record FeedFails (old new : Stage) (step : ScriptStep) (stream : ℕ) (why : FeedWhy) : Type 0 where
  pub is : step ≡ Arrive stream
  pub none : NoneAt old.feeds new.feeds stream old.sink new.sink (record { stream = stream; why = why })

-- the step's entry would bring an element beyond the limit, at this node
pub record GoesOver (old : Stage) (step : ScriptStep) (node : ℕ) (history : List Entry) : Type 0 where
  pub entry : Entry
  pub beyond : goes_beyond old.hand.core.limit (nodes_in old.hand.core) history entry.event ≡ Some node
  pub told : AllTold old.feeds → entry_of old history step ≡ Some entry

abbrev pub StepWhy : RunStop → Stage → Stage → ScriptStep → Type 0
StepWhy (ReadFault stream) old new step = FeedFails old new step stream (Intake IntakeFault)
StepWhy (TooLarge stream) old new step = FeedFails old new step stream (Intake ByteLimit)
StepWhy (Limit node) old new step = (history : List Entry) → Follows old.hand old.feeds history → GoesOver old step node history
StepWhy (Refused line) old new step = ⊥
StepWhy WriteFailed old new step = Rose old.sink.faults new.sink.faults
StepWhy NoMemory old new step = ⊤
StepWhy (RunCut stop) old new step = ⊥
StepWhy (CutRead stream) old new step = ⊥
StepWhy (CutLarge stream) old new step = ⊥
StepWhy (CutRefused line) old new step = ⊥

-- a step of a stream, a take, a give or a sweep stopped: what is not drained stays, and nothing was written
pub record StepStops (stop : RunStop) (old new : Stage) (step : ScriptStep) : Type 0 where
  pub plan : new.hand.core.plan ≡ old.hand.core.plan
  pub undrained : new.hand.core.kept.undrained ≡ old.hand.core.kept.undrained
  pub results : new.gathered.results ≡ old.gathered.results
  pub same : AreSameFeeds old.feeds new.feeds
  pub told : IsTrue new.sink.told → IsTrue old.sink.told
  pub written : IsTrue new.sink.told → new.sink.written ≡ old.sink.written
  pub later : old.sink.faults ≤ new.sink.faults
  pub why : StepWhy stop old new step

-- a drain whose lines could not be written: all was handed out, and as much of its lines was written as the stop leaves
pub record DrainStops (stop : RunStop) (old new : Stage) (step : ScriptStep) : Type 0 where
  pub is : step ≡ Drain
  pub why : WriteStop
  pub of : stop ≡ of_turn (of_write why)
  pub plan : new.hand.core.plan ≡ old.hand.core.plan
  pub drained : new.hand.core.kept.undrained ≡ []
  pub same : new.feeds ≡ old.feeds
  pub form : new.gathered.results.form ≡ old.gathered.results.form
  pub told : IsTrue new.sink.told → IsTrue old.sink.told
  pub leaves : IsTrue new.sink.told → Leaves (write_cut why) (shown old.gathered.results.form old.hand.core.plan.nodes old.hand.core.kept.undrained) old.sink.written new.sink.written
  pub later : old.sink.faults ≤ new.sink.faults
  pub fault : why ≡ Failed → Rose old.sink.faults new.sink.faults

-- a step stopped
abbrev pub StepEnds : RunStop → Stage → Stage → ScriptStep → Type 0
StepEnds stop old new step = StepStops stop old new step ⊎ DrainStops stop old new step

-- what answers a step that did not stop: whether it was made
abbrev pub PlaysStep : Stage → Stage → ScriptStep → Result Bool RunStop → Type 0
PlaysStep old new step result = IfOk result (λ made. AnswersPlay made old new step)

-- what the act of a step that stopped leaves
abbrev pub LeavesStep : Stage → Stage → ScriptStep → Result Bool RunStop → Type 0
LeavesStep old new step result = IfErr result (λ stop. StepStops stop old new step)

-- what a step that stopped leaves
abbrev pub EndsStep : Stage → Stage → ScriptStep → Result Bool RunStop → Type 0
EndsStep old new step result = IfErr result (λ stop. StepEnds stop old new step)
