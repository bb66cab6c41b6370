-- What the one history of a crew comes to.
use Rattle.std.specs.Prelude.{ℕ, ◌<◌, ◌≡◌, true, false, List, [], ◌++◌, length, Some, None, slice_get, IsTrue}
use Rattle.pj_events.specs.declared.events.Entry.{Entry}
use Rattle.pj_events.specs.declared.events.Stop.{Stop}
use Rattle.pj_events.specs.Join.{has}
use Rattle.pj_events.specs.Plan.{ArePlanned}
use Rattle.pj_events.specs.History.{reached_of, streams_of}
use Rattle.pj_events.specs.Outcomes.{drained_of, elements_of, outputs_of}
use Rattle.pj_feed.specs.Feeds.{FeedState, all_accepted}
use Rattle.pj_laws.specs.Seats.{HubPlan, stop_of}
use Rattle.pj_laws.specs.SettlingHistories.{EachTakeIsGiven}
use Rattle.pj_pattern.specs.declared.element.Element.{Element}
use Rattle.pj_workers.specs.Feeds.{all_of, has_ended}
use Rattle.pj_workers.specs.declared.feeding.FeedEnd.{FeedEnd}
use Rattle.pj_workers.specs.declared.feeding.FeedEnd.TheVariants.{Ended, Halted}
use Rattle.pj_crew_laws.specs.Acts.{Act, Fed, IsCrewHistory, is_fault, is_whole, is_writer, stop_told}

-- the seat did this
abbrev pub Did : List Act → ℕ → Act → Type 0
Did acts seat act = slice_get acts seat ≡ Some act

-- this holds of each act
abbrev pub OfEach : List Act → (Act → Type 0) → Type 0
OfEach acts Holds = (seat : ℕ) (act : Act) → Did acts seat act → Holds act

-- every feeder ended its stream, and every other worker was over
abbrev pub AllWhole : List Act → Type 0
AllWhole acts = OfEach acts (λ act. is_whole act ≡ true)

-- each stream of the plan has a feeder on the seat of its number
abbrev pub FeedsAll : HubPlan → List Act → Type 0
FeedsAll hub acts = (stream : ℕ) → stream < length (streams_of hub.nodes) → (old : FeedState) × (new : FeedState) × (end : FeedEnd) × Did acts stream (Fed old new end)

-- no seat but this one writes
abbrev pub WritesAlone : List Act → ℕ → Type 0
WritesAlone acts writer = (seat : ℕ) (act : Act) → Did acts seat act → is_writer act ≡ true → seat ≡ writer

-- for each history of a crew over a plan
abbrev pub OfCrews : (HubPlan → List Act → List Entry → Type 0) → Type 0
OfCrews Holds = (hub : HubPlan) → ArePlanned [] hub.nodes → (acts : List Act) (history : List Entry) → IsCrewHistory hub acts history → Holds hub acts history

-- ---- ends and their causes

-- a feeder is halted only where a worker halted the run
abbrev pub HaltsHaveCause : HubPlan → List Act → List Entry → Type 0
HaltsHaveCause hub acts history =
    (seat : ℕ) (old new : FeedState) → Did acts seat (Fed old new Halted) → (other : ℕ) × (act : Act) × Did acts other act × (is_fault act ≡ true)

-- where a worker was refused with a stop, the run stopped with this
abbrev pub StopsAreTold : HubPlan → List Act → List Entry → Type 0
StopsAreTold hub acts history = (seat : ℕ) (act : Act) (stop : Stop) → Did acts seat act → stop_told act ≡ Some stop → stop_of history ≡ Some stop

-- where none was refused, it did not stop
abbrev pub NoneStops : HubPlan → List Act → List Entry → Type 0
NoneStops hub acts history = OfEach acts (λ act. stop_told act ≡ None) → stop_of history ≡ None

-- ---- what arrived

-- what arrived at a stream of a file that tells its bytes is a front of all that it brings, all of it where its feeder ended, and else
-- a front of its accepted elements
pub record ArrivesOf (hub : HubPlan) (history : List Entry) (stream : ℕ) (new : FeedState) (end : FeedEnd) : Type 0 where
  pub front : (others : List Element) × (all_of hub new ≡ elements_of stream history ++ others)
  pub whole : end ≡ Ended → elements_of stream history ≡ all_of hub new
  pub less : has_ended end ≡ false → (others : List Element) × (all_accepted new ≡ elements_of stream history ++ others)

abbrev pub FeedersBring : HubPlan → List Act → List Entry → Type 0
FeedersBring hub acts history = (stream : ℕ) (old new : FeedState) (end : FeedEnd) → Did acts stream (Fed old new end) → IsTrue old.source.told → ArrivesOf hub history stream new end

-- ---- the end of a crew that nothing stopped

-- every stream is closed, and every ticket that was taken is given
pub record HasEndedAll (hub : HubPlan) (history : List Entry) : Type 0 where
  pub closed : (stream : ℕ) → stream < length (streams_of hub.nodes) → has (reached_of false hub.nodes history).closed stream ≡ true
  pub given : EachTakeIsGiven hub.nodes history

abbrev pub WholeCrewsEnd : HubPlan → List Act → List Entry → Type 0
WholeCrewsEnd hub acts history = FeedsAll hub acts → AllWhole acts → HasEndedAll hub history

-- ---- what was handed out

-- what the writer drained, and behind it what is not drained, is all that was handed out
abbrev pub WriterDrainsAll : HubPlan → List Act → List Entry → Type 0
WriterDrainsAll hub acts history =
    (writer : ℕ) → WritesAlone acts writer
    → (drained_of hub.trace hub.nodes history writer ++ (reached_of hub.trace hub.nodes history).undrained) ≡ outputs_of hub.trace hub.nodes history
