-- What a feeder brings of its stream, and how it ends.
use Rattle.std.specs.Prelude.{ℕ, ◌≡◌, ◌≤◌, ◌^◌, ⊤, Bool, true, false, if◌then◌else◌, List, [], ◌∷◌, ◌++◌, length, take, Option, Some, None, IsTrue}
use Rattle.pj_value.specs.declared.values.Value.{Value}
use Rattle.pj_io.specs.Causes.{Rose}
use Rattle.pj_pattern.specs.declared.element.Element.{Element}
use Rattle.pj_pattern.specs.Elements.{rows_of}
use Rattle.pj_events.specs.declared.events.Entry.{Entry}
use Rattle.pj_events.specs.declared.events.Event.TheVariants.{Arrive}
use Rattle.pj_events.specs.declared.events.Look.{Look}
use Rattle.pj_events.specs.declared.events.Stop.{Stop}
use Rattle.pj_events.specs.Outcomes.{element_at, elements_of}
use Rattle.pj_intake.specs.declared.intake.IntakeStop.{IntakeStop}
use Rattle.pj_intake.specs.declared.intake.IntakeStop.TheVariants.{ReadFault as ReadFailed, ByteLimit as TooLong, NoMemory as LineMemory}
use Rattle.pj_feed.specs.Feeds.{FeedState, HasAccepted, IsFed, all_accepted, bytes_of, count_of, fed_elements}
use Rattle.pj_laws.specs.HistoryLaws.{schema_at}
use Rattle.pj_laws.specs.Seats.{HubPlan, is_closed, made_by, seated}
use Rattle.pj_seats.specs.Answers.{closing_of}
use Rattle.pj_workers.specs.Ends.{Ending, Ends, IsHalt, IsOver, IsRefused, Made, ends_feeding}
use Rattle.pj_workers.specs.Rounds.{FollowsFeeding, IsArrival, IsRound}
use Rattle.pj_workers.specs.declared.ends.Broken.{Broken}
use Rattle.pj_workers.specs.declared.ends.Broken.TheVariants.{NoMemory as BrokenMemory, Stopped as BrokenStop}
use Rattle.pj_workers.specs.declared.feeding.FeedEnd.{FeedEnd}
use Rattle.pj_workers.specs.declared.feeding.FeedEnd.TheVariants.{Ended, Halted, ReadFault, ByteLimit, NoMemory, Stopped}

-- ---- where a feed stands

-- The feed is of the seat's stream, whose closing is still to come, and what the seat made arrive is what was accepted of it so far
pub record IsFeeding (hub : HubPlan) (seat : ℕ) (own : List Entry) (feed : FeedState) : Type 0 where
  pub number : feed.stream ≡ seat
  pub columns : feed.intake.columns ≡ schema_at hub.nodes seat
  pub still : feed.is_open ≡ true
  pub accepted : HasAccepted feed (elements_of seat own)
  pub unclosed : is_closed seat own ≡ false

-- so does a feed of the stream of which nothing was accepted, where the seat has made nothing
abbrev pub FreshFeedsStand : Type 0
FreshFeedsStand = (hub : HubPlan) (seat : ℕ) (feed : FeedState)
    → feed.stream ≡ seat → feed.intake.columns ≡ schema_at hub.nodes seat → feed.is_open ≡ true → IsFed feed → count_of feed ≡ 0 → IsFeeding hub seat [] feed

-- the closing, once it had its turn
abbrev pub closing_given : HubPlan → ℕ → Bool → List Element
closing_given hub stream still = if still then [] else closing_of hub stream ∷ []

-- these are what was accepted of the feed so far, and behind it its closing, once that had its turn
pub record HasGiven (hub : HubPlan) (feed : FeedState) (es : List Element) : Type 0 where
  pub accepted : List Element
  pub has : HasAccepted feed accepted
  pub are : es ≡ accepted ++ closing_given hub feed.stream feed.is_open

-- ---- how a feeder ends

-- the last entry is the closing, which ends a whole part
pub record IsClosed (hub : HubPlan) (seat : ℕ) (part : List Entry → Type 0) (ending : Ending) : Type 0 where
  pub whole : part (ending.front ++ ending.last ∷ [])
  pub is_last : ending.last ≡ seated seat (Arrive seat (closing_of hub seat)) 1

-- a call was refused; where it is an arrival, its element, or the closing, is the last that the feed gave
pub record IsRefusedFeed (hub : HubPlan) (seat : ℕ) (part : List Entry → Type 0) (feed : FeedState) (stop : Stop) (ending : Ending) : Type 0 where
  pub call : IsRefused hub seat part stop ending
  pub given : HasGiven hub feed (elements_of seat (made_by seat (ending.history ++ ending.last ∷ [])) ++ element_at seat call.event)

-- how a feeder ends whose rounds are these, where its look shows this, and its feed stands here
abbrev pub IsFeedEnd : HubPlan → ℕ → (List Entry → Type 0) → (Look → Bool) → FeedState → FeedEnd → Ending → Type 0
IsFeedEnd hub seat part over feed Ended ending = IsClosed hub seat part ending
IsFeedEnd hub seat part over feed Halted ending = IsOver hub seat over ending
IsFeedEnd hub seat part over feed ReadFault ending = IsHalt seat part ending
IsFeedEnd hub seat part over feed ByteLimit ending = IsHalt seat part ending
IsFeedEnd hub seat part over feed NoMemory ending = IsHalt seat part ending
IsFeedEnd hub seat part over feed (Stopped stop) ending = IsRefusedFeed hub seat part feed stop ending

-- what a call of a feeder made, whose feed stands here now, and how it ended
abbrev pub Feeds : HubPlan → ℕ → FeedState → List Entry → List Entry → FeedEnd → Type 0
Feeds hub seat feed before after end =
    Made seat (IsRound FollowsFeeding seat) (IsFeedEnd hub seat (IsRound FollowsFeeding seat) ends_feeding feed end) before after

-- how it ends where its round broke off, or its feed stopped
abbrev pub feed_end : Broken → FeedEnd
feed_end BrokenMemory = NoMemory
feed_end (BrokenStop stop) = Stopped stop

abbrev pub fault_end : IntakeStop → FeedEnd
fault_end ReadFailed = ReadFault
fault_end TooLong = ByteLimit
fault_end LineMemory = NoMemory

abbrev pub has_ended : FeedEnd → Bool
has_ended Ended = true
has_ended Halted = false
has_ended ReadFault = false
has_ended ByteLimit = false
has_ended NoMemory = false
has_ended (Stopped stop) = false

-- said where it ended
abbrev pub OnEnded : FeedEnd → Type 0 → Type 0
OnEnded end told = has_ended end ≡ true → told

-- ---- what arrived

-- Where a feed stopped, of which these were accepted: its faults rose, and they are the elements of the lines that end with a
-- line feed in the bytes taken; or the file has so many bytes, and they are those of the first so many
abbrev pub FaultAt : FeedState → FeedState → IntakeStop → List Element → Type 0
FaultAt old new ReadFailed es =
    Rose old.source.faults new.source.faults × (IsTrue old.source.told → fed_elements new.intake.columns new.source.taken ≡ es)
FaultAt old new TooLong es =
    IsTrue old.source.told → (2 ^ 40 ≤ length (bytes_of new)) × (fed_elements new.intake.columns (take (2 ^ 40) (bytes_of new)) ≡ es)
FaultAt old new LineMemory es = ⊤

-- these are what arrived, by how the feeder ended
abbrev pub IsGiven : HubPlan → FeedEnd → FeedState → FeedState → List Element → Type 0
IsGiven hub Ended old new es = HasGiven hub new es × (new.is_open ≡ false)
IsGiven hub Halted old new es = HasGiven hub new es × (new.is_open ≡ true)
IsGiven hub ReadFault old new es = FaultAt old new ReadFailed es
IsGiven hub ByteLimit old new es = FaultAt old new TooLong es
IsGiven hub NoMemory old new es = ⊤
IsGiven hub (Stopped stop) old new es = ⊤

-- all that the file brings: the elements that are accepted of it, and its closing
abbrev pub all_of : HubPlan → FeedState → List Element
all_of hub feed = all_accepted feed ++ closing_of hub feed.stream ∷ []

-- What a seat has made arrive that fed from one state of a feed to another, however it ended. Where the file tells its bytes it is
-- a front of all that the file brings, all of it where the feeder ended, and else a front of the accepted elements; the stream is
-- closed exactly where it ended
pub record HasFed (hub : HubPlan) (seat : ℕ) (own : List Entry) (old new : FeedState) (end : FeedEnd) : Type 0 where
  pub given : IsGiven hub end old new (elements_of seat own)
  pub front : IsTrue old.source.told → (others : List Element) × (all_of hub new ≡ elements_of seat own ++ others)
  pub whole : OnEnded end (IsTrue old.source.told → elements_of seat own ≡ all_of hub new)
  pub less : has_ended end ≡ false → IsTrue old.source.told → (others : List Element) × (all_accepted new ≡ elements_of seat own ++ others)
  pub closed : is_closed seat own ≡ has_ended end

-- ---- kept rows

-- rows that are kept, where they are asked for, with these behind them
abbrev pub with_rows : Option (List (List Value)) → List (List Value) → Option (List (List Value))
with_rows None rows = None
with_rows (Some kept) rows = Some (kept ++ rows)

-- ---- one arrival

-- the seat has made one element arrive, its feed stands behind it, and the element's row is kept, if it is one
pub record Brings (hub : HubPlan) (seat : ℕ) (before after : List Entry) (feed : FeedState) (old new : Option (List (List Value))) : Type 0 where
  pub element : Element
  pub adds : made_by seat after ≡ made_by seat before ++ seated seat (Arrive seat element) 0 ∷ []
  pub feeding : IsFeeding hub seat (made_by seat after) feed
  pub keeps : new ≡ with_rows old (rows_of (element ∷ []))

-- the closing, where the feeder ended
abbrev pub closing_at : HubPlan → ℕ → FeedEnd → List Element
closing_at hub seat end = if has_ended end then (closing_of hub seat ∷ []) else []

-- no element arrived, and the feeder ended so
pub record BringsNone (hub : HubPlan) (seat : ℕ) (before after : List Entry) (old new : FeedState) (end : FeedEnd) : Type 0 where
  pub ended : Ends seat (IsFeedEnd hub seat (IsArrival seat) (λ look. false) new end) (made_by seat before) after
  pub given : IsGiven hub end old new (elements_of seat (made_by seat after))
  pub arrived : elements_of seat (made_by seat after) ≡ elements_of seat (made_by seat before) ++ closing_at hub seat end
  pub closed : is_closed seat (made_by seat after) ≡ has_ended end
