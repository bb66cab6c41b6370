-- What is left of the streams of a run, in turns.
use Rattle.std.specs.Prelude.{◌≡◌, ℕ, ◌+◌, ◌-◌, ◌<◌, ◌≤◌, ◌^◌, ◌⊎◌, ⊤, Bool, true, false, ◌==◌, List, [], ◌∷◌, ◌++◌, map, take, drop, length, Option, Some, None, if◌then◌else◌, IsTrue, slice_get}
use Rattle.pj_plan.specs.declared.node.PlanNode.{PlanNode}
use Rattle.pj_plan.specs.Nodes.{stream_columns}
use Rattle.pj_shape.specs.declared.columns.Column.{Column}
use Rattle.pj_io.specs.Causes.{Rose}
use Rattle.pj_io.specs.States.{SourceState}
use Rattle.pj_pattern.specs.declared.element.Element.{Element}
use Rattle.pj_pattern.specs.declared.element.Element.TheVariants.{Punct}
use Rattle.pj_element.specs.declared.tally.Tally.{Tally}
use Rattle.pj_element.specs.Accepted.{taken_of, fates_of, tally_of}
use Rattle.pj_intake.specs.declared.intake.IntakeStop.{IntakeStop}
use Rattle.pj_intake.specs.declared.intake.IntakeStop.TheVariants.{ReadFault, ByteLimit, NoMemory}
use Rattle.pj_intake.specs.Taking.{IntakeState, Taking, IsOpen}
use Rattle.pj_pattern.specs.Columns.{all_wild}
use Rattle.pj_pattern.specs.Fitting.{FitsDomains}
use Rattle.pj_shape.specs.Columns.{domains_of}
use Rattle.pj_events.specs.OneThread.{Turn, heads, tails, in_rounds}
use Rattle.pj_feed.specs.declared.feeds.Arrival.{Arrival}
use Rattle.pj_feed.specs.declared.feeds.Arrival.TheVariants.{Brought, Closing}

-- A stream that is fed: its number, whether its closing is still to come, what its source tells of itself, and its intake
pub record FeedState : Type 0 where
  pub stream : ℕ
  pub is_open : Bool
  pub source : SourceState
  pub intake : IntakeState

-- all bytes of the stream's file
abbrev pub bytes_of : FeedState → List ℕ
bytes_of feed = feed.source.taken ++ feed.source.left

-- all elements that are accepted of the file
abbrev pub all_accepted : FeedState → List Element
all_accepted feed = taken_of (fates_of feed.intake.columns (bytes_of feed))

-- how many of them were accepted so far
abbrev pub count_of : FeedState → ℕ
count_of feed = feed.intake.seen.tally.tuples + feed.intake.seen.tally.puncts

-- What was judged of the file; once the closing had its turn, that is all of it
pub record IsFed (feed : FeedState) : Type 0 where
  pub judged : List ℕ
  pub goes_on : feed.intake.stopped ≡ None
  pub follows : IsOpen feed.intake judged
  pub limit : feed.intake.buffer.limit ≡ 2 ^ 40
  pub bytes : IsTrue feed.source.told → feed.source.taken ≡ judged ++ feed.intake.buffer.held
  pub at_end : feed.intake.buffer.ended ≡ true → IsTrue feed.source.told → feed.source.left ≡ []
  pub closed : feed.is_open ≡ false → (feed.intake.buffer.ended ≡ true) × (feed.intake.buffer.held ≡ [])

-- how many bytes may still be judged, and the closing
abbrev pub work_of : FeedState → ℕ
work_of feed = (feed.intake.buffer.limit - (feed.intake.buffer.count - length feed.intake.buffer.held)) + (if feed.is_open then 1 else 0)

-- a turn, or a closing, may change a feed so far: its bytes are those of before
pub record IsSameFeed (old new : FeedState) : Type 0 where
  pub stream : new.stream ≡ old.stream
  pub columns : new.intake.columns ≡ old.intake.columns
  pub told : new.source.told ≡ old.source.told
  pub name : new.source.name ≡ old.source.name
  pub faults : old.source.faults ≤ new.source.faults
  pub bytes : IsTrue old.source.told → bytes_of new ≡ bytes_of old

-- what this is for an intake, where this is what its source tells
abbrev pub feed_of : {S : Type 0} → (S → SourceState) → ℕ → Bool → Taking S → FeedState
feed_of state stream is_open taking = record {
  stream = stream;
  is_open = is_open;
  source = state taking.source;
  intake = taking.state;
}

-- ---- turns

-- the turn that this is, where these are the streams
abbrev pub turn_in : List PlanNode → Arrival → Turn
turn_in streams (Brought stream element) = record { stream = stream; element = element; closing = 0 }
turn_in streams (Closing stream) = record { stream = stream; element = Punct (all_wild (length (stream_columns streams stream))); closing = 1 }

abbrev pub turn_of : List PlanNode → Option Arrival → Option Turn
turn_of streams None = None
turn_of streams (Some next) = Some (turn_in streams next)

-- the turns of these elements of a stream, in order
abbrev pub brought : List PlanNode → ℕ → List Element → List Turn
brought streams stream es = map (λ e. turn_in streams (Brought stream e)) es

-- its closing, where that is still to come
abbrev pub closes : List PlanNode → ℕ → Bool → List Turn
closes streams stream still = if still then (turn_in streams (Closing stream) ∷ []) else []

-- what is left of a stream: the elements that are accepted behind those that were, and its closing
abbrev pub feed_left : List PlanNode → FeedState → List Turn
feed_left streams feed = brought streams feed.stream (drop (count_of feed) (all_accepted feed)) ++ closes streams feed.stream feed.is_open

-- what is left of these lists in rounds, where the first ones had their turn of this round
abbrev pub round_left : List (List Turn) → List (List Turn) → List Turn
round_left had others = heads others ++ in_rounds (had ++ tails others)

-- what is left of streams, where those before this place had their turn of this round
abbrev pub feeds_left : List PlanNode → List FeedState → ℕ → List Turn
feeds_left streams feeds at = round_left (map (feed_left streams) (take at feeds)) (map (feed_left streams) (drop at feeds))

-- the first of what was left, or that nothing was
abbrev pub Gives : List Turn → List Turn → Option Turn → Type 0
Gives old new None = old ≡ []
Gives old new (Some turn) = old ≡ turn ∷ new

-- ---- the bytes up to the last line feed

abbrev pub onto_fed : ℕ → List ℕ → List ℕ
onto_fed b [] = if b == 10 then b ∷ [] else []
onto_fed b (c ∷ cs) = b ∷ c ∷ cs

-- the lines that end with a line feed
abbrev pub fed_part : List ℕ → List ℕ
fed_part [] = []
fed_part (b ∷ bs) = onto_fed b (fed_part bs)

-- the elements that are accepted of the lines that end with a line feed in these bytes
abbrev pub fed_elements : List Column → List ℕ → List Element
fed_elements columns bytes = taken_of (fates_of columns (fed_part bytes))

-- ---- one stream

-- what a turn brings is of this stream and fits its columns
abbrev pub BringsOf : FeedState → Arrival → Type 0
BringsOf feed (Brought stream element) = (stream ≡ feed.stream) × FitsDomains (domains_of feed.intake.columns) element
BringsOf feed (Closing stream) = stream ≡ feed.stream

-- whatever streams these are: the turn was the first of what was left of this one
abbrev pub GivesTurn : FeedState → FeedState → Arrival → Type 0
GivesTurn old new next = IsTrue old.source.told → (streams : List PlanNode) → feed_left streams old ≡ turn_in streams next ∷ feed_left streams new

-- these are the elements that were accepted so far
pub record HasAccepted (feed : FeedState) (es : List Element) : Type 0 where
  pub fed : IsFed feed
  pub are : es ≡ taken_of (fates_of feed.intake.columns fed.judged)

-- the element that a turn brings, if it is no closing
abbrev pub brought_in : Arrival → List Element
brought_in (Brought stream element) = element ∷ []
brought_in (Closing stream) = []

-- whether the closing is still to come behind a turn
abbrev pub is_still : Arrival → Bool
is_still (Brought stream element) = true
is_still (Closing stream) = false

-- whatever its source tells: behind what was accepted so far is what the turn brings
pub record ComesBehind (old new : FeedState) (next : Arrival) : Type 0 where
  pub accepted : (es : List Element) → HasAccepted old es → HasAccepted new (es ++ brought_in next)
  pub still : new.is_open ≡ is_still next

-- nothing more was accepted
pub record AcceptsNone (old new : FeedState) : Type 0 where
  pub accepted : (es : List Element) → HasAccepted old es → HasAccepted new es
  pub still : new.is_open ≡ old.is_open

-- lines were judged that accept nothing, so that all that was left of the stream still is
pub record HasPassed (old new : FeedState) : Type 0 where
  pub fed : IsFed new
  pub same : IsSameFeed old new
  pub still : new.is_open ≡ old.is_open
  pub count : count_of new ≡ count_of old
  pub works : work_of new ≤ work_of old

-- why a stream's turn was not made: a read failed, or so many bytes were taken, the first of the file; and of the file exactly the
-- elements were accepted that the lines hold which end with a line feed in the bytes taken
abbrev pub FeedStops : FeedState → FeedState → IntakeStop → Type 0
FeedStops old new ReadFault = Rose old.source.faults new.source.faults × (IsTrue old.source.told → fed_elements new.intake.columns new.source.taken ≡ take (count_of old) (all_accepted old))
FeedStops old new ByteLimit = IsTrue old.source.told → (2 ^ 40 ≤ length (bytes_of old)) × (fed_elements new.intake.columns (take (2 ^ 40) (bytes_of old)) ≡ take (count_of old) (all_accepted old))
FeedStops old new NoMemory = ⊤

-- ---- all streams

-- there is a feed for each stream, from this number on
abbrev pub AreFeeds : ℕ → List PlanNode → List FeedState → Type 0
AreFeeds k [] [] = ⊤
AreFeeds k [] (feed ∷ feeds) = ⊥
AreFeeds k (stream ∷ streams) [] = ⊥
AreFeeds k (stream ∷ streams) (feed ∷ feeds) = (feed.stream ≡ k) × (feed.intake.columns ≡ stream.schema) × IsFed feed × AreFeeds (k + 1) streams feeds

-- whatever streams these feeds are of: the turn was the first of what was left of them in rounds, or nothing was left
abbrev pub GivesInRounds : List FeedState → ℕ → List FeedState → ℕ → Option Arrival → Type 0
GivesInRounds olds old_at news new_at next =
    (streams : List PlanNode) → AreFeeds 0 streams olds → Gives (feeds_left streams olds old_at) (feeds_left streams news new_at) (turn_of streams next)

-- nothing was taken yet
abbrev pub AreNew : List FeedState → Type 0
AreNew [] = ⊤
AreNew (feed ∷ feeds) = (feed.is_open ≡ true) × (count_of feed ≡ 0) × AreNew feeds

abbrev pub AreSameFeeds : List FeedState → List FeedState → Type 0
AreSameFeeds [] [] = ⊤
AreSameFeeds [] (new ∷ news) = ⊥
AreSameFeeds (old ∷ olds) [] = ⊥
AreSameFeeds (old ∷ olds) (new ∷ news) = IsSameFeed old new × AreSameFeeds olds news

abbrev pub work_in : List FeedState → ℕ
work_in [] = 0
work_in (feed ∷ feeds) = work_of feed + work_in feeds

-- all of them tell their bytes
abbrev pub AllTold : List FeedState → Type 0
AllTold [] = ⊤
AllTold (feed ∷ feeds) = IsTrue feed.source.told × AllTold feeds

-- the files of the streams
abbrev pub files_of : List FeedState → List (List ℕ)
files_of feeds = map bytes_of feeds

-- the counts of the streams so far
abbrev pub tallies_in : List FeedState → List Tally
tallies_in feeds = map (λ feed. feed.intake.seen.tally) feeds

-- all bytes of each stream's file were taken
abbrev pub AreAllTaken : List FeedState → Type 0
AreAllTaken [] = ⊤
AreAllTaken (feed ∷ feeds) = (IsTrue feed.source.told → feed.source.left ≡ []) × AreAllTaken feeds

-- the counts of each stream
abbrev pub tallies_of : List PlanNode → List (List ℕ) → List Tally
tallies_of [] files = []
tallies_of (stream ∷ streams) [] = []
tallies_of (stream ∷ streams) (bytes ∷ files) = tally_of (fates_of stream.schema bytes) ∷ tallies_of streams files

abbrev pub AllClosed : List FeedState → Type 0
AllClosed [] = ⊤
AllClosed (feed ∷ feeds) = (feed.is_open ≡ false) × AllClosed feeds

-- the first stream from this place on whose closing is still to come, or that there is none
abbrev pub IsFirstOpen : List FeedState → ℕ → Option ℕ → Type 0
IsFirstOpen feeds from None = AllClosed (drop from feeds)
IsFirstOpen feeds from (Some place) =
    (feed : FeedState) × (from ≤ place) × (slice_get feeds place ≡ Some feed) × (feed.is_open ≡ true) × AllClosed (take (place - from) (drop from feeds))

-- the stream that has the next turn: the first open one from this place on, else the first of all
abbrev pub HasTurn : List FeedState → ℕ → Option ℕ → Type 0
HasTurn feeds at None = AllClosed feeds
HasTurn feeds at (Some place) = IsFirstOpen feeds at (Some place) ⊎ (IsFirstOpen feeds at None × IsFirstOpen feeds 0 (Some place))

-- what a turn brings is of one of these streams and fits its columns
abbrev pub BringsIn : List FeedState → Option Arrival → Type 0
BringsIn feeds None = AllClosed feeds
BringsIn feeds (Some next) = (place : ℕ) × (feed : FeedState) × (slice_get feeds place ≡ Some feed) × BringsOf feed next

-- a turn that was made leaves less to do
abbrev pub WorksOn : List FeedState → List FeedState → Option Arrival → Type 0
WorksOn olds news None = ⊤
WorksOn olds news (Some next) = work_in news < work_in olds

-- the accepted elements of these streams, without their closings
abbrev pub accepted_of : List PlanNode → List (List ℕ) → List (List Element)
accepted_of [] files = []
accepted_of (stream ∷ streams) [] = [] ∷ accepted_of streams []
accepted_of (stream ∷ streams) (bytes ∷ files) = taken_of (fates_of stream.schema bytes) ∷ accepted_of streams files
