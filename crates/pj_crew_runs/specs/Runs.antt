-- Crews that run a job over its files.
use Rattle.std.specs.Prelude.{ℕ, ◌<◌, ◌≤◌, ◌^◌, ◌≡◌, false, true, None, take, List, [], ◌++◌, length, Some, slice_get}
use Rattle.pj_events.specs.declared.events.Entry.{Entry}
use Rattle.pj_events.specs.declared.events.Out.{Out}
use Rattle.pj_events.specs.History.{IsLegal, streams_of}
use Rattle.pj_events.specs.Limits.{StaysWithin}
use Rattle.pj_events.specs.Outcomes.{drained_of, elements_of}
use Rattle.pj_events.specs.declared.events.Stop.TheVariants.{Limit}
use Rattle.pj_core.specs.Cores.{CoreState, StandsFor}
use Rattle.pj_core.specs.Turns.{Finishes, finishing}
use Rattle.pj_feed.specs.Feeds.{AllTold, AreFeeds, FeedState, accepted_of, bytes_of, fed_elements, files_of}
use Rattle.pj_laws.specs.HistoryLaws.{AllAreCertified}
use Rattle.pj_laws.specs.Seats.{HubPlan, IsDue}
use Rattle.pj_plan.specs.Nodes.{streams_in}
use Rattle.pj_plan.specs.Sound.{IsSoundPlan}
use Rattle.pj_run.specs.Jobs.{Job}
use Rattle.pj_run.specs.Runs.{outs_by, plan_run, run_nodes}
use Rattle.pj_script_laws.specs.Laws.{BringsFront}
use Rattle.pj_whole_laws.specs.Whole.{IsWholeHistory}
use Rattle.pj_workers.specs.declared.feeding.FeedEnd.{FeedEnd}
use Rattle.pj_workers.specs.declared.feeding.FeedEnd.TheVariants.{ByteLimit, ReadFault}
use Rattle.pj_crew_laws.specs.Acts.{Act, Fed, IsCrewHistory, is_fault, stop_told}
use Rattle.pj_crew_laws.specs.Crews.{AllWhole, Did, OfEach, WritesAlone}

-- ---- a crew that runs a job

-- what the hub of a job is made with
abbrev pub hub_of : Job → HubPlan
hub_of job = record { nodes = run_nodes job; limit = job.limit; trace = job.trace }

-- the seat of a stream fed it from the feed's first state on
pub record FedFrom (acts : List Act) (stream : ℕ) (old : FeedState) : Type 0 where
  pub new : FeedState
  pub end : FeedEnd
  pub did : Did acts stream (Fed old new end)

-- The one history of a crew that ran the job over these feeds, whose files tell their bytes: each of them was fed on the seat of its
-- stream's number
pub record IsCrewRun (job : Job) (feeds : List FeedState) (acts : List Act) (history : List Entry) : Type 0 where
  pub crew : IsCrewHistory (hub_of job) acts history
  pub of_streams : AreFeeds 0 (streams_in job.nodes) feeds
  pub told : AllTold feeds
  pub fed : (stream : ℕ) (feed : FeedState) → slice_get feeds stream ≡ Some feed → FedFrom acts stream feed

-- for each crew that ran a job over a sound plan each of whose joins has certificates
abbrev pub OfCrewRuns : (Job → List FeedState → List Act → List Entry → Type 0) → Type 0
OfCrewRuns Holds =
    (job : Job) → IsSoundPlan job.nodes → AllAreCertified (run_nodes job) → (feeds : List FeedState) (acts : List Act) (history : List Entry)
    → IsCrewRun job feeds acts history → Holds job feeds acts history

-- ---- however it ended

-- The history is legal and within the limit of the job, and of each stream a front of what is accepted of its file, and of its closing,
-- arrived
pub record IsFrontHistory (job : Job) (files : List (List ℕ)) (history : List Entry) : Type 0 where
  pub legal : IsLegal (run_nodes job) history
  pub within : StaysWithin job.limit (run_nodes job) [] history
  pub arrived : (stream : ℕ) → stream < length (streams_of (run_nodes job)) → BringsFront (run_nodes job) (accepted_of (streams_in job.nodes) files) history stream

abbrev pub BringsFronts : Job → List FeedState → List Act → List Entry → Type 0
BringsFronts job feeds acts history = IsFrontHistory job (files_of feeds) history

-- ---- where it ended and was settled

-- a core of the job that stood for the history and was settled then
pub record IsSettled (job : Job) (history : List Entry) (old new : CoreState) (outs : List Out) : Type 0 where
  pub plan : old.plan ≡ plan_run job
  pub limit : old.limit ≡ job.limit
  pub stood : StandsFor old history
  pub finishes : Finishes true old new outs

-- the history is whole with the entries that settled it
abbrev pub SettlesWhole : Job → List FeedState → List Act → List Entry → Type 0
SettlesWhole job feeds acts history =
    AllWhole acts → (old new : CoreState) (outs : List Out) → IsSettled job history old new outs → IsWholeHistory job (files_of feeds) (history ++ finishing true old history)

-- what the one writer drained, and behind it what was handed out as the core was settled, is all that the history hands out
abbrev pub HandsOutAll : Job → List FeedState → List Act → List Entry → Type 0
HandsOutAll job feeds acts history =
    (writer : ℕ) → WritesAlone acts writer → (old new : CoreState) (outs : List Out) → IsSettled job history old new outs
    → (drained_of job.trace (run_nodes job) history writer ++ outs) ≡ outs_by job (history ++ finishing true old history)

-- ---- what its workers tell

-- where the read of a file failed, exactly the elements arrived that are accepted of the lines which end with a line feed in the bytes
-- taken
abbrev pub ReadsTell : Job → List FeedState → List Act → List Entry → Type 0
ReadsTell job feeds acts history =
    (stream : ℕ) (old new : FeedState) → slice_get feeds stream ≡ Some old → Did acts stream (Fed old new ReadFault) → elements_of stream history ≡ fed_elements new.intake.columns new.source.taken

-- the file has so many bytes, and exactly the elements arrived that are accepted of the lines which end with a line feed in the first so
-- many
pub record ArrivesOfLarge (stream : ℕ) (feed : FeedState) (history : List Entry) : Type 0 where
  pub bytes : 2 ^ 40 ≤ length (bytes_of feed)
  pub arrived : elements_of stream history ≡ fed_elements feed.intake.columns (take (2 ^ 40) (bytes_of feed))

abbrev pub LargeFilesTell : Job → List FeedState → List Act → List Entry → Type 0
LargeFilesTell job feeds acts history =
    (stream : ℕ) (old new : FeedState) → slice_get feeds stream ≡ Some old → Did acts stream (Fed old new ByteLimit) → ArrivesOfLarge stream new history

-- behind a front of the history an event was allowed that brings the first element beyond the limit of this node
pub record MeetsLimit (job : Job) (history : List Entry) (node : ℕ) : Type 0 where
  pub front : List Entry
  pub back : List Entry
  pub parts : history ≡ front ++ back
  pub due : IsDue job.limit (run_nodes job) front node

-- a worker tells the limit of a node only where the history met it
abbrev pub LimitsTell : Job → List FeedState → List Act → List Entry → Type 0
LimitsTell job feeds acts history = (seat node : ℕ) (act : Act) → Did acts seat act → stop_told act ≡ Some (Limit node) → MeetsLimit job history node

-- where no worker halted the run or was refused with a stop, every feeder ended its stream, and every other worker was over
abbrev pub QuietAreWhole : Job → List FeedState → List Act → List Entry → Type 0
QuietAreWhole job feeds acts history = OfEach acts (λ act. (is_fault act ≡ false) × (stop_told act ≡ None)) → AllWhole acts
