-- What a run with workers over files that were opened leaves, and why it stopped, once they are closed.
use Rattle.std.specs.Prelude.{◌≡◌, ◌⊎◌, ℕ, ⊤, List, Some, IsTrue, slice_get}
use Rattle.pj_events.specs.declared.events.Entry.{Entry}
use Rattle.pj_events.specs.declared.events.Stop.TheVariants.{Limit as CoreLimit}
use Rattle.pj_io.specs.Causes.{Rose}
use Rattle.pj_io.specs.States.{FolderState, SinkState}
use Rattle.pj_feed.specs.Feeds.{AreSameFeeds, FeedState, files_of}
use Rattle.pj_feed.specs.Opened.{HasLasts}
use Rattle.pj_report.specs.declared.stops.WriteStop.{WriteStop}
use Rattle.pj_report.specs.Written.{Leaves, write_cut}
use Rattle.pj_run.specs.Jobs.{Job}
use Rattle.pj_run.specs.Runs.{lines_by}
use Rattle.pj_run.specs.Stops.{of_turn, of_write}
use Rattle.pj_run.specs.declared.stops.RunStop.{RunStop}
use Rattle.pj_run.specs.declared.stops.RunStop.TheVariants.{ReadFault, TooLarge, Limit, Refused, WriteFailed, NoMemory, Cut, CutRead, CutLarge, CutRefused}
use Rattle.pj_whole_laws.specs.Whole.{IsWholeHistory}
use Rattle.pj_parallel.specs.Causes.{CoreCause, IsTooLarge}
use Rattle.pj_parallel.specs.Parallel.{IsStopped}

-- the run was made to its end, and the report was not written: there is a whole history, and where the sink is told this of its lines was
-- written
pub record FailsToReport (job : Job) (files : List (List ℕ)) (stop : RunStop) (sink sink' : SinkState) : Type 0 where
  pub history : List Entry
  pub whole : IsWholeHistory job files history
  pub why : WriteStop
  pub stop_is : stop ≡ of_turn (of_write why)
  pub written : IsTrue sink'.told → Leaves (write_cut why) (lines_by job files history) sink.written sink'.written

-- what the stop of a run over feeds leaves of the sink and the folder: the run stopped, or its report was not written
pub record FeedsLeave (stop : RunStop) (job : Job) (feeds : List FeedState) (before after : FolderState) (sink sink' : SinkState) : Type 0 where
  pub news : List FeedState
  pub same : AreSameFeeds feeds news
  pub lasts : HasLasts news before.last after.last
  pub left : IsStopped job feeds news stop sink sink' ⊎ FailsToReport job (files_of feeds) stop sink sink'

-- there is such a feed, and the faults of its file were added to those of its name
abbrev pub NameFailed : List FeedState → FolderState → FolderState → ℕ → Type 0
NameFailed feeds before after stream =
    (feed : FeedState) × (slice_get feeds stream ≡ Some feed) × Rose (before.faults feed.source.name) (after.faults feed.source.name)

-- why it stopped
abbrev pub FeedsFail : RunStop → Job → List FeedState → FolderState → FolderState → SinkState → SinkState → Type 0
FeedsFail (ReadFault stream) job feeds before after sink sink' = NameFailed feeds before after stream
FeedsFail (TooLarge stream) job feeds before after sink sink' = IsTooLarge feeds stream
FeedsFail (Limit node) job feeds before after sink sink' = CoreCause (CoreLimit node) job feeds
FeedsFail (Refused line) job feeds before after sink sink' = ⊥
FeedsFail WriteFailed job feeds before after sink sink' = Rose sink.faults sink'.faults
FeedsFail NoMemory job feeds before after sink sink' = ⊤
FeedsFail (Cut stop) job feeds before after sink sink' = Rose sink.faults sink'.faults × CoreCause stop job feeds
FeedsFail (CutRead stream) job feeds before after sink sink' = Rose sink.faults sink'.faults × NameFailed feeds before after stream
FeedsFail (CutLarge stream) job feeds before after sink sink' = Rose sink.faults sink'.faults × IsTooLarge feeds stream
FeedsFail (CutRefused line) job feeds before after sink sink' = ⊥
