-- Why a run with workers stopped.
use Rattle.std.specs.Prelude.{ℕ, ◌≡◌, ◌≤◌, ◌^◌, List, length, Some, IsTrue, slice_get}
use Rattle.pj_io.specs.Causes.{Rose}
use Rattle.pj_io.specs.States.{SinkState}
use Rattle.pj_events.specs.declared.events.Stop.{Stop}
use Rattle.pj_events.specs.declared.events.Stop.TheVariants.{Limit as CoreLimit, NoMemory as CoreMemory}
use Rattle.pj_feed.specs.Feeds.{AllTold, FeedState, bytes_of, files_of}
use Rattle.pj_run.specs.Jobs.{Job}
use Rattle.pj_run.specs.declared.stops.RunStop.{RunStop}
use Rattle.pj_run.specs.declared.stops.RunStop.TheVariants.{ReadFault, TooLarge, Limit, Refused, WriteFailed, NoMemory, Cut, CutRead, CutLarge, CutRefused}
use Rattle.pj_crew_runs.specs.Limits.{ComesBeyond}

-- a read of the file of this stream failed: its faults rose
pub record FileFailed (olds news : List FeedState) (stream : ℕ) : Type 0 where
  pub old : FeedState
  pub new : FeedState
  pub was : slice_get olds stream ≡ Some old
  pub is : slice_get news stream ≡ Some new
  pub rose : Rose old.source.faults new.source.faults

-- where this stream's file tells its bytes, they are too many
pub record IsTooLarge (feeds : List FeedState) (stream : ℕ) : Type 0 where
  pub feed : FeedState
  pub is : slice_get feeds stream ≡ Some feed
  pub bytes : IsTrue feed.source.told → 2 ^ 40 ≤ length (bytes_of feed)

-- why a core stopped whose last lines could not be written
abbrev pub CoreCause : Stop → Job → List FeedState → Type 0
CoreCause (CoreLimit node) job feeds = AllTold feeds → ComesBeyond job (files_of feeds) node
CoreCause CoreMemory job feeds = Unit {0}

-- why a run stopped: the faults of a file rose, a file has too many bytes, more elements come to a node in all than may, or the output's
-- faults rose, behind such a stop or without one; memory may be wanting at any time
abbrev pub StopCause : RunStop → Job → List FeedState → List FeedState → SinkState → SinkState → Type 0
StopCause (ReadFault stream) job olds news sink sink' = FileFailed olds news stream
StopCause (TooLarge stream) job olds news sink sink' = IsTooLarge olds stream
StopCause (Limit node) job olds news sink sink' = AllTold olds → ComesBeyond job (files_of olds) node
StopCause (Refused line) job olds news sink sink' = ⊥
StopCause WriteFailed job olds news sink sink' = Rose sink.faults sink'.faults
StopCause NoMemory job olds news sink sink' = Unit {0}
StopCause (Cut stop) job olds news sink sink' = Rose sink.faults sink'.faults × CoreCause stop job olds
StopCause (CutRead stream) job olds news sink sink' = Rose sink.faults sink'.faults × FileFailed olds news stream
StopCause (CutLarge stream) job olds news sink sink' = Rose sink.faults sink'.faults × IsTooLarge olds stream
StopCause (CutRefused line) job olds news sink sink' = ⊥

-- what such a stop tells of the output alone: where it is one of a failed write the faults rose
abbrev pub OutputCause : RunStop → SinkState → SinkState → Type 0
OutputCause (ReadFault stream) sink sink' = Unit {0}
OutputCause (TooLarge stream) sink sink' = Unit {0}
OutputCause (Limit node) sink sink' = Unit {0}
OutputCause (Refused line) sink sink' = Unit {0}
OutputCause WriteFailed sink sink' = Rose sink.faults sink'.faults
OutputCause NoMemory sink sink' = Unit {0}
OutputCause (Cut stop) sink sink' = Rose sink.faults sink'.faults
OutputCause (CutRead stream) sink sink' = Rose sink.faults sink'.faults
OutputCause (CutLarge stream) sink sink' = Rose sink.faults sink'.faults
OutputCause (CutRefused line) sink sink' = Rose sink.faults sink'.faults
