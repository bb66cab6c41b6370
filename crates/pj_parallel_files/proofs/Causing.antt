-- Why a run with workers over files stopped, from why it stopped over their feeds.
use Rattle.std.proofs.Common.{◌≡◌, ◌≤◌, ℕ, List, arith, subst}
use Rattle.pj_io.specs.Folders.{NoneFalls}
use Rattle.pj_io.specs.States.{FolderState, SinkState}
use Rattle.pj_events.specs.declared.events.Stop.{Stop}
use Rattle.pj_events.specs.declared.events.Stop.TheVariants.{Limit as CoreLimit, NoMemory as CoreMemory}
use Rattle.pj_feed.specs.Feeds.{AreSameFeeds, FeedState}
use Rattle.pj_feed.specs.Opened.{AreCounted, IsFaultAt}
use Rattle.pj_feed.specs.declared.stops.OpeningStop.{OpeningStop}
use Rattle.pj_feed.specs.declared.stops.OpeningStop.TheVariants.{Fault, NoMemory as OpeningMemory}
use Rattle.pj_run.specs.Jobs.{Job}
use Rattle.pj_run.specs.RunEnds.{IsFaultOf, IsLargeFile}
use Rattle.pj_run.specs.declared.stops.RunStop.{RunStop}
use Rattle.pj_run.specs.declared.stops.RunStop.TheVariants.{ReadFault, TooLarge, Limit, Refused, WriteFailed, NoMemory, Cut as RunCut, CutRead, CutLarge, CutRefused}
use Rattle.pj_run.specs.declared.stops.FilesStop.TheVariants.{Opening, Run}
use Rattle.pj_run.proofs.Ending.{fault_of_name}
use Rattle.pj_run.proofs.FilesRun.{AreAllOpened, open_cause, run_cause}
use Rattle.pj_crew_runs.specs.Limits.{ComesBeyond}
use Rattle.pj_parallel.specs.Causes.{CoreCause, FileFailed, IsTooLarge, StopCause}
use Rattle.pj_parallel_files.specs.Causes.{CoreStopCause, WorkersCause}
use Rattle.pj_parallel_files.specs.Feeds.{FeedsFail, NameFailed}

-- ---- once the files are closed

name-failed : (olds news : List FeedState) (stream : ℕ) (before after : FolderState) → AreSameFeeds olds news → AreCounted before.faults after.faults news → FileFailed olds news stream → NameFailed olds before after stream
name-failed olds news stream before after same counted failed =
    let rose = failed.rose in
    let some : 1 ≤ failed.new.source.faults = omega (arith, rose) in
    fault_of_name olds news stream before.faults after.faults same counted (failed.new, failed.is, some)

pub closed_cause : (stop : RunStop) (job : Job) (olds news : List FeedState) (before after : FolderState) (sink sink' : SinkState) → AreSameFeeds olds news → AreCounted before.faults after.faults news
    → StopCause stop job olds news sink sink' → FeedsFail stop job olds before after sink sink'
closed_cause (ReadFault stream) job olds news before after sink sink' same counted cause = name-failed olds news stream before after same counted cause
closed_cause (TooLarge stream) job olds news before after sink sink' same counted cause = cause
closed_cause (Limit node) job olds news before after sink sink' same counted cause = cause
closed_cause (Refused line) job olds news before after sink sink' same counted cause = absurd cause
closed_cause WriteFailed job olds news before after sink sink' same counted cause = cause
closed_cause NoMemory job olds news before after sink sink' same counted cause = tt
closed_cause (RunCut stop) job olds news before after sink sink' same counted cause = cause
closed_cause (CutRead stream) job olds news before after sink sink' same counted cause = (cause.0, name-failed olds news stream before after same counted cause.1)
closed_cause (CutLarge stream) job olds news before after sink sink' same counted cause = cause
closed_cause (CutRefused line) job olds news before after sink sink' same counted cause = absurd cause

-- ---- by the names of the files

module _ (job : Job) (names : List (List ℕ)) (old mid after : FolderState) (feeds : List FeedState) (sink sink' : SinkState) (opened : AreAllOpened job names old feeds) (falls : NoneFalls old.faults mid.faults) where
  fault-named : (stream : ℕ) → NameFailed feeds mid after stream → IsFaultOf stream names old after
  fault-named stream failed = run_cause (ReadFault stream) job names old mid after feeds sink sink' opened falls failed

  large-named : (stream : ℕ) → IsTooLarge feeds stream → IsLargeFile stream names old
  large-named stream large = run_cause (TooLarge stream) job names old mid after feeds sink sink' opened falls (large.feed, large.is, large.bytes)

  core-named : (stop : Stop) → CoreCause stop job feeds → CoreStopCause stop job names old
  core-named (CoreLimit node) cause = λ told. subst (λ (fs : List (List ℕ)). ComesBeyond job fs node) (opened.told told).1 (cause (opened.told told).0)
  core-named CoreMemory cause = tt

  pub named_cause : (stop : RunStop) → FeedsFail stop job feeds mid after sink sink' → WorkersCause (Run stop) job names old after sink sink'
  named_cause (ReadFault stream) cause = fault-named stream cause
  named_cause (TooLarge stream) cause = large-named stream cause
  named_cause (Limit node) cause = core-named (CoreLimit node) cause
  named_cause (Refused line) cause = absurd cause
  named_cause WriteFailed cause = cause
  named_cause NoMemory cause = tt
  named_cause (RunCut stop) cause = (cause.0, core-named stop cause.1)
  named_cause (CutRead stream) cause = (cause.0, fault-named stream cause.1)
  named_cause (CutLarge stream) cause = (cause.0, large-named stream cause.1)
  named_cause (CutRefused line) cause = absurd cause

-- of a file that was not opened
pub unopened_cause : (stop : OpeningStop) (job : Job) (names : List (List ℕ)) (old mid after : FolderState) (feeds : List FeedState) (sink sink' : SinkState) → ((stream : ℕ) → stop ≡ Fault stream → IsFaultAt stream names feeds old mid)
    → NoneFalls mid.faults after.faults → WorkersCause (Opening stop) job names old after sink sink'
unopened_cause (Fault stream) job names old mid after feeds sink sink' fault falls = open_cause (Fault stream) job names old mid after feeds sink sink' fault falls
unopened_cause OpeningMemory job names old mid after feeds sink sink' fault falls = tt
