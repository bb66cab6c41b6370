-- What a run with workers leaves.
use Rattle.std.specs.Prelude.{◌≡◌, ◌⊎◌, true, ℕ, List, ◌++◌, Some, slice_get, IsTrue}
use Rattle.pj_io.specs.States.{SinkState}
use Rattle.pj_events.specs.declared.events.Entry.{Entry}
use Rattle.pj_events.specs.declared.events.Stop.{Stop}
use Rattle.pj_events.specs.declared.events.Stop.TheVariants.{Limit as CoreLimit, NoMemory as CoreMemory}
use Rattle.pj_events.specs.Limits.{BeginsBeyond}
use Rattle.pj_events.specs.Outcomes.{elements_of, elements_out}
use Rattle.pj_core.specs.Cores.{CoreState, StandsFor}
use Rattle.pj_core.specs.Turns.{working}
use Rattle.pj_feed.specs.Feeds.{FeedState, fed_elements, files_of}
use Rattle.pj_report.specs.declared.writer.ResultWriter.{ResultWriter}
use Rattle.pj_report.specs.Forms.{shown, taken_so_far}
use Rattle.pj_report.specs.Written.{FrontOf, WholeLines, flat}
use Rattle.pj_run.specs.Jobs.{Job}
use Rattle.pj_run.specs.Runs.{outs_by, run_nodes}
use Rattle.pj_run.specs.declared.stops.RunStop.{RunStop}
use Rattle.pj_run.specs.declared.stops.RunStop.TheVariants.{ReadFault, TooLarge, Limit, Refused, WriteFailed, NoMemory, Cut, CutRead, CutLarge, CutRefused}
use Rattle.pj_whole_laws.specs.Whole.{IsWholeHistory}
use Rattle.pj_crew_runs.specs.Runs.{ArrivesOfLarge, IsFrontHistory, MeetsLimit}

-- ---- a run that was made to its end

-- There is a whole history of the job, for which the core stands; the writer has taken what it hands out, and where the sink is told the
-- lines of that were written
pub record IsDone (job : Job) (feeds : List FeedState) (core : CoreState) (results : ResultWriter) (sink sink' : SinkState) : Type 0 where
  pub history : List Entry
  pub whole : IsWholeHistory job (files_of feeds) history
  pub stands : StandsFor core history
  pub results_are : results ≡ taken_so_far job.form (elements_out (outs_by job history))
  pub written : IsTrue sink'.told → sink'.written ≡ sink.written ++ flat (shown job.form job.nodes (outs_by job history))

-- ---- a run that stopped

-- what arrived of a stream of which a read failed
abbrev pub ArrivesUntil : List FeedState → List Entry → ℕ → Type 0
ArrivesUntil news history stream = (feed : FeedState) × (slice_get news stream ≡ Some feed) × (elements_of stream history ≡ fed_elements feed.intake.columns feed.source.taken)

-- and of one whose file is too large
abbrev pub ArrivesLarge : List FeedState → List Entry → ℕ → Type 0
ArrivesLarge news history stream = (feed : FeedState) × (slice_get news stream ≡ Some feed) × ArrivesOfLarge stream feed history

-- the entry behind this front of what settles a core that stood for a history is the first that brings an element beyond the limit, at
-- this node
pub record SettlesBeyond (job : Job) (history : List Entry) (node : ℕ) : Type 0 where
  pub core : CoreState
  pub before : List Entry
  pub stood : StandsFor core before
  pub front : List Entry
  pub back : List Entry
  pub parts : working true core before ≡ front ++ back
  pub made : history ≡ before ++ front
  pub beyond : BeginsBeyond job.limit (run_nodes job) history back node

-- the limit of this node was met: by a worker, or as the core was settled
abbrev pub LimitTells : Job → List Entry → ℕ → Type 0
LimitTells job history node = MeetsLimit job history node ⊎ SettlesBeyond job history node

abbrev pub CutTells : Stop → Job → List Entry → Type 0
CutTells (CoreLimit node) job history = LimitTells job history node
CutTells CoreMemory job history = Unit {0}

-- what the stop tells of the history
abbrev pub StopTells : RunStop → Job → List FeedState → List Entry → Type 0
StopTells (ReadFault stream) job news history = ArrivesUntil news history stream
StopTells (TooLarge stream) job news history = ArrivesLarge news history stream
StopTells (Limit node) job news history = LimitTells job history node
StopTells (Refused line) job news history = ⊥
StopTells WriteFailed job news history = Unit {0}
StopTells NoMemory job news history = Unit {0}
StopTells (Cut stop) job news history = CutTells stop job history
StopTells (CutRead stream) job news history = ArrivesUntil news history stream
StopTells (CutLarge stream) job news history = ArrivesLarge news history stream
StopTells (CutRefused line) job news history = ⊥

-- what it leaves of these lines: all of them, whole first ones, or a front of their bytes
abbrev pub StopLeaves : RunStop → List (List ℕ) → List ℕ → List ℕ → Type 0
StopLeaves (ReadFault stream) lines before after = after ≡ before ++ flat lines
StopLeaves (TooLarge stream) lines before after = after ≡ before ++ flat lines
StopLeaves (Limit node) lines before after = after ≡ before ++ flat lines
StopLeaves (Refused line) lines before after = after ≡ before ++ flat lines
StopLeaves WriteFailed lines before after = FrontOf (flat lines) before after
StopLeaves NoMemory lines before after = WholeLines lines before after
StopLeaves (Cut stop) lines before after = FrontOf (flat lines) before after
StopLeaves (CutRead stream) lines before after = FrontOf (flat lines) before after
StopLeaves (CutLarge stream) lines before after = FrontOf (flat lines) before after
StopLeaves (CutRefused line) lines before after = FrontOf (flat lines) before after

-- There is a legal history of the job within its limit, in which a front of each stream arrived; the stop tells this of it, and where the
-- sink is told this of the lines of what it hands out was written
pub record IsStopped (job : Job) (feeds news : List FeedState) (stop : RunStop) (sink sink' : SinkState) : Type 0 where
  pub history : List Entry
  pub front : IsFrontHistory job (files_of feeds) history
  pub tells : StopTells stop job news history
  pub written : IsTrue sink'.told → StopLeaves stop (shown job.form job.nodes (outs_by job history)) sink.written sink'.written
