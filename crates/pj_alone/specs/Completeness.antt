-- When a call is done.
use Rattle.std.specs.Prelude.{ℕ, ◌≡◌, ◌<◌, ◌≤◌, ◌^◌, ◌⊎◌, ⊤, List, [], length, Some, slice_index_or}
use Rattle.pj_io.specs.Causes.{Rose}
use Rattle.pj_io.specs.States.{FolderState, SinkState}
use Rattle.pj_report.specs.declared.status.Status.{Status}
use Rattle.pj_report.specs.declared.status.Status.TheVariants.{Done, NoMemory}
use Rattle.pj_prepare.specs.Calls.{nothing, running, checking, making, Task, Call, job_of, IsTold, operand, stream_files}
use Rattle.pj_run.specs.Jobs.{Job}
use Rattle.pj_run.specs.Runs.{elements_to}
use Rattle.pj_alone.specs.Top.{IsFit, IsPlayable}
use Rattle.pj_algebra.specs.Answers.{IsCounted}

-- no count of faults rose: not that of an operand's name, and not the sink's
pub record NoneRose (call : Call) (after : FolderState) (old new : SinkState) : Type 0 where
  pub files : (n : ℕ) → 1 ≤ n → n ≤ length call.names → Rose (call.folder.faults (operand call.names n)) (after.faults (operand call.names n)) → ⊥
  pub sink : Rose old.faults new.faults → ⊥

-- no limit is gone beyond: each file has fewer bytes than would be too many, and to no join or group more elements come in all
-- than may
pub record IsWithinLimits (job : Job) (files : List (List ℕ)) : Type 0 where
  pub bytes : (stream : ℕ) → stream < length files → length (slice_index_or files stream []) < 2 ^ 40
  pub elements : (node : ℕ) → IsCounted job.nodes node → elements_to job files node ≤ job.limit

-- where the call is told, the plan and the files of a run go beyond no limit
abbrev pub RoomFor : Task → Call → Type 0
RoomFor nothing call = ⊤
RoomFor running call = (job : Job) → job_of call ≡ Some job → IsWithinLimits job (stream_files call)
RoomFor (checking print) call = ⊤
RoomFor (making seed count) call = ⊤

abbrev pub HasRoom : Call → Type 0
HasRoom call = RoomFor call.task call

-- Where the call is told: a run of a safe plan of few enough bytes with a stream for each file, with a script of few enough bytes each of
-- whose lines is a step that is enabled, if there is one; the check of a safe plan; or a made input: counts of faults that do not rise and limits that
-- are not gone beyond give a call that is done, or want of memory
abbrev pub Completes : Status → Call → FolderState → SinkState → SinkState → Type 0
Completes answer call after old new =
    IsTold call → IsFit call.task call → IsPlayable call → NoneRose call after old new → HasRoom call → (answer ≡ Done) ⊎ (answer ≡ NoMemory)
