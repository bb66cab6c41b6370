-- What a run with workers over files leaves: which lines of a history it wrote.
use Rattle.std.specs.Prelude.{◌≡◌, ◌^◌, ◌⊎◌, ℕ, List, [], ◌++◌, IfErr, IsTrue, Result, slice_index_or}
use Rattle.pj_events.specs.declared.events.Entry.{Entry}
use Rattle.pj_io.specs.States.{FolderState, SinkState}
use Rattle.pj_feed.specs.Named.{AreTold, IsAlone, files_named}
use Rattle.pj_feed.specs.declared.stops.OpeningStop.TheVariants.{Fault, NoMemory as OpeningMemory}
use Rattle.pj_report.specs.Forms.{shown}
use Rattle.pj_report.specs.Written.{FrontOf, WholeLines, flat}
use Rattle.pj_run.specs.Ends.{ArrivedOf}
use Rattle.pj_run.specs.Jobs.{Job}
use Rattle.pj_run.specs.Runs.{lines_by, outs_by}
use Rattle.pj_run.specs.declared.stops.RunStop.TheVariants.{ReadFault, TooLarge, Limit, Refused, WriteFailed, NoMemory, Cut, CutRead, CutLarge, CutRefused}
use Rattle.pj_run.specs.declared.stops.FilesStop.{FilesStop}
use Rattle.pj_run.specs.declared.stops.FilesStop.TheVariants.{Opening, Run}
use Rattle.pj_whole_laws.specs.Whole.{IsWholeHistory}
use Rattle.pj_crew_runs.specs.Runs.{IsFrontHistory}
use Rattle.pj_parallel.specs.Parallel.{CutTells, LimitTells}

-- ---- a run that was made to its end

-- There is a whole history of the job over these files, and where the sink is told all its lines were written
pub record MadeWhole (job : Job) (files : List (List ℕ)) (sink sink' : SinkState) : Type 0 where
  pub history : List Entry
  pub whole : IsWholeHistory job files history
  pub written : IsTrue sink'.told → sink'.written ≡ sink.written ++ flat (lines_by job files history)

-- ---- a run that stopped

-- the lines of what a history hands out before its end: none where results are sorted
abbrev pub lines_until : Job → List Entry → List (List ℕ)
lines_until job history = shown job.form job.nodes (outs_by job history)

-- the lines that a run came to write: those of what a legal history of a front of each stream hands out before its end, or all those of a
-- whole one
abbrev pub ComesTo : Job → List (List ℕ) → List (List ℕ) → Type 0
ComesTo job files lines =
    ((history : List Entry) × IsFrontHistory job files history × (lines ≡ lines_until job history))
    ⊎ ((history : List Entry) × IsWholeHistory job files history × (lines ≡ lines_by job files history))

-- A legal history of the job within its limit, in which a front of each stream arrived, of which this is so; of the lines that it hands out
-- before its end this was written
pub record LeavesFront (job : Job) (files : List (List ℕ)) (Holds : List Entry → Type 0) (Leaves : List (List ℕ) → Type 0) : Type 0 where
  pub history : List Entry
  pub front : IsFrontHistory job files history
  pub holds : Holds history
  pub left : Leaves (lines_until job history)

-- these lines were written
abbrev pub AllOf : List ℕ → List ℕ → List (List ℕ) → Type 0
AllOf before after lines = after ≡ before ++ flat lines

-- a front of their bytes was written
abbrev pub PartOf : List ℕ → List ℕ → List (List ℕ) → Type 0
PartOf before after lines = FrontOf (flat lines) before after

-- at the file of this stream exactly the elements arrived that are accepted of the lines which end with a line feed in the bytes taken,
-- where no other has its name
abbrev pub ArrivedUntil : Job → List (List ℕ) → FolderState → FolderState → ℕ → List Entry → Type 0
ArrivedUntil job names before after stream history =
    IsAlone stream names → ArrivedOf job (files_named names before) stream (after.last (slice_index_or names stream [])) history

-- what the stop of a run over these files leaves, where they and the sink are told
abbrev pub FilesLeave : FilesStop → Job → List (List ℕ) → FolderState → FolderState → List ℕ → List ℕ → Type 0
FilesLeave (Opening (Fault stream)) job names before after written lines =
    (lines ≡ written) × (IsAlone stream names → after.last (slice_index_or names stream []) ≡ before.last (slice_index_or names stream []))
FilesLeave (Opening OpeningMemory) job names before after written lines = lines ≡ written
FilesLeave (Run (ReadFault stream)) job names before after written lines =
    LeavesFront job (files_named names before) (ArrivedUntil job names before after stream) (AllOf written lines)
FilesLeave (Run (TooLarge stream)) job names before after written lines =
    LeavesFront job (files_named names before) (ArrivedOf job (files_named names before) stream (2 ^ 40)) (AllOf written lines)
FilesLeave (Run (Limit node)) job names before after written lines =
    LeavesFront job (files_named names before) (λ history. LimitTells job history node) (AllOf written lines)
FilesLeave (Run (Refused line)) job names before after written lines = ⊥
FilesLeave (Run WriteFailed) job names before after written lines =
    (made : List (List ℕ)) × ComesTo job (files_named names before) made × FrontOf (flat made) written lines
FilesLeave (Run NoMemory) job names before after written lines =
    (made : List (List ℕ)) × ComesTo job (files_named names before) made × WholeLines made written lines
FilesLeave (Run (Cut stop)) job names before after written lines =
    LeavesFront job (files_named names before) (CutTells stop job) (PartOf written lines)
FilesLeave (Run (CutRead stream)) job names before after written lines =
    LeavesFront job (files_named names before) (ArrivedUntil job names before after stream) (PartOf written lines)
FilesLeave (Run (CutLarge stream)) job names before after written lines =
    LeavesFront job (files_named names before) (ArrivedOf job (files_named names before) stream (2 ^ 40)) (PartOf written lines)
FilesLeave (Run (CutRefused line)) job names before after written lines = ⊥

-- where the files and the sink are told, a run that stopped leaves what its stop does
abbrev pub LeavesByStop : {T : Type 0} → Result T FilesStop → Job → List (List ℕ) → FolderState → FolderState → SinkState → SinkState → Type 0
LeavesByStop result job names before after old new = AreTold names before → IsTrue new.told → IfErr result (λ stop. FilesLeave stop job names before after old.written new.written)
