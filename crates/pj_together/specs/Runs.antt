-- What is so of a run with workers, done or stopped, and of what was written.
use Rattle.std.specs.Prelude.{◌≡◌, ◌+◌, ◌^◌, ℕ, ◌⊎◌, List, [], ◌++◌, Some, None, IsTrue}
use Rattle.pj_io.specs.States.{FolderState, SinkState}
use Rattle.pj_pattern.specs.declared.element.Element.{Element}
use Rattle.pj_pattern.specs.Elements.{IsLawful}
use Rattle.pj_events.specs.declared.events.Entry.{Entry}
use Rattle.pj_events.specs.Outcomes.{elements_out}
use Rattle.pj_feed.specs.Named.{IsAlone}
use Rattle.pj_files.specs.Staying.{StaysRight}
use Rattle.pj_report.specs.declared.status.Status.{Status}
use Rattle.pj_report.specs.declared.status.Status.TheVariants.{Done, Usage, OpenFault, ReadFault, PlanRefused, FileCount, Unsafe, ScriptRefused, WriteFault, NoMemory, Limit}
use Rattle.pj_report.specs.declared.status.LimitOf.{LimitOf}
use Rattle.pj_report.specs.declared.status.LimitOf.TheVariants.{Plan, Script, Node, File}
use Rattle.pj_report.specs.Report.{status_line}
use Rattle.pj_report.specs.Written.{Delivered, FrontOf, Spells, flat}
use Rattle.pj_run.specs.Ends.{ArrivedOf, lines_until}
use Rattle.pj_run.specs.Jobs.{Job}
use Rattle.pj_run.specs.Runs.{lines_by, outs_by, report_by}
use Rattle.pj_whole_laws.specs.Whole.{IsWholeHistory}
use Rattle.pj_crew_runs.specs.Runs.{IsFrontHistory}
use Rattle.pj_crew_runs.specs.Limits.{ComesBeyond}
use Rattle.pj_parallel.specs.Parallel.{LimitTells}
use Rattle.pj_parallel_files.specs.Histories.{ComesTo}
use Rattle.pj_prepare.specs.declared.calls.Prepared.{Prepared}
use Rattle.pj_prepare.specs.Scripts.{IsPrepared}
use Rattle.pj_prepare.specs.Calls.{Call, file_names, first_file, job_of, operand, stream_files, IsTold}
use Rattle.pj_alone.specs.Endings.{limit_name, Ending}
use Rattle.pj_alone.specs.Made.{MemoryLeft}
use Rattle.pj_alone.specs.Top.{IsBuilt}

-- ---- a run that is done

-- There is a whole history of the call's job, legal, complete and within the limit, in which to each stream all that is accepted of its
-- file arrives, and its closing; of what it hands out and of its report this is so
pub record MadeBy (Holds : Job → List (List ℕ) → List Element → List (List ℕ) → Type 0) (call : Call) (old new : SinkState) : Type 0 where
  pub job : Job
  pub asked : job_of call ≡ Some job
  pub history : List Entry
  pub whole : IsWholeHistory job (stream_files call) history
  pub written : new.written ≡ old.written ++ flat (lines_by job (stream_files call) history)
  pub holds : Holds job (stream_files call) (elements_out (outs_by job history)) (report_by job (stream_files call) history (elements_out (outs_by job history)))

-- where the call and the sink are told: the lines of such a history and of its report were written
abbrev pub Made : (Job → List (List ℕ) → List Element → List (List ℕ) → Type 0) → Call → SinkState → SinkState → Type 0
Made Holds call old new = IsTold call → IsTrue new.told → MadeBy Holds call old new

-- the report's counts, rejects, peaks and check are those of the files and of a whole history, whose outputs these are
abbrev pub AreCounts : Job → List (List ℕ) → List Element → List (List ℕ) → Type 0
AreCounts job files outputs report =
    (history : List Entry) × IsWholeHistory job files history × (outputs ≡ elements_out (outs_by job history)) × (report ≡ report_by job files history outputs)

-- there is nothing that it would have to be besides
abbrev pub AreAny : Job → List (List ℕ) → List Element → List (List ℕ) → Type 0
AreAny job files outputs report = Unit {0}

-- where the call is told, there is such a history
abbrev pub HasWhole : Call → Type 0
HasWhole call = IsTold call → (job : Job) × (job_of call ≡ Some job) × (history : List Entry) × IsWholeHistory job (stream_files call) history

-- ---- a run that stopped

-- There is a legal history of the job within its limit, in which a front of each stream arrived, and of which this is so; the lines of what it
-- hands out before its end were written, and this line behind them, or the output failed and a front of them was
pub record Stopped (job : Job) (call : Call) (Holds : List Entry → Type 0) (line : List ℕ) (old new : SinkState) : Type 0 where
  pub history : List Entry
  pub front : IsFrontHistory job (stream_files call) history
  pub holds : Holds history
  pub left : Delivered (lines_until job history ++ line) old new

-- the read of the file of this operand, a stream's, failed: no line beyond those that were read whole was lost or made up, where no other
-- stream's file has its name
pub record FaultLeft (n : ℕ) (job : Job) (call : Call) (after : FolderState) (old new : SinkState) : Type 0 where
  pub stream : ℕ
  pub is : n ≡ first_file call + stream
  pub stopped : Stopped job call (λ history. IsAlone stream (file_names call) → ArrivedOf job (stream_files call) stream (after.last (operand call.names n)) history)
      (status_line [] (ReadFault n)) old new

-- a limit was met: of a node, as the history shows; or of a file, of which exactly the elements had arrived of the lines that end in its
-- first 2 ^ 40 bytes
abbrev pub LimitLeft : LimitOf → Job → Call → SinkState → SinkState → Type 0
LimitLeft Plan job call old new = ⊥
LimitLeft Script job call old new = ⊥
LimitLeft (Node node) job call old new =
    Stopped job call (λ history. LimitTells job history node) (status_line (limit_name job.nodes (Node node)) (Limit (Node node))) old new
LimitLeft (File stream) job call old new =
    Stopped job call (ArrivedOf job (stream_files call) stream (2 ^ 40)) (status_line (limit_name job.nodes (File stream)) (Limit (File stream))) old new

-- What a run leaves that stopped. Where a write failed: a front of the bytes of the lines that a history of the job makes, which is legal, and
-- whole where they have a report; where memory ran out: whole first ones of such lines; else all lines of what a legal history hands out
abbrev pub StopLeft : Status → Job → Call → FolderState → SinkState → SinkState → Type 0
StopLeft Done job call after old new = ⊥
StopLeft Usage job call after old new = ⊥
StopLeft (PlanRefused line why) job call after old new = ⊥
StopLeft (FileCount want got) job call after old new = ⊥
StopLeft (Unsafe node risk) job call after old new = ⊥
StopLeft (ScriptRefused line) job call after old new = ⊥
StopLeft (OpenFault n) job call after old new = ⊥
StopLeft (ReadFault n) job call after old new = FaultLeft n job call after old new
StopLeft WriteFault job call after old new = (lines : List (List ℕ)) × ComesTo job (stream_files call) lines × FrontOf (flat lines) old.written new.written
StopLeft NoMemory job call after old new = (lines : List (List ℕ)) × ComesTo job (stream_files call) lines × MemoryLeft lines old new
StopLeft (Limit what) job call after old new = LimitLeft what job call old new

-- where the call and the sink are told
abbrev pub RunLeft : Ending → Type 0
RunLeft e = IsTold e.call → IsTrue e.new.told → (job : Job) × (job_of e.call ≡ Some job) × StopLeft e.status job e.call e.after e.old e.new

-- ---- what was written stays right

-- these outputs are first ones of what a legal history of a front of each stream hands out, and stay right
abbrev pub StayOf : Call → List Element → Type 0
StayOf call outputs =
    (job : Job) × (job_of call ≡ Some job) × (history : List Entry) × IsFrontHistory job (stream_files call) history × StaysRight job history outputs

abbrev pub NoneRetracted : Call → SinkState → SinkState → Type 0
NoneRetracted call old new =
    IsTold call → IsTrue new.told → (bytes : List ℕ) × (new.written ≡ old.written ++ bytes) × (outputs : List Element) × Spells bytes outputs
    × IsLawful outputs × ((outputs ≡ []) ⊎ StayOf call outputs)

-- ---- limits

-- there is something to run, and to this node, a join or a group, more elements come in all than may
pub record BeyondLimit (call : Call) (node : ℕ) : Type 0 where
  pub built : IsBuilt call
  pub beyond : IsTold call → (job : Job) × (job_of call ≡ Some job) × ComesBeyond job (stream_files call) node

-- ---- how far a call has come

-- the call's plan was read and is to be run without a script, as far as its folder is now
pub record IsOver (ready : Prepared) (call : Call) (now : FolderState) : Type 0 where
  pub prepared : IsPrepared ready call now
  pub bare : call.script ≡ None

-- whichever folder a call met that has come so far, this holds of the call
abbrev pub WhereOver : Prepared → List (List ℕ) → FolderState → (Call → Type 0) → Type 0
WhereOver ready files now Holds = (call : Call) → IsOver ready call now → files ≡ file_names call → Holds call
