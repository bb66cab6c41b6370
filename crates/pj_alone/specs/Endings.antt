-- How a call ended: how far it came, and what it left of the folder and in the sink.
use Rattle.std.specs.List.{concat}
use Rattle.std.specs.Prelude.{Bool, ◌++◌, ◌≡◌, ◌<◌, ◌≤◌, ◌+◌, ℕ, ◌⊎◌, ⊤, List, [], length, take, Ok, Option, Some, None, IsTrue, slice_index_or}
use Rattle.pj_plan.specs.declared.node.Outline.{Outline}
use Rattle.pj_plan.specs.declared.node.PlanNode.{PlanNode}
use Rattle.pj_plan.specs.Nodes.{streams_in}
use Rattle.pj_plan.specs.Canonical.{node_name}
use Rattle.pj_plan_text.specs.PlanRead.{plan_read}
use Rattle.pj_judge.specs.Checks.{check_lines}
use Rattle.pj_judge.specs.Judgments.{AreUnsafeLines}
use Rattle.pj_safety.specs.Safety.{IsFirstRisk, IsSafePlan}
use Rattle.pj_safety.specs.declared.risk.PlanRisk.{PlanRisk}
use Rattle.pj_io.specs.Causes.{Rose}
use Rattle.pj_io.specs.States.{FolderState, SinkState}
use Rattle.pj_feed.specs.Named.{IsAlone}
use Rattle.pj_feed.specs.Opened.{OpensFirst, StayOutside}
use Rattle.pj_report.specs.declared.status.Status.{Status}
use Rattle.pj_report.specs.declared.status.Status.TheVariants.{Done, Usage, OpenFault, ReadFault, PlanRefused, FileCount, Unsafe, ScriptRefused, WriteFault, NoMemory, Limit}
use Rattle.pj_report.specs.declared.status.LimitOf.{LimitOf}
use Rattle.pj_report.specs.declared.status.LimitOf.TheVariants.{Plan, Script, Node, File}
use Rattle.pj_report.specs.Report.{status_line}
use Rattle.pj_report.specs.Written.{flat, WholeLines, FrontOf, Delivered}
use Rattle.pj_run.specs.Ends.{EndsBefore, EndsAtBytes, EndsAtLimit, EndsCut, EndsCutBefore, EndsCutRefused, EndsRefused, ArrivedOf, EndsCutAtBytes}
use Rattle.pj_run.specs.Jobs.{Job, HasScript}
use Rattle.pj_run.specs.Runs.{due_lines, refused_line}
use Rattle.pj_run.specs.Whole.{WroteLines}
use Rattle.pj_prepare.specs.Calls.{checking, making, running, Call, first_file, job_of, script_fault, HasToldJob, IsTold, HasToldPlan, operand, file_names, plan_bytes, stream_files}
use Rattle.pj_alone.specs.Made.{made_lines, Left, LinesLeft}
use Rattle.pj_prepare.specs.Plans.{plan_of, SpellsPlan}
use Rattle.pj_alone.specs.Top.{IsBuilt}

-- A call and the status that it answers, what the folder tells of itself behind it, and what the sink told before and tells behind
pub record Ending : Type 0 where
  pub call : Call
  pub status : Status
  pub after : FolderState
  pub old : SinkState
  pub new : SinkState

abbrev pub ending_of : Call → Status → FolderState → SinkState → SinkState → Ending
ending_of call status after old new = record { call = call; status = status; after = after; old = old; new = new }

-- ---- how far a call came

-- How far a call came
pub data Stage : Type 0 where
  -- to what is asked for, which is nothing that there is; or memory was wanting before
  at_words : Stage
  -- to the plan, whose file was opened
  at_plan : Stage
  -- to the verdict on the plan, which was to be checked
  at_verdict : Stage
  -- to the run over a made input
  at_made : Stage
  -- to the script, whose file was opened behind the plan's
  at_script : Stage
  -- to the opening of the files: so many operands' were opened, and the next one's was not
  at_opening : ℕ → Stage
  -- to the run, all files being open
  in_run : Stage
  -- to the end of the run
  at_end : Stage

-- how many operands' files were opened
abbrev pub opened_at : Stage → Call → ℕ
opened_at at_words call = 0
opened_at at_plan call = 1
opened_at at_verdict call = 1
opened_at at_made call = 0
opened_at at_script call = 2
opened_at (at_opening count) call = count
opened_at in_run call = length call.names
opened_at at_end call = length call.names

-- how many of them were tried
abbrev pub tried_at : Stage → Call → ℕ
tried_at at_words call = 0
tried_at at_plan call = 1
tried_at at_verdict call = 1
tried_at at_made call = 0
tried_at at_script call = 2
tried_at (at_opening count) call = count + 1
tried_at in_run call = length call.names
tried_at at_end call = length call.names

-- it came past the plan
abbrev pub IsPastPlan : Stage → Type 0
IsPastPlan at_words = ⊥
IsPastPlan at_plan = ⊥
IsPastPlan at_verdict = ⊥
IsPastPlan at_made = ⊥
IsPastPlan at_script = ⊤
IsPastPlan (at_opening count) = 1 ≤ count
IsPastPlan in_run = ⊤
IsPastPlan at_end = ⊤

-- it did not come to the end of a run
abbrev pub IsBeforeEnd : Stage → Type 0
IsBeforeEnd at_words = ⊤
IsBeforeEnd at_plan = ⊤
IsBeforeEnd at_verdict = ⊤
IsBeforeEnd at_made = ⊤
IsBeforeEnd at_script = ⊤
IsBeforeEnd (at_opening count) = ⊤
IsBeforeEnd in_run = ⊤
IsBeforeEnd at_end = ⊥

-- a limit is met so far
abbrev pub LimitComesAt : LimitOf → Stage → Type 0
LimitComesAt Plan stage = stage ≡ at_plan
LimitComesAt Script stage = stage ≡ at_script
LimitComesAt (Node node) stage = stage ≡ in_run
LimitComesAt (File stream) stage = stage ≡ in_run

-- how far a call comes that answers a status; memory may be wanting anywhere
abbrev pub ComesAt : Status → Stage → Type 0
ComesAt Done stage = (stage ≡ at_end) ⊎ (stage ≡ at_verdict) ⊎ (stage ≡ at_made)
ComesAt Usage stage = stage ≡ at_words
ComesAt (PlanRefused line why) stage = stage ≡ at_plan
ComesAt (FileCount want got) stage = stage ≡ at_plan
ComesAt (Unsafe node risk) stage = (stage ≡ at_plan) ⊎ (stage ≡ at_verdict)
ComesAt (OpenFault n) stage = (count : ℕ) × (count + 1 ≡ n) × (stage ≡ at_opening count)
ComesAt (ScriptRefused line) stage = (stage ≡ at_script) ⊎ (stage ≡ in_run)
ComesAt (ReadFault n) stage = ((n ≡ 1) × (stage ≡ at_plan)) ⊎ ((n ≡ 2) × (stage ≡ at_script)) ⊎ ((1 < n) × (stage ≡ in_run))
ComesAt WriteFault stage = (stage ≡ in_run) ⊎ (stage ≡ at_verdict) ⊎ (stage ≡ at_made)
ComesAt NoMemory stage = IsBeforeEnd stage
ComesAt (Limit what) stage = LimitComesAt what stage

-- ---- names

-- the name of a stream, by its number
abbrev pub stream_name : List PlanNode → ℕ → List ℕ
stream_name streams n = node_name streams n

-- the name of what has a limit
abbrev pub limit_name : List PlanNode → LimitOf → List ℕ
limit_name nodes Plan = []
limit_name nodes Script = []
limit_name nodes (Node node) = node_name nodes node
limit_name nodes (File stream) = stream_name (streams_in nodes) stream

-- the name that the line of a status has, if any
abbrev pub stop_name : List PlanNode → Status → List ℕ
stop_name nodes Done = []
stop_name nodes Usage = []
stop_name nodes (PlanRefused line why) = []
stop_name nodes (FileCount want got) = []
stop_name nodes (Unsafe node risk) = []
stop_name nodes (ScriptRefused line) = []
stop_name nodes (OpenFault n) = []
stop_name nodes (ReadFault n) = []
stop_name nodes WriteFault = []
stop_name nodes NoMemory = []
stop_name nodes (Limit what) = limit_name nodes what

-- ---- what is left in the sink

-- the lines of an unsafe plan that was to be run were written: of its first node at a risk, at this one
abbrev pub TellsUnsafe : ℕ → PlanRisk → Call → SinkState → SinkState → Type 0
TellsUnsafe node risk call old new =
    (call.task ≡ running) × (plan : Outline) × (lines : List (List ℕ)) × (HasToldPlan call → plan_read (plan_bytes call) ≡ Ok plan)
    × AreUnsafeLines plan.nodes node risk lines × Delivered (flat lines) old new

-- what is left where a call did not come to its run: the status' lines and nothing else
abbrev pub EarlyLeaves : Status → Call → SinkState → SinkState → Type 0
EarlyLeaves Done call old new = ⊥
EarlyLeaves Usage call old new = Delivered (status_line [] Usage) old new
EarlyLeaves (PlanRefused line why) call old new = Delivered (status_line [] (PlanRefused line why)) old new
EarlyLeaves (FileCount want got) call old new = Delivered (status_line [] (FileCount want got)) old new
EarlyLeaves (Unsafe node risk) call old new = TellsUnsafe node risk call old new
EarlyLeaves (ScriptRefused line) call old new = Delivered (status_line [] (ScriptRefused line)) old new
EarlyLeaves (OpenFault n) call old new = Delivered (status_line [] (OpenFault n)) old new
EarlyLeaves (ReadFault n) call old new = Delivered (status_line [] (ReadFault n)) old new
EarlyLeaves WriteFault call old new = ⊥
EarlyLeaves NoMemory call old new = Delivered (status_line [] NoMemory) old new
EarlyLeaves (Limit what) call old new = Delivered (status_line [] (Limit what)) old new

-- A read of the file of this operand, a stream's, failed: the lines of the outputs were written up to a turn of that stream, and no
-- line beyond those that were read whole was lost or made up, where no other stream's file has its name
abbrev pub FaultLeaves : Job → Call → FolderState → ℕ → List ℕ → List ℕ → Type 0
FaultLeaves job call after n before bytes =
    (stream : ℕ) × (n ≡ first_file call + stream) × (ends : EndsBefore job (stream_files call) stream before bytes)
    × (IsAlone stream (file_names call) → ArrivedOf job (stream_files call) stream (after.last (operand call.names n)) ends.front)

-- what a limit leaves: the lines of the outputs up to the step that goes beyond it, or up to the turn of the stream whose file is
-- too large, at which exactly the elements of the lines had arrived that 2 ^ 40 bytes of it end
abbrev pub LimitLeaves : Job → List (List ℕ) → LimitOf → List ℕ → List ℕ → Type 0
LimitLeaves job files Plan before bytes = ⊥
LimitLeaves job files Script before bytes = ⊥
LimitLeaves job files (Node node) before bytes = EndsAtLimit job files node before bytes
LimitLeaves job files (File stream) before bytes = EndsAtBytes job files stream before bytes

-- the output failed while the lines up to the step that goes beyond a node's limit, or up to the turn of a file that is too large, were
-- written: a front of them was, and no more; the latter only of a script
abbrev pub CutAtLimit : LimitOf → Job → Call → SinkState → SinkState → Type 0
CutAtLimit Plan job call old new = ⊥
CutAtLimit Script job call old new = ⊥
CutAtLimit (File stream) job call old new = HasScript job × EndsCutAtBytes job (stream_files call) stream old.written new.written × Rose old.faults new.faults
CutAtLimit (Node node) job call old new = EndsCut job (stream_files call) node old.written new.written × Rose old.faults new.faults

-- it failed while the lines up to the turn of this operand's stream were written, of which a read failed, and no line of it was lost or
-- made up; only a script makes more steps before it writes
pub record CutAtFault (n : ℕ) (job : Job) (call : Call) (after : FolderState) (old new : SinkState) : Type 0 where
  pub script : HasScript job
  pub stream : ℕ
  pub is : n ≡ first_file call + stream
  pub ends : EndsCutBefore job (stream_files call) stream old.written new.written
  pub arrived : IsAlone stream (file_names call) → ArrivedOf job (stream_files call) stream (after.last (operand call.names n)) ends.front
  pub rose : Rose old.faults new.faults

-- it failed while the lines up to a step were written that is not enabled
abbrev pub CutAtStep : Job → Call → SinkState → SinkState → Type 0
CutAtStep job call old new = EndsCutRefused job (stream_files call) old.written new.written × Rose old.faults new.faults

-- it failed once memory had been wanting: a front of the lines of the whole run was written, and no more
abbrev pub CutRun : Job → Call → SinkState → SinkState → Type 0
CutRun job call old new = FrontOf (flat (due_lines job (stream_files call))) old.written new.written × Rose old.faults new.faults

-- What a run that stopped leaves. Where a write failed: a front of the bytes of the lines that are due; where memory ran out: whole first
-- lines of the run; where a read failed, a limit was met or a step of the script is not enabled: exactly the lines of the outputs until
-- then. Behind such lines stands the status' line; where the output failed once the run had stopped, a front of them was written
abbrev pub StopLeaves : Status → Job → Call → FolderState → SinkState → SinkState → Type 0
StopLeaves Done job call after old new = ⊥
StopLeaves Usage job call after old new = ⊥
StopLeaves (PlanRefused line why) job call after old new = ⊥
StopLeaves (FileCount want got) job call after old new = ⊥
StopLeaves (Unsafe node risk) job call after old new = ⊥
StopLeaves (ScriptRefused line) job call after old new =
    (refused_line job (stream_files call) ≡ Some line)
    × (((bytes : List ℕ) × EndsRefused job (stream_files call) old.written bytes × Left bytes (status_line [] (ScriptRefused line)) old new) ⊎ CutAtStep job call old new)
StopLeaves (OpenFault n) job call after old new = ⊥
StopLeaves (ReadFault n) job call after old new =
    ((bytes : List ℕ) × FaultLeaves job call after n old.written bytes × Left bytes (status_line [] (ReadFault n)) old new) ⊎ CutAtFault n job call after old new
StopLeaves WriteFault job call after old new = FrontOf (flat (due_lines job (stream_files call))) old.written new.written
StopLeaves NoMemory job call after old new =
    ((bytes : List ℕ) × WholeLines (due_lines job (stream_files call)) old.written bytes × Left bytes (status_line [] NoMemory) old new) ⊎ CutRun job call old new
StopLeaves (Limit what) job call after old new =
    ((bytes : List ℕ) × LimitLeaves job (stream_files call) what old.written bytes × Left bytes (status_line (limit_name job.nodes what) (Limit what)) old new)
    ⊎ CutAtLimit what job call old new

-- What is left where a plan was checked: its text, that of a safe plan or of one that is not; where a write failed, a front of the
-- text; where memory was wanting, the status' line alone
abbrev pub VerdictLeaves : Status → Bool → Outline → SinkState → SinkState → Type 0
VerdictLeaves Done print plan old new = IsSafePlan plan.nodes × (IsTrue new.told → new.written ≡ old.written ++ concat (check_lines print plan))
VerdictLeaves Usage print plan old new = ⊥
VerdictLeaves (PlanRefused line why) print plan old new = ⊥
VerdictLeaves (FileCount want got) print plan old new = ⊥
VerdictLeaves (Unsafe node risk) print plan old new = IsFirstRisk plan.nodes node risk × Delivered (concat (check_lines print plan)) old new
VerdictLeaves (ScriptRefused line) print plan old new = ⊥
VerdictLeaves (OpenFault n) print plan old new = ⊥
VerdictLeaves (ReadFault n) print plan old new = ⊥
VerdictLeaves WriteFault print plan old new =
    IsSafePlan plan.nodes × Rose old.faults new.faults × (IsTrue new.told → FrontOf (concat (check_lines print plan)) old.written new.written)
VerdictLeaves NoMemory print plan old new = Delivered (status_line [] NoMemory) old new
VerdictLeaves (Limit what) print plan old new = ⊥

-- the call was to check a plan, where it is told the one that the bytes of its file spell, and this is left
abbrev pub IsChecked : Ending → Type 0
IsChecked e =
    (print : Bool) × (plan : Outline) × (e.call.task ≡ checking print) × (HasToldPlan e.call → SpellsPlan (plan_bytes e.call) plan)
    × VerdictLeaves e.status print plan e.old e.new

-- the call was to make an input, no file was asked for, and this is left of the lines of its run
abbrev pub HasMade : Ending → Type 0
HasMade e = (seed : ℕ) × (count : ℕ) × (e.call.task ≡ making seed count) × (e.call.names ≡ []) × LinesLeft e.status (made_lines seed count) e.old e.new

-- where the call and the sink are told: what the run of its job leaves that stopped
abbrev pub RunLeaves : Ending → Type 0
RunLeaves e = IsTold e.call → IsTrue e.new.told → (job : Job) × (job_of e.call ≡ Some job) × StopLeaves e.status job e.call e.after e.old e.new

-- where the sink is told, whatever files are: whole lines were written and behind them the line of want of memory, or the sink's faults rose
abbrev pub MemoryLeaves : SinkState → SinkState → Type 0
MemoryLeaves old new =
    IsTrue new.told → ((bytes : List ℕ) × WroteLines old.written bytes × (new.written ≡ bytes ++ status_line [] NoMemory)) ⊎ Rose old.faults new.faults

-- where the call and the sink are told: of the name of the operand at this place, whose file could not be opened, none was closed, if
-- no other operand has it
abbrev pub KeepsLast : ℕ → Ending → Type 0
KeepsLast place e =
    IsTold e.call → IsTrue e.new.told → (n : ℕ) → e.status ≡ OpenFault n → IsAlone place e.call.names
    → e.after.last (slice_index_or e.call.names place []) ≡ e.call.folder.last (slice_index_or e.call.names place [])

-- what a call leaves that came so far, where this is what a run leaves that stopped
abbrev pub LeavesBy : (Ending → Type 0) → Stage → Ending → Type 0
LeavesBy InRun at_words e = EarlyLeaves e.status e.call e.old e.new
LeavesBy InRun at_plan e = EarlyLeaves e.status e.call e.old e.new
LeavesBy InRun at_verdict e = IsChecked e
LeavesBy InRun at_made e = HasMade e
LeavesBy InRun at_script e = EarlyLeaves e.status e.call e.old e.new
LeavesBy InRun (at_opening count) e = EarlyLeaves e.status e.call e.old e.new × KeepsLast count e
LeavesBy InRun in_run e = InRun e
LeavesBy InRun at_end e = ⊤

-- ---- what is so of the script

-- the call has a script
abbrev pub NamesScript : Call → Type 0
NamesScript call = (name : List ℕ) × (call.script ≡ Some name)

-- where plan and script are told: each line of the script of this name is a step, and it is of few enough bytes; nothing is asked where
-- there is no script
abbrev pub AreSteps : Option (List ℕ) → Call → Type 0
AreSteps None call = ⊤
AreSteps (Some name) call =
    HasToldJob call → (length (call.folder.contents name) ≤ 1048576)
    × ((plan : Outline) × (plan_of (plan_bytes call) ≡ Some plan) × (script_fault call plan.nodes ≡ None))

abbrev pub IsScriptRead : Call → Type 0
IsScriptRead call = AreSteps call.script call

-- where they are told: this is the first line of the script that is no step
abbrev pub IsNoStepAt : Call → ℕ → Type 0
IsNoStepAt call line = HasToldJob call → (plan : Outline) × (plan_of (plan_bytes call) ≡ Some plan) × (script_fault call plan.nodes ≡ Some line)

-- A call came to a script only where it has one, and a line is refused there that is no step. It came past the script, to files or to
-- their run, only where all lines are steps; and a read of the run that failed was of a stream's file
abbrev pub ScriptAt : Stage → Ending → Type 0
ScriptAt at_words e = ⊤
ScriptAt at_plan e = ⊤
ScriptAt at_verdict e = ⊤
ScriptAt at_made e = ⊤
ScriptAt at_script e = NamesScript e.call × ((line : ℕ) → e.status ≡ ScriptRefused line → IsNoStepAt e.call line)
ScriptAt (at_opening count) e = first_file e.call ≤ count + 1 → IsScriptRead e.call
ScriptAt in_run e = IsScriptRead e.call × ((n : ℕ) → e.status ≡ ReadFault n → first_file e.call ≤ n)
ScriptAt at_end e = IsScriptRead e.call

-- ---- the ending

-- The call came so far: the files of the first operands were opened, in order and no others; of the names of operands that were not
-- tried nothing changed; it came past the plan only where there is something to run, and past the script only where its lines are
-- steps; and this is what it left
pub record EndsAt (InRun : Ending → Type 0) (stage : Stage) (e : Ending) : Type 0 where
  pub comes : ComesAt e.status stage
  pub opened_first : OpensFirst (opened_at stage e.call) e.call.names e.call.folder e.after
  pub others_stay : StayOutside (take (tried_at stage e.call) e.call.names) e.call.folder e.after
  pub built : IsPastPlan stage → IsBuilt e.call
  pub script : ScriptAt stage e
  pub left : LeavesBy InRun stage e

-- it came to some stage, and left what is left there
abbrev pub EndsBy : (Ending → Type 0) → Ending → Type 0
EndsBy InRun e = (stage : Stage) × EndsAt InRun stage e
