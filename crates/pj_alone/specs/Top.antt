-- What is so of a run that is done and of what was written, and when each status comes.
use Rattle.std.specs.Prelude.{◌≡◌, ◌<◌, ◌≤◌, ◌+◌, ◌^◌, ℕ, ◌⊎◌, ⊤, List, [], ◌++◌, length, Option, Some, None, IsTrue}
use Rattle.pj_plan.specs.declared.node.Outline.{Outline}
use Rattle.pj_plan.specs.Nodes.{streams_of}
use Rattle.pj_safety.specs.Safety.{IsSafePlan}
use Rattle.pj_io.specs.Causes.{Rose}
use Rattle.pj_io.specs.States.{FolderState, SinkState}
use Rattle.pj_pattern.specs.declared.element.Element.{Element}
use Rattle.pj_pattern.specs.Elements.{IsLawful}
use Rattle.pj_events.specs.declared.events.Out.{Out}
use Rattle.pj_events.specs.Outcomes.{elements_out}
use Rattle.pj_report.specs.declared.status.Status.{Status}
use Rattle.pj_report.specs.declared.status.Status.TheVariants.{OpenFault, ReadFault, ScriptRefused, NoMemory, Limit}
use Rattle.pj_report.specs.declared.status.LimitOf.TheVariants.{Script}
use Rattle.pj_prepare.specs.Calls.{nothing, running, checking, making, Task, Call, first_file, job_of, leading, script_fault, IsTold, HasToldJob, HasToldPlan, operand, file_names, plan_bytes, stream_files}
use Rattle.pj_feed.specs.Named.{AreTold}
use Rattle.pj_feed.specs.Opened.{OpensFirst}
use Rattle.pj_prepare.specs.Plans.{plan_of}
use Rattle.pj_prepare.specs.Refusals.{Refuses}
use Rattle.pj_report.specs.Forms.{form_lines}
use Rattle.pj_files.specs.Staying.{StaysRight}
use Rattle.pj_run.specs.Jobs.{Job}
use Rattle.pj_run.specs.Runs.{history_of, outs_of, refused_line, run_lines, GoesBeyond, IsEnabled, StaysInLimit}
use Rattle.pj_report.specs.Written.{flat, Spells}

-- ---- a run that is done

-- Where the call and the sink are told: the run, whose script has no step that is not enabled, wrote the lines of what it handed out and
-- a report, and this holds of its outputs
abbrev pub Ran : (Job → List (List ℕ) → List Element → List (List ℕ) → Type 0) → Call → SinkState → SinkState → Type 0
Ran Holds call old new =
    IsTold call → IsTrue new.told → (job : Job) × (outs : List Out) × (report : List (List ℕ)) × (job_of call ≡ Some job)
    × IsEnabled job (stream_files call) × (outs ≡ outs_of job (stream_files call)) × (new.written ≡ old.written ++ flat (form_lines job.form job.nodes outs ++ report)) × Holds job (stream_files call) (elements_out outs) report

-- Where the call and the sink are told: the bytes are those of the run on one thread, or of the script's, and of its report
abbrev pub OneThreadBytes : Call → SinkState → SinkState → Type 0
OneThreadBytes call old new =
    IsTold call → IsTrue new.told → (job : Job) × (job_of call ≡ Some job) × (new.written ≡ old.written ++ flat (run_lines job (stream_files call)))

-- ---- something to run

-- the bytes are few enough and spell a safe plan of this many streams
abbrev pub IsPlanOf : ℕ → List ℕ → Type 0
IsPlanOf streams bytes = (length bytes ≤ 1048576) × ((plan : Outline) × (plan_of bytes ≡ Some plan) × (length (streams_of plan.nodes) ≡ streams) × IsSafePlan plan.nodes)

-- there is something to run, as far as words and plan tell: the operands are the plan, a script, if there is one, and the files, and the
-- plan has a stream for each file
pub record IsBuilt (call : Call) : Type 0 where
  pub form : call.task ≡ running
  pub named : call.names ≡ leading (operand call.names 1) call.script ++ file_names call
  pub plan : HasToldPlan call → IsPlanOf (length (file_names call)) (plan_bytes call)

-- the bytes are few enough and spell a safe plan
abbrev pub IsSafeText : List ℕ → Type 0
IsSafeText bytes = (length bytes ≤ 1048576) × ((plan : Outline) × (plan_of bytes ≡ Some plan) × IsSafePlan plan.nodes)

-- nothing is refused of what is asked for: there is something to run; or the plan that is to be checked, where it is told, is safe; or
-- an input is made
abbrev pub IsFit : Task → Call → Type 0
IsFit nothing call = ⊥
IsFit running call = IsBuilt call
IsFit (checking print) call = HasToldPlan call → IsSafeText (plan_bytes call)
IsFit (making seed count) call = ⊤

-- Where plan and script are told: each line of the script is a step, of few enough bytes in all, and where the files are told too, each
-- is enabled as the run comes to it; nothing is asked where there is no script
abbrev pub CanPlay : Option (List ℕ) → Call → Type 0
CanPlay None call = ⊤
CanPlay (Some name) call =
    HasToldJob call → (length (call.folder.contents name) ≤ 1048576)
    × ((job : Job) × (job_of call ≡ Some job) × (script_fault call job.nodes ≡ None) × (AreTold (file_names call) call.folder → IsEnabled job (stream_files call)))

abbrev pub IsPlayable : Call → Type 0
IsPlayable call = CanPlay call.script call

-- where the call is told: no entry of the history that it runs brings an element beyond its limit
abbrev pub KeepsLimit : Task → Call → Type 0
KeepsLimit nothing call = ⊤
KeepsLimit running call = IsTold call → (job : Job) × (job_of call ≡ Some job) × StaysInLimit job (stream_files call)
KeepsLimit (checking print) call = ⊤
KeepsLimit (making seed count) call = ⊤

-- ---- what was written stays right

-- where the call and the sink are told: what was written spells lawful outputs, and there are none or they stay right
abbrev pub NeverRetracted : Call → SinkState → SinkState → Type 0
NeverRetracted call old new =
    IsTold call → IsTrue new.told → (bytes : List ℕ) × (new.written ≡ old.written ++ bytes) × (outputs : List Element) × Spells bytes outputs
    × IsLawful outputs × ((outputs ≡ []) ⊎ ((job : Job) × (job_of call ≡ Some job) × StaysRight job (history_of job (stream_files call)) outputs))

-- ---- causes

-- there is something to run, and a limit is gone beyond at this node, to which more elements come than may
pub record BeyondLimit (call : Call) (node : ℕ) : Type 0 where
  pub built : IsBuilt call
  pub beyond : IsTold call → (job : Job) × (job_of call ≡ Some job) × GoesBeyond job (stream_files call) node

-- there is something to run, and such a stream; where its file is told, that gave as many bytes as may be and had not ended
pub record IsTooLarge (call : Call) (stream : ℕ) : Type 0 where
  pub built : IsBuilt call
  pub there : stream < length (file_names call)
  pub bytes : IsTrue (call.folder.told (operand call.names (first_file call + stream)))
      → 2 ^ 40 ≤ length (call.folder.contents (operand call.names (first_file call + stream)))

-- a write failed where nothing was refused
abbrev pub WriteFails : Call → SinkState → SinkState → Type 0
WriteFails call first now = Rose first.faults now.faults × IsFit call.task call

-- this line of the script is no step, and none before it; or all lines are steps, and the step on this one is not enabled as the run
-- comes to it, and none before it
abbrev pub RefusesLine : Call → Job → ℕ → Type 0
RefusesLine call job line =
    (script_fault call job.nodes ≡ Some line)
    ⊎ ((script_fault call job.nodes ≡ None) × (AreTold (file_names call) call.folder → refused_line job (stream_files call) ≡ Some line))

-- there is something to run, and a script, which is refused at this line
pub record IsLineRefused (call : Call) (line : ℕ) : Type 0 where
  pub built : IsBuilt call
  pub name : List ℕ
  pub scripted : call.script ≡ Some name
  pub refuses : HasToldJob call → (job : Job) × (job_of call ≡ Some job) × RefusesLine call job line

-- there is something to run, and a script, which has too many bytes
pub record IsScriptTooLong (call : Call) : Type 0 where
  pub built : IsBuilt call
  pub name : List ℕ
  pub scripted : call.script ≡ Some name
  pub long : IsTrue (call.folder.told name) → 1048576 < length (call.folder.contents name)

-- what the bytes of a script are refused with before anything is run: they are too many, or a line is no step
abbrev pub RefusesScript : Call → List ℕ → Status → Type 0
RefusesScript call bytes status =
    ((1048576 < length bytes) × (status ≡ Limit Script))
    ⊎ ((length bytes ≤ 1048576) × ((job : Job) × (line : ℕ) × (job_of call ≡ Some job) × (script_fault call job.nodes ≡ Some line) × (status ≡ ScriptRefused line)))

-- where there is something to run, plan and script are told, and the script's bytes are refused, the call answers that, unless memory ran
-- out or one of their files failed
abbrev pub AnswersScript : Status → Call → Type 0
AnswersScript answer call =
    IsBuilt call → HasToldJob call → (name : List ℕ) → call.script ≡ Some name → (status : Status) → RefusesScript call (call.folder.contents name) status
    → (answer ≡ status) ⊎ (answer ≡ NoMemory) ⊎ ((n : ℕ) × (n ≤ 2) × ((answer ≡ OpenFault n) ⊎ (answer ≡ ReadFault n)))

-- the faults of this operand rose; what stands behind the plan is read only where there is something to run
pub record HasFault (call : Call) (after : FolderState) (n : ℕ) : Type 0 where
  pub first : 1 ≤ n
  pub last : n ≤ length call.names
  pub rose : Rose (call.folder.faults (operand call.names n)) (after.faults (operand call.names n))
  pub later : 1 < n → IsBuilt call

-- the faults of this operand rose, and files were opened under the names of those before it alone
pub record IsUnopened (call : Call) (after : FolderState) (n : ℕ) : Type 0 where
  pub fault : HasFault call after n
  pub before : ℕ
  pub number : before + 1 ≡ n
  pub opened : OpensFirst before call.names call.folder after

-- where words, plan or number of files are refused, and the plan is told, the call answers that, unless memory ran out or the plan's file failed
abbrev pub AnswersRefusal : Status → Call → Type 0
AnswersRefusal answer call =
    HasToldPlan call → (status : Status) → Refuses call status → (answer ≡ status) ⊎ (answer ≡ NoMemory) ⊎ (answer ≡ OpenFault 1) ⊎ (answer ≡ ReadFault 1)
