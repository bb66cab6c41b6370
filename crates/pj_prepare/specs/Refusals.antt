-- What words, plan and number of files refuse, and why there is no plan to run.
use Rattle.std.specs.Prelude.{ℕ, ◌^◌, ◌-◌, ◌<◌, ◌≤◌, ◌≡◌, ◌≢◌, ◌⊎◌, true, ⊤, min, List, [], ◌∷◌, ◌++◌, Option, Some, None, Result, Ok, Err, IsTrue, length}
use Rattle.pj_io.specs.Folders.{RoseAt, SameEverywhere}
use Rattle.pj_io.specs.States.{FolderState}
use Rattle.pj_plan.specs.declared.fault.PlanFault.{PlanFault}
use Rattle.pj_plan.specs.declared.node.Outline.{Outline}
use Rattle.pj_plan.specs.Nodes.{streams_of}
use Rattle.pj_plan_text.specs.PlanRead.{plan_read}
use Rattle.pj_report.specs.declared.status.Status.{Status}
use Rattle.pj_report.specs.declared.status.Status.TheVariants.{Done, Usage, OpenFault, ReadFault, PlanRefused, FileCount, Unsafe, ScriptRefused, WriteFault, NoMemory, Limit}
use Rattle.pj_report.specs.declared.status.LimitOf.TheVariants.{Plan}
use Rattle.pj_prepare.specs.declared.stops.FileStop.{FileStop}
use Rattle.pj_prepare.specs.declared.stops.FileStop.TheVariants.{OpenFault, ReadFault, TooLong, NoMemory as FileMemory}
use Rattle.pj_prepare.specs.declared.stops.PlanStop.{PlanStop}
use Rattle.pj_prepare.specs.declared.stops.PlanStop.TheVariants.{File, Refused, FileCount as OtherCount, Unsafe as Stuck, NoMemory as PlanMemory}
use Rattle.pj_prepare.specs.Calls.{behind_first, is_nothing, leading, running, takes_plan, Call, HasToldPlan, files_asked, file_names, operand, plan_bytes}
use Rattle.pj_feed.specs.Opened.{OpensFirst}
use Rattle.pj_safety.specs.Safety.{IsFirstRisk}
use Rattle.pj_judge.specs.Judgments.{AreUnsafeLines, HasUnsafeLines}

-- ---- what is refused

-- a count stops at the greatest number of 32 bits
abbrev pub counted_files : ℕ → ℕ
counted_files n = min n (2 ^ 32 - 1)

-- the plan has a stream for each of so many files, where that is asked
abbrev pub HasStreams : Option ℕ → Outline → Type 0
HasStreams None plan = ⊤
HasStreams (Some files) plan = length (streams_of plan.nodes) ≡ files

-- What a plan without fault is refused with, where there are so many files: it has another number of streams, if that is asked; or
-- else a node of it is not safe, and these are the first such node and its risk
abbrev pub RefusesPlan : Status → Option ℕ → Outline → Type 0
RefusesPlan (FileCount want got) None plan = ⊥
RefusesPlan (FileCount want got) (Some files) plan =
    (length (streams_of plan.nodes) ≢ files) × (want ≡ length (streams_of plan.nodes)) × (got ≡ counted_files files)
RefusesPlan (Unsafe node risk) files plan = HasStreams files plan × IsFirstRisk plan.nodes node risk
RefusesPlan Done files plan = ⊥
RefusesPlan Usage files plan = ⊥
RefusesPlan (PlanRefused line why) files plan = ⊥
RefusesPlan (ScriptRefused line) files plan = ⊥
RefusesPlan (OpenFault operand) files plan = ⊥
RefusesPlan (ReadFault operand) files plan = ⊥
RefusesPlan WriteFault files plan = ⊥
RefusesPlan NoMemory files plan = ⊥
RefusesPlan (Limit what) files plan = ⊥

-- a plan with a fault is refused with its first
abbrev pub RefusesRead : Status → Option ℕ → Result Outline PlanFault → Type 0
RefusesRead status files (Ok plan) = RefusesPlan status files plan
RefusesRead status files (Err fault) = status ≡ PlanRefused fault.line fault.why

-- a file of more than 1,048,576 bytes is too long for a plan
abbrev pub RefusesBytes : Status → Option ℕ → List ℕ → Type 0
RefusesBytes status files bytes =
    ((1048576 < length bytes) × (status ≡ Limit Plan)) ⊎ ((length bytes ≤ 1048576) × RefusesRead status files (plan_read bytes))

-- what words, plan and number of files are refused with, whichever is asked first
abbrev pub Refuses : Call → Status → Type 0
Refuses call status =
    ((is_nothing call.task ≡ true) × (status ≡ Usage))
    ⊎ ((takes_plan call.task ≡ true) × RefusesBytes status (files_asked call) (plan_bytes call))

-- what is asked for names a plan, and where that is told it is refused so
abbrev pub IsRefused : Call → Status → Type 0
IsRefused call status = (takes_plan call.task ≡ true) × (HasToldPlan call → Refuses call status)

-- ---- why there is no plan to run

-- a plan without fault is refused so, where it is to have a stream for each of so many files
abbrev pub PlanUnfit : PlanStop → Option ℕ → Outline → Type 0
PlanUnfit (File stop) files plan = ⊥
PlanUnfit (Refused fault) files plan = ⊥
PlanUnfit (OtherCount want got) files plan = RefusesPlan (FileCount want got) files plan
PlanUnfit (Stuck found) None plan = ⊥
PlanUnfit (Stuck found) (Some files) plan =
    RefusesPlan (Unsafe found.node found.risk) (Some files) plan × AreUnsafeLines plan.nodes found.node found.risk found.lines
PlanUnfit PlanMemory files plan = ⊤

-- the lines of an unsafe plan are such as spell no element
abbrev pub HasLines : PlanStop → Type 0
HasLines (Stuck found) = HasUnsafeLines found
HasLines (File stop) = ⊤
HasLines (Refused fault) = ⊤
HasLines (OtherCount want got) = ⊤
HasLines PlanMemory = ⊤

-- the bytes spell a plan without fault, which is refused so
abbrev pub ReadUnfit : PlanStop → Option ℕ → List ℕ → Type 0
ReadUnfit stop files bytes = (plan : Outline) × (plan_read bytes ≡ Ok plan) × PlanUnfit stop files plan

-- the bytes of a plan's file, which are not too many, are refused so, where there are so many files
abbrev pub BytesRefused : PlanStop → Option ℕ → List ℕ → Type 0
BytesRefused (File stop) files bytes = ⊥
BytesRefused (Refused fault) files bytes = plan_read bytes ≡ Err fault
BytesRefused (OtherCount want got) files bytes = ReadUnfit (OtherCount want got) files bytes
BytesRefused (Stuck found) files bytes = ReadUnfit (Stuck found) files bytes
BytesRefused PlanMemory files bytes = ⊤

-- why the file of this name was not read: its faults rose, at its opening or later, or it is too long
abbrev pub FileCause : FileStop → List ℕ → FolderState → FolderState → Type 0
FileCause OpenFault name old new = RoseAt name old.faults new.faults
FileCause ReadFault name old new = RoseAt name old.faults new.faults
FileCause TooLong name old new = IsTrue (old.told name) → 1048576 < length (old.contents name)
FileCause FileMemory name old new = ⊤

-- no file was opened under this name and none closed; or one was opened
abbrev pub FileOpens : FileStop → List ℕ → FolderState → FolderState → Type 0
FileOpens OpenFault name old new = OpensFirst 0 (name ∷ []) old new × SameEverywhere old.last new.last
FileOpens ReadFault name old new = OpensFirst 1 (name ∷ []) old new
FileOpens TooLong name old new = OpensFirst 1 (name ∷ []) old new
FileOpens FileMemory name old new = ⊤

-- the file of this name was opened, and where it is told its bytes, which are not too many, have this fault
abbrev pub OpenedWithFault : PlanFault → List ℕ → FolderState → FolderState → Type 0
OpenedWithFault fault name old new =
    OpensFirst 1 (name ∷ []) old new × (IsTrue (old.told name) → (length (old.contents name) ≤ 1048576) × (plan_read (old.contents name) ≡ Err fault))

-- the file of this name was opened, and a plan was read that is refused so; where the file is told it is the plan that its bytes spell
abbrev pub OpenedAndUnfit : PlanStop → Option ℕ → List ℕ → FolderState → FolderState → Type 0
OpenedAndUnfit stop files name old new =
    OpensFirst 1 (name ∷ []) old new × (plan : Outline) × PlanUnfit stop files plan
    × (IsTrue (old.told name) → (length (old.contents name) ≤ 1048576) × (plan_read (old.contents name) ≡ Ok plan))

-- why there is no plan in the file of this name for so many files
abbrev pub PlanCause : PlanStop → Option ℕ → List ℕ → FolderState → FolderState → Type 0
PlanCause (File OpenFault) files name old new = OpensFirst 0 (name ∷ []) old new × RoseAt name old.faults new.faults × SameEverywhere old.last new.last
PlanCause (File ReadFault) files name old new = OpensFirst 1 (name ∷ []) old new × RoseAt name old.faults new.faults
PlanCause (File TooLong) files name old new = OpensFirst 1 (name ∷ []) old new × (IsTrue (old.told name) → 1048576 < length (old.contents name))
PlanCause (File FileMemory) files name old new = ⊤
PlanCause (Refused fault) files name old new = OpenedWithFault fault name old new
PlanCause (OtherCount want got) files name old new = OpenedAndUnfit (OtherCount want got) files name old new
PlanCause (Stuck found) files name old new = OpenedAndUnfit (Stuck found) files name old new × HasUnsafeLines found
PlanCause PlanMemory files name old new = ⊤

-- a call is a run, and names the plan's file, that of a script, if there is one, and then the streams'
pub record IsRun (call : Call) : Type 0 where
  pub form : call.task ≡ running
  pub named : call.names ≡ leading (operand call.names 1) call.script ++ file_names call

-- a call names a plan's file first
pub record HasPlan (call : Call) : Type 0 where
  pub takes : takes_plan call.task ≡ true
  pub named : call.names ≡ operand call.names 1 ∷ behind_first call.names

-- it names a plan's file, which has no plan for it, for this cause
abbrev pub CallUnfit : PlanStop → Call → FolderState → Type 0
CallUnfit stop call after = HasPlan call × PlanCause stop (files_asked call) (operand call.names 1) call.folder after

-- why a call has no plan: it names a file with no such plan; or memory was wanting, maybe before the file was opened
abbrev pub Unprepared : PlanStop → Call → FolderState → Type 0
Unprepared (File stop) call after = CallUnfit (File stop) call after
Unprepared (Refused fault) call after = CallUnfit (Refused fault) call after
Unprepared (OtherCount want got) call after = CallUnfit (OtherCount want got) call after
Unprepared (Stuck found) call after = CallUnfit (Stuck found) call after
Unprepared PlanMemory call after = HasPlan call ⊎ (after ≡ call.folder)
