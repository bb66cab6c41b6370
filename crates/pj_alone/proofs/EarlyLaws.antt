-- A call that has no plan to run: what is opened and written, and why.
use Rattle.std.proofs.Common.{◌≡◌, ◌≤◌, ◌<◌, ℕ, zero, suc, true, inl, inr, List, [], ◌∷◌, length, take, slice_index_or, Option, Some, None, Result, Ok, Err, refl, ap, ap₂, sym, ◌∙◌, subst, arith}
use Rattle.std.proofs.lemmas.Bool.{false≢true}
use Rattle.pj_io.specs.Causes.{Rose}
use Rattle.pj_io.specs.States.{FolderState, SinkState}
use Rattle.pj_plan.specs.declared.fault.PlanFault.{PlanFault}
use Rattle.pj_plan.specs.declared.fault.PlanWhy.{PlanWhy}
use Rattle.pj_plan.specs.declared.node.PlanNode.{PlanNode}
use Rattle.pj_plan.specs.declared.node.Outline.{Outline}
use Rattle.pj_plan_text.specs.PlanRead.{plan_read}
use Rattle.pj_safety.specs.declared.risk.PlanRisk.{PlanRisk}
use Rattle.pj_safety.specs.Safety.{IsFirstRisk, IsSafePlan}
use Rattle.pj_safety.proofs.Risks.{risk_is_alone, risk_is_unsafe}
use Rattle.pj_report.specs.declared.status.Status.{Status}
use Rattle.pj_report.specs.declared.status.Status.TheVariants.{Done, Usage, OpenFault, ReadFault, PlanRefused, FileCount, Unsafe, ScriptRefused, WriteFault, NoMemory, Limit}
use Rattle.pj_report.specs.declared.status.LimitOf.TheVariants.{Plan, Script, Node, File}
use Rattle.pj_run.specs.declared.stops.FilesStop.{FilesStop}
use Rattle.pj_run.specs.declared.stops.FilesStop.TheVariants.{Opening, Run}
use Rattle.pj_feed.specs.declared.stops.OpeningStop.TheVariants.{Fault, NoMemory as OpeningMemory}
use Rattle.pj_run.specs.declared.stops.RunStop.TheVariants.{ReadFault as RunFault, TooLarge, Limit as RunLimit, Refused as RunRefused, WriteFailed, NoMemory as RunMemory, Cut as RunCut, CutRead, CutLarge, CutRefused}
use Rattle.pj_events.specs.declared.events.Stop.TheVariants.{Limit as CoreLimit, NoMemory as CoreMemory}
use Rattle.pj_prepare.specs.declared.stops.FileStop.TheVariants.{OpenFault as NotOpened, ReadFault as NotRead, TooLong, NoMemory as FileMemory}
use Rattle.pj_prepare.specs.declared.stops.PlanStop.{PlanStop}
use Rattle.pj_prepare.specs.declared.stops.PlanStop.TheVariants.{File as PlanFile, Refused, FileCount as OtherCount, Unsafe as Stuck, NoMemory as PlanMemory}
use Rattle.pj_prepare.specs.Calls.{first_by, nothing, running, checking, making, is_nothing, takes_plan, Task, Call, HasToldPlan, operand, file_names, files_asked, files_for, plan_bytes}
use Rattle.pj_prepare.specs.Plans.{plan_of}
use Rattle.pj_feed.specs.Opened.{OpensFirst, OpensAtMost, StayOutside}
use Rattle.pj_judge.specs.declared.safety.Unsafe.{Unsafe as Found}
use Rattle.pj_judge.specs.Judgments.{AreUnsafeLines}
use Rattle.pj_prepare.specs.Refusals.{HasLines, HasPlan, HasStreams, PlanUnfit, IsRefused, Refuses, RefusesBytes, RefusesPlan, RefusesRead, Unprepared}
use Rattle.pj_prepare.specs.Stops.{plan_status, refusal_text}
use Rattle.pj_run.specs.Stops.{files_status}
use Rattle.pj_alone.specs.Endings.{at_words, at_plan, at_opening, ending_of, ComesAt, EarlyLeaves, Ending, EndsBy, KeepsLast}
use Rattle.pj_alone.specs.Top.{AnswersRefusal, AnswersScript, HasFault, IsBuilt, IsFit, IsUnopened}
use Rattle.pj_report.specs.Report.{status_line}
use Rattle.pj_report.specs.Written.{Delivered}
use Rattle.pj_prepare.proofs.Refusing.{read_as}

-- ---- how far the call came

none_opened : (names : List (List ℕ)) (folder : FolderState) → OpensFirst 0 names folder folder
none_opened names folder name = (λ t. inl t, λ t. elim t [ inl was ↦ was | inr none ↦ absurd none ])

all_stay : (names : List (List ℕ)) (folder : FolderState) → StayOutside names folder folder
all_stay names folder = record { faults = λ name other. refl; last = λ name other. refl }

-- an unsafe plan is refused with its lines where it is to be run
stuck_of : (found : Found) (files : Option ℕ) (plan : Outline) → PlanUnfit (Stuck found) files plan → RefusesPlan (Unsafe found.node found.risk) files plan × AreUnsafeLines plan.nodes found.node found.risk found.lines
stuck_of found None plan u = absurd u
stuck_of found (Some files) plan u = u

stuck_runs : (call : Call) (found : Found) (plan : Outline) → PlanUnfit (Stuck found) (files_asked call) plan → call.task ≡ running
stuck_runs call found plan u = go call.task refl u
  where
    go : (task : Task) → call.task ≡ task → PlanUnfit (Stuck found) (files_for task (length (file_names call))) plan → call.task ≡ running
    go nothing is unfit = absurd unfit
    go running is unfit = is
    go (checking print) is unfit = absurd unfit
    go (making seed count) is unfit = absurd unfit

-- the streams' files stand behind the plan
first_some : (script : Option (List ℕ)) → 2 ≤ first_by script
first_some None = omega arith
first_some (Some name) = omega arith

-- nothing was done, and the status' line was written
pub ended_at_words : (InRun : Ending → Type 0) (call : Call) (status : Status) (new : FolderState) (first after : SinkState) → ComesAt status at_words → new ≡ call.folder → EarlyLeaves status call first after → EndsBy InRun (ending_of call status new first after)
ended_at_words InRun call status new first after comes same left = (
  at_words,
  record {
    comes = comes;
    opened_first = subst (OpensFirst 0 call.names call.folder) (sym same) (none_opened call.names call.folder);
    others_stay = subst (StayOutside (take 0 call.names) call.folder) (sym same) (all_stay (take 0 call.names) call.folder);
    built = λ past. absurd past;
    script = tt;
    left = left;
  },
)

module _ (InRun : Ending → Type 0) (call : Call) (new : FolderState) (first after : SinkState) (stay : StayOutside (take 1 call.names) call.folder new) where
  -- the plan's file was opened
  ended_at_plan : (status : Status) → ComesAt status at_plan → OpensFirst 1 call.names call.folder new → EarlyLeaves status call first after → EndsBy InRun (ending_of call status new first after)
  ended_at_plan status comes opened left = (
    at_plan,
    record {
      comes = comes;
      opened_first = opened;
      others_stay = stay;
      built = λ past. absurd past;
      script = tt;
      left = left;
    },
  )

  -- it was not
  ended_before_plan : (status : Status) → ComesAt status (at_opening 0) → OpensFirst 0 call.names call.folder new → EarlyLeaves status call first after
      → KeepsLast 0 (ending_of call status new first after) → EndsBy InRun (ending_of call status new first after)
  ended_before_plan status comes opened left keeps = (
    at_opening 0,
    record {
      comes = comes;
      opened_first = opened;
      others_stay = stay;
      built = λ past. absurd (omega (arith, past));
      script = λ past. let two = first_some call.script in absurd (omega (arith, past, two));
      left = (left, keeps);
    },
  )

  first_alone : HasPlan call → OpensFirst 1 (operand call.names 1 ∷ []) call.folder new → OpensFirst 1 call.names call.folder new
  first_alone run opened = subst (λ (ns : List (List ℕ)). OpensFirst 1 ns call.folder new) (sym run.named) opened

  -- memory was wanting, before the plan's file was opened or behind
  memory_ended : (count : ℕ) → count ≤ 1 → OpensFirst count call.names call.folder new → Delivered (status_line [] NoMemory) first after → EndsBy InRun (ending_of call NoMemory new first after)
  memory_ended zero most opened line = ended_before_plan NoMemory tt opened line (λ told t n is alone. absurd (cc))
  memory_ended (suc zero) most opened line = ended_at_plan NoMemory tt opened line
  memory_ended (suc (suc n)) most opened line = absurd (omega (arith, most))

  pub ended_early : (stop : PlanStop) → OpensAtMost 1 call.names call.folder new → Unprepared stop call new → Delivered (refusal_text stop) first after → EndsBy InRun (ending_of call (plan_status stop) new first after)
  ended_early (PlanFile NotOpened) most u line = ended_before_plan (OpenFault 1) (0, refl, refl) u.1.0 line (λ told t n is alone. u.1.2 (slice_index_or call.names 0 []))
  ended_early (PlanFile NotRead) most u line = ended_at_plan (ReadFault 1) (inl (refl, refl)) (first_alone u.0 u.1.0) line
  ended_early (PlanFile TooLong) most u line = ended_at_plan (Limit Plan) refl (first_alone u.0 u.1.0) line
  ended_early (PlanFile FileMemory) most u line = memory_ended most.0 most.1 most.2 line
  ended_early (Refused fault) most u line = ended_at_plan (PlanRefused fault.line fault.why) refl (first_alone u.0 u.1.0) line
  ended_early (OtherCount want got) most u line = ended_at_plan (FileCount want got) refl (first_alone u.0 u.1.0) line
  ended_early (Stuck found) most u line =
      ended_at_plan (Unsafe found.node found.risk) (inl refl) (first_alone u.0 u.1.0.0) (stuck_runs call found u.1.0.1 u.1.0.2, u.1.0.1, found.lines, λ told. (u.1.0.3 told).1, (stuck_of found (files_asked call) u.1.0.1 u.1.0.2).1, line)
  ended_early PlanMemory most (inl run) line = memory_ended most.0 most.1 most.2 line
  ended_early PlanMemory most (inr same) line = ended_at_words InRun call NoMemory new first after tt same line

-- ---- causes

module _ (call : Call) (new : FolderState) where
  some_operands : HasPlan call → 1 ≤ length call.names
  some_operands run = let e = ap length run.named in omega (arith, e)

  first_fault : HasPlan call → Rose (call.folder.faults (operand call.names 1)) (new.faults (operand call.names 1)) → HasFault call new 1
  first_fault run rose = record { first = omega arith; last = some_operands run; rose = rose; later = λ more. absurd (omega (arith, more)) }

  pub fault_early : (stop : PlanStop) (n : ℕ) → Unprepared stop call new → plan_status stop ≡ ReadFault n → HasFault call new n
  fault_early (PlanFile NotOpened) n u e = absurd (cc)
  fault_early (PlanFile NotRead) n u e = let same : 1 ≡ n = cc e in subst (HasFault call new) same (first_fault u.0 u.1.1)
  fault_early (PlanFile TooLong) n u e = absurd (cc)
  fault_early (PlanFile FileMemory) n u e = absurd (cc)
  fault_early (Refused fault) n u e = absurd (cc)
  fault_early (OtherCount want got) n u e = absurd (cc)
  fault_early (Stuck found) n u e = absurd (cc)
  fault_early PlanMemory n u e = absurd (cc)

  pub unopened_early : (stop : PlanStop) (n : ℕ) → Unprepared stop call new → plan_status stop ≡ OpenFault n → IsUnopened call new n
  unopened_early (PlanFile NotOpened) n u e =
      let same : 1 ≡ n = cc e in
      subst (IsUnopened call new) same (record { fault = first_fault u.0 u.1.1; before = 0; number = refl; opened = u.1.0 })
  unopened_early (PlanFile NotRead) n u e = absurd (cc)
  unopened_early (PlanFile TooLong) n u e = absurd (cc)
  unopened_early (PlanFile FileMemory) n u e = absurd (cc)
  unopened_early (Refused fault) n u e = absurd (cc)
  unopened_early (OtherCount want got) n u e = absurd (cc)
  unopened_early (Stuck found) n u e = absurd (cc)
  unopened_early PlanMemory n u e = absurd (cc)

-- the lines of an unsafe plan spell no element
pub early_lines : (stop : PlanStop) (call : Call) (after : FolderState) → Unprepared stop call after → HasLines stop
early_lines (PlanFile stop) call after u = tt
early_lines (Refused fault) call after u = tt
early_lines (OtherCount want got) call after u = tt
early_lines (Stuck found) call after u = u.1.1
early_lines PlanMemory call after u = tt

-- ---- what is refused is refused with one status

-- a plan has one first node at a risk alone
same_risk : (nodes : List PlanNode) (node other : ℕ) (risk own : PlanRisk) → IsFirstRisk nodes node risk → IsFirstRisk nodes other own → Unsafe node risk ≡ Unsafe other own
same_risk nodes node other risk own f g = let same = risk_is_alone nodes node other risk own f g in ap₂ Unsafe same.0 same.1

module _ (plan : Outline) where
  count_alone : (files : Option ℕ) (want got : ℕ) (other : Status) → RefusesPlan (FileCount want got) files plan → RefusesPlan other files plan → FileCount want got ≡ other
  count_alone None want got other a b = absurd a
  count_alone (Some files) want got Done a b = absurd b
  count_alone (Some files) want got Usage a b = absurd b
  count_alone (Some files) want got (PlanRefused line why) a b = absurd b
  count_alone (Some files) want got (FileCount w g) a b = ap₂ FileCount (a.1 ∙ sym b.1) (a.2 ∙ sym b.2)
  count_alone (Some files) want got (Unsafe node risk) a b = absurd (a.0 b.0)
  count_alone (Some files) want got (ScriptRefused line) a b = absurd b
  count_alone (Some files) want got (OpenFault n) a b = absurd b
  count_alone (Some files) want got (ReadFault n) a b = absurd b
  count_alone (Some files) want got WriteFault a b = absurd b
  count_alone (Some files) want got NoMemory a b = absurd b
  count_alone (Some files) want got (Limit what) a b = absurd b

  -- a plan with a stream for each file is not refused for their number
  never_count : (files : Option ℕ) (want got : ℕ) → HasStreams files plan → RefusesPlan (FileCount want got) files plan → ⊥
  never_count None want got each a = a
  never_count (Some files) want got each a = a.0 each

  unsafe_alone : (files : Option ℕ) (node : ℕ) (risk : PlanRisk) (other : Status) → RefusesPlan (Unsafe node risk) files plan → RefusesPlan other files plan → Unsafe node risk ≡ other
  unsafe_alone files node risk Done a b = absurd b
  unsafe_alone files node risk Usage a b = absurd b
  unsafe_alone files node risk (PlanRefused line why) a b = absurd b
  unsafe_alone files node risk (FileCount w g) a b = absurd (never_count files w g a.0 b)
  unsafe_alone files node risk (Unsafe n own) a b = same_risk plan.nodes node n risk own a.1 b.1
  unsafe_alone files node risk (ScriptRefused line) a b = absurd b
  unsafe_alone files node risk (OpenFault n) a b = absurd b
  unsafe_alone files node risk (ReadFault n) a b = absurd b
  unsafe_alone files node risk WriteFault a b = absurd b
  unsafe_alone files node risk NoMemory a b = absurd b
  unsafe_alone files node risk (Limit what) a b = absurd b

  plan_alone : (files : Option ℕ) (one other : Status) → RefusesPlan one files plan → RefusesPlan other files plan → one ≡ other
  plan_alone files Done other a b = absurd a
  plan_alone files Usage other a b = absurd a
  plan_alone files (PlanRefused line why) other a b = absurd a
  plan_alone files (FileCount want got) other a b = count_alone files want got other a b
  plan_alone files (Unsafe node risk) other a b = unsafe_alone files node risk other a b
  plan_alone files (ScriptRefused line) other a b = absurd a
  plan_alone files (OpenFault n) other a b = absurd a
  plan_alone files (ReadFault n) other a b = absurd a
  plan_alone files WriteFault other a b = absurd a
  plan_alone files NoMemory other a b = absurd a
  plan_alone files (Limit what) other a b = absurd a

  -- a safe plan with a stream for each file is not refused
  never_fit : (files : Option ℕ) (status : Status) → HasStreams files plan → IsSafePlan plan.nodes → RefusesPlan status files plan → ⊥
  never_fit files Done each safe a = a
  never_fit files Usage each safe a = a
  never_fit files (PlanRefused line why) each safe a = a
  never_fit files (FileCount want got) each safe a = never_count files want got each a
  never_fit files (Unsafe node risk) each safe a = risk_is_unsafe plan.nodes node risk a.1 safe
  never_fit files (ScriptRefused line) each safe a = a
  never_fit files (OpenFault n) each safe a = a
  never_fit files (ReadFault n) each safe a = a
  never_fit files WriteFault each safe a = a
  never_fit files NoMemory each safe a = a
  never_fit files (Limit what) each safe a = a

read_alone : (files : Option ℕ) (result : Result Outline PlanFault) (one other : Status) → RefusesRead one files result → RefusesRead other files result → one ≡ other
read_alone files (Ok plan) one other a b = plan_alone plan files one other a b
read_alone files (Err fault) one other a b = a ∙ sym b

bytes_alone : (files : Option ℕ) (bytes : List ℕ) (one other : Status) → RefusesBytes one files bytes → RefusesBytes other files bytes → one ≡ other
bytes_alone files bytes one other (inl a) (inl b) = a.1 ∙ sym b.1
bytes_alone files bytes one other (inl a) (inr b) = absurd (let more = a.0 in let few = b.0 in omega (arith, more, few))
bytes_alone files bytes one other (inr a) (inl b) = absurd (let few = a.0 in let more = b.0 in omega (arith, more, few))
bytes_alone files bytes one other (inr a) (inr b) = read_alone files (plan_read bytes) one other a.1 b.1

-- what is nothing names no plan
nothing_takes : (task : Task) → is_nothing task ≡ true → takes_plan task ≡ true → ⊥
nothing_takes nothing none takes = false≢true takes
nothing_takes running none takes = false≢true none
nothing_takes (checking print) none takes = false≢true none
nothing_takes (making seed count) none takes = false≢true none

pub refused_alone : (call : Call) (one other : Status) → Refuses call one → Refuses call other → one ≡ other
refused_alone call one other (inl a) (inl b) = a.1 ∙ sym b.1
refused_alone call one other (inl a) (inr b) = absurd (nothing_takes call.task a.0 b.0)
refused_alone call one other (inr a) (inl b) = absurd (nothing_takes call.task b.0 a.0)
refused_alone call one other (inr a) (inr b) = bytes_alone (files_asked call) (plan_bytes call) one other a.1 b.1

-- ---- refusals

-- a refusal of the plan or of the number of files
abbrev pub IsOfPlan : Status → Type 0
IsOfPlan Done = ⊥
IsOfPlan Usage = ⊥
IsOfPlan (ScriptRefused line) = ⊥
IsOfPlan (OpenFault n) = ⊥
IsOfPlan (ReadFault n) = ⊥
IsOfPlan (PlanRefused line why) = Unit {0}
IsOfPlan (FileCount want got) = Unit {0}
IsOfPlan (Unsafe node risk) = Unit {0}
IsOfPlan WriteFault = ⊥
IsOfPlan NoMemory = ⊥
IsOfPlan (Limit Plan) = Unit {0}
IsOfPlan (Limit Script) = ⊥
IsOfPlan (Limit (Node node)) = ⊥
IsOfPlan (Limit (File stream)) = ⊥

-- what is so of each refusal of a plan
pub of_plan : (P : Status → Type 0) → ((line : ℕ) (why : PlanWhy) → P (PlanRefused line why)) → ((want got : ℕ) → P (FileCount want got)) → ((node : ℕ) (risk : PlanRisk) → P (Unsafe node risk)) → P (Limit Plan)
    → (status : Status) → IsOfPlan status → P status
of_plan P fault count unsafe long Done of = absurd of
of_plan P fault count unsafe long Usage of = absurd of
of_plan P fault count unsafe long (OpenFault n) of = absurd of
of_plan P fault count unsafe long (ReadFault n) of = absurd of
of_plan P fault count unsafe long (PlanRefused line why) of = fault line why
of_plan P fault count unsafe long (FileCount want got) of = count want got
of_plan P fault count unsafe long (Unsafe node risk) of = unsafe node risk
of_plan P fault count unsafe long (ScriptRefused line) of = absurd of
of_plan P fault count unsafe long WriteFault of = absurd of
of_plan P fault count unsafe long NoMemory of = absurd of
of_plan P fault count unsafe long (Limit Plan) of = long
of_plan P fault count unsafe long (Limit Script) of = absurd of
of_plan P fault count unsafe long (Limit (Node node)) of = absurd of
of_plan P fault count unsafe long (Limit (File stream)) of = absurd of

-- how it is known that the bytes are refused so
too_long : (files : Option ℕ) (bytes : List ℕ) → 1048576 < length bytes → RefusesBytes (Limit Plan) files bytes
too_long files bytes more = inl (more, refl)

has_fault : (files : Option ℕ) (bytes : List ℕ) (fault : PlanFault) → (length bytes ≤ 1048576) × (plan_read bytes ≡ Err fault) → RefusesBytes (PlanRefused fault.line fault.why) files bytes
has_fault files bytes fault read = inr (read.0, subst (RefusesRead (PlanRefused fault.line fault.why) files) (sym read.1) refl)

pub is_unfit : (status : Status) (files : Option ℕ) (bytes : List ℕ) (plan : Outline) → RefusesPlan status files plan → (length bytes ≤ 1048576) × (plan_read bytes ≡ Ok plan) → RefusesBytes status files bytes
is_unfit status files bytes plan refuses read = inr (read.0, subst (RefusesRead status files) (sym read.1) refuses)

-- the status of a call that names a plan
module _ (call : Call) (run : takes_plan call.task ≡ true) where
  abbrev of_bytes : Status → Type 0
  of_bytes status = HasToldPlan call → RefusesBytes status (files_asked call) (plan_bytes call)

  refused_so : (status other : Status) → of_bytes status → status ≡ other → IsRefused call other
  refused_so status other is same = subst (IsRefused call) same (run, λ told. inr (run, is told))

  answers_so : (answer : Status) → of_bytes answer → AnswersRefusal answer call
  answers_so answer is told status refuses = inl (refused_alone call answer status (inr (run, is told)) refuses)

pub refused_early : (stop : PlanStop) (call : Call) (after : FolderState) (status : Status) → Unprepared stop call after → plan_status stop ≡ status → IsOfPlan status → IsRefused call status
refused_early (PlanFile NotOpened) call after status u e p = absurd (subst IsOfPlan (sym e) p)
refused_early (PlanFile NotRead) call after status u e p = absurd (subst IsOfPlan (sym e) p)
refused_early (PlanFile TooLong) call after status u e p = refused_so call u.0.takes (Limit Plan) status (λ told. too_long (files_asked call) (plan_bytes call) (u.1.1 told)) e
refused_early (PlanFile FileMemory) call after status u e p = absurd (subst IsOfPlan (sym e) p)
refused_early (Refused fault) call after status u e p = refused_so call u.0.takes (PlanRefused fault.line fault.why) status (λ told. has_fault (files_asked call) (plan_bytes call) fault (u.1.1 told)) e
refused_early (OtherCount want got) call after status u e p = refused_so call u.0.takes (FileCount want got) status (λ told. is_unfit (FileCount want got) (files_asked call) (plan_bytes call) u.1.1 u.1.2 (u.1.3 told)) e
refused_early (Stuck found) call after status u e p =
    refused_so call u.0.takes (Unsafe found.node found.risk) status (λ told. is_unfit (Unsafe found.node found.risk) (files_asked call) (plan_bytes call) u.1.0.1 (stuck_of found (files_asked call) u.1.0.1 u.1.0.2).0 (u.1.0.3 told)) e
refused_early PlanMemory call after status u e p = absurd (subst IsOfPlan (sym e) p)

-- a status that no plan is refused with
abbrev pub IsNoRefusal : Status → Type 0
IsNoRefusal Done = Unit {0}
IsNoRefusal Usage = Unit {0}
IsNoRefusal (OpenFault n) = ⊥
IsNoRefusal (ReadFault n) = ⊥
IsNoRefusal (PlanRefused line why) = ⊥
IsNoRefusal (FileCount want got) = ⊥
IsNoRefusal (Unsafe node risk) = ⊥
IsNoRefusal (ScriptRefused line) = Unit {0}
IsNoRefusal WriteFault = Unit {0}
IsNoRefusal NoMemory = ⊥
IsNoRefusal (Limit Plan) = ⊥
IsNoRefusal (Limit Script) = Unit {0}
IsNoRefusal (Limit (Node node)) = Unit {0}
IsNoRefusal (Limit (File stream)) = Unit {0}

pub early_never : (stop : PlanStop) (status : Status) → plan_status stop ≡ status → IsNoRefusal status → ⊥
early_never (PlanFile NotOpened) status e p = subst IsNoRefusal (sym e) p
early_never (PlanFile NotRead) status e p = subst IsNoRefusal (sym e) p
early_never (PlanFile TooLong) status e p = subst IsNoRefusal (sym e) p
early_never (PlanFile FileMemory) status e p = subst IsNoRefusal (sym e) p
early_never (Refused fault) status e p = subst IsNoRefusal (sym e) p
early_never (OtherCount want got) status e p = subst IsNoRefusal (sym e) p
early_never (Stuck found) status e p = subst IsNoRefusal (sym e) p
early_never PlanMemory status e p = subst IsNoRefusal (sym e) p

-- a status that no run stops with
abbrev pub IsNoStop : Status → Type 0
IsNoStop Done = Unit {0}
IsNoStop Usage = Unit {0}
IsNoStop (OpenFault n) = ⊥
IsNoStop (ReadFault n) = ⊥
IsNoStop (PlanRefused line why) = Unit {0}
IsNoStop (FileCount want got) = Unit {0}
IsNoStop (Unsafe node risk) = Unit {0}
IsNoStop (ScriptRefused line) = ⊥
IsNoStop WriteFault = ⊥
IsNoStop NoMemory = ⊥
IsNoStop (Limit Plan) = Unit {0}
IsNoStop (Limit Script) = Unit {0}
IsNoStop (Limit (Node node)) = ⊥
IsNoStop (Limit (File stream)) = ⊥

pub stop_never : (first : ℕ) (stop : FilesStop) (status : Status) → files_status first stop ≡ status → IsNoStop status → ⊥
stop_never first (Opening (Fault stream)) status e p = subst IsNoStop (sym e) p
stop_never first (Opening OpeningMemory) status e p = subst IsNoStop (sym e) p
stop_never first (Run (RunFault stream)) status e p = subst IsNoStop (sym e) p
stop_never first (Run (TooLarge stream)) status e p = subst IsNoStop (sym e) p
stop_never first (Run (RunLimit node)) status e p = subst IsNoStop (sym e) p
stop_never first (Run (RunRefused line)) status e p = subst IsNoStop (sym e) p
stop_never first (Run (RunCut (CoreLimit node))) status e p = subst IsNoStop (sym e) p
stop_never first (Run (RunCut CoreMemory)) status e p = subst IsNoStop (sym e) p
stop_never first (Run (CutRead stream)) status e p = subst IsNoStop (sym e) p
stop_never first (Run (CutLarge stream)) status e p = subst IsNoStop (sym e) p
stop_never first (Run (CutRefused line)) status e p = subst IsNoStop (sym e) p
stop_never first (Run WriteFailed) status e p = subst IsNoStop (sym e) p
stop_never first (Run RunMemory) status e p = subst IsNoStop (sym e) p

pub no_refusal : (status : Status) → IsOfPlan status → IsNoStop status
no_refusal status of = of_plan IsNoStop (λ line why. tt) (λ want got. tt) (λ node risk. tt) tt status of

pub answers_early : (stop : PlanStop) (call : Call) (after : FolderState) → Unprepared stop call after → AnswersRefusal (plan_status stop) call
answers_early (PlanFile NotOpened) call after u = λ told status refuses. inr (inr (inl refl))
answers_early (PlanFile NotRead) call after u = λ told status refuses. inr (inr (inr refl))
answers_early (PlanFile TooLong) call after u = answers_so call u.0.takes (Limit Plan) (λ told. too_long (files_asked call) (plan_bytes call) (u.1.1 told))
answers_early (PlanFile FileMemory) call after u = λ told status refuses. inr (inl refl)
answers_early (Refused fault) call after u = answers_so call u.0.takes (PlanRefused fault.line fault.why) (λ told. has_fault (files_asked call) (plan_bytes call) fault (u.1.1 told))
answers_early (OtherCount want got) call after u = answers_so call u.0.takes (FileCount want got) (λ told. is_unfit (FileCount want got) (files_asked call) (plan_bytes call) u.1.1 u.1.2 (u.1.3 told))
answers_early (Stuck found) call after u =
    answers_so call u.0.takes (Unsafe found.node found.risk) (λ told. is_unfit (Unsafe found.node found.risk) (files_asked call) (plan_bytes call) u.1.0.1 (stuck_of found (files_asked call) u.1.0.1 u.1.0.2).0 (u.1.0.3 told))
answers_early PlanMemory call after u = λ told status refuses. inr (inl refl)

-- where nothing is refused
bytes_never : (files : Option ℕ) (bytes : List ℕ) (status : Status) (plan : Outline) → length bytes ≤ 1048576 → plan_of bytes ≡ Some plan → HasStreams files plan → IsSafePlan plan.nodes → RefusesBytes status files bytes → ⊥
bytes_never files bytes status plan few is each safe (inl long) = let more = long.0 in omega (arith, few, more)
bytes_never files bytes status plan few is each safe (inr read) = never_fit plan files status each safe (subst (RefusesRead status files) (read_as bytes plan is) read.1)

-- how many files are asked for
pub asked_by : (call : Call) (task : Task) → call.task ≡ task → files_asked call ≡ files_for task (length (file_names call))
asked_by call task is = ap (λ (t : Task). files_for t (length (file_names call))) is

pub fit_never : (task : Task) (call : Call) (status : Status) → call.task ≡ task → IsFit task call → HasToldPlan call → Refuses call status → ⊥
fit_never nothing call status is fit told refuses = absurd fit
fit_never running call status is fit told (inl none) = false≢true (sym (ap is_nothing is) ∙ none.0)
fit_never running call status is fit told (inr refuses) =
    let p = fit.plan told in
    bytes_never (Some (length (file_names call))) (plan_bytes call) status p.1.0 p.0 p.1.1 p.1.2 p.1.3 (subst (λ (files : Option ℕ). RefusesBytes status files (plan_bytes call)) (asked_by call running is) refuses.1)
fit_never (checking print) call status is fit told (inl none) = false≢true (sym (ap is_nothing is) ∙ none.0)
fit_never (checking print) call status is fit told (inr refuses) =
    let p = fit told in
    bytes_never None (plan_bytes call) status p.1.0 p.0 p.1.1 tt p.1.2 (subst (λ (files : Option ℕ). RefusesBytes status files (plan_bytes call)) (asked_by call (checking print) is) refuses.1)
fit_never (making seed count) call status is fit told (inl none) = false≢true (sym (ap is_nothing is) ∙ none.0)
fit_never (making seed count) call status is fit told (inr refuses) = false≢true (sym (ap takes_plan is) ∙ refuses.0)

-- where there is something to run, its plan is not refused
pub never_refused : (call : Call) → IsBuilt call → HasToldPlan call → (status : Status) → IsRefused call status → ⊥
never_refused call built told status refused = fit_never running call status built.form built told (refused.1 told)

pub answers_built : (call : Call) (answer : Status) → IsBuilt call → AnswersRefusal answer call
answers_built call answer built told status refuses = absurd (fit_never running call status built.form built told refuses)

-- a script is not refused before its plan was read
pub answers_script_early : (stop : PlanStop) (call : Call) (after : FolderState) → Unprepared stop call after → AnswersScript (plan_status stop) call
answers_script_early (PlanFile NotOpened) call after u = λ built told name is status refuses. inr (inr (1, (omega arith), inl refl))
answers_script_early (PlanFile NotRead) call after u = λ built told name is status refuses. inr (inr (1, (omega arith), inr refl))
answers_script_early (PlanFile TooLong) call after u = λ built told name is status refuses. absurd (never_refused call built told.0 (Limit Plan) (refused_early (PlanFile TooLong) call after (Limit Plan) u refl tt))
answers_script_early (PlanFile FileMemory) call after u = λ built told name is status refuses. inr (inl refl)
answers_script_early (Refused fault) call after u = λ built told name is status refuses.
    absurd (never_refused call built told.0 (PlanRefused fault.line fault.why) (refused_early (Refused fault) call after (PlanRefused fault.line fault.why) u refl tt))
answers_script_early (OtherCount want got) call after u = λ built told name is status refuses.
    absurd (never_refused call built told.0 (FileCount want got) (refused_early (OtherCount want got) call after (FileCount want got) u refl tt))
answers_script_early (Stuck found) call after u = λ built told name is status refuses.
    absurd (never_refused call built told.0 (Unsafe found.node found.risk) (refused_early (Stuck found) call after (Unsafe found.node found.risk) u refl tt))
answers_script_early PlanMemory call after u = λ built told name is status refuses. inr (inl refl)
