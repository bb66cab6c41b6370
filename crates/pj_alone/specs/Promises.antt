-- What the top call promises: each clause is a sentence on how a call ended.
use Rattle.std.specs.Prelude.{◌≡◌, ℕ, true, ⊤, []}
use Rattle.pj_feed.specs.Opened.{AreReadToEnd}
use Rattle.pj_plan.specs.declared.fault.PlanWhy.{PlanWhy}
use Rattle.pj_report.specs.declared.status.Status.TheVariants.{Done, Usage, OpenFault, ReadFault, PlanRefused, FileCount, Unsafe, ScriptRefused, WriteFault, NoMemory, Limit}
use Rattle.pj_report.specs.declared.status.LimitOf.TheVariants.{Plan, Script, Node, File}
use Rattle.pj_report.specs.Written.{HandedOn}
use Rattle.pj_run.specs.Runs.{IsAnswer, ArePunctuations, AreLawful, AreTallies}
use Rattle.pj_safety.specs.declared.risk.PlanRisk.{PlanRisk}
use Rattle.pj_prepare.specs.Calls.{nothing, running, checking, making, is_nothing, Task}
use Rattle.pj_alone.specs.Completeness.{Completes}
use Rattle.pj_alone.specs.Endings.{Ending, EndsBy, MemoryLeaves, RunLeaves}
use Rattle.pj_alone.specs.Made.{IsMade}
use Rattle.pj_prepare.specs.Refusals.{IsRefused}
use Rattle.pj_alone.specs.Top.{AnswersRefusal, AnswersScript, BeyondLimit, HasFault, IsFit, IsLineRefused, IsPlayable, IsScriptTooLong, IsTooLarge, IsUnopened, NeverRetracted, OneThreadBytes, Ran, WriteFails, KeepsLimit}

-- ---- a run that is done

-- the rows are the plan's answer over exactly the accepted rows, as a bag
abbrev pub Answers : Ending → Type 0
Answers e = e.call.task ≡ running → e.status ≡ Done → Ran IsAnswer e.call e.old e.new

-- the punctuations are the plan's over those that were accepted and the closings, as a bag
abbrev pub Punctuates : Ending → Type 0
Punctuates e = e.call.task ≡ running → e.status ≡ Done → Ran ArePunctuations e.call e.old e.new

-- no row follows a punctuation that it matches
abbrev pub StaysLawful : Ending → Type 0
StaysLawful e = e.call.task ≡ running → e.status ≡ Done → Ran AreLawful e.call e.old e.new

-- the bytes are those of the run on one thread, or of the script's, and its report
abbrev pub WritesOneThread : Ending → Type 0
WritesOneThread e = e.call.task ≡ running → e.status ≡ Done → OneThreadBytes e.call e.old e.new

-- the report's counts, rejects, peaks and check are right
abbrev pub Tallies : Ending → Type 0
Tallies e = e.call.task ≡ running → e.status ≡ Done → Ran AreTallies e.call e.old e.new

-- of a made input the summary was written, and the rows that it counts and sums are the answer, as the punctuations are the plan's;
-- they are lawful, and its counts, peaks and total are right
abbrev pub Makes : Ending → Type 0
Makes e = (seed count : ℕ) → e.call.task ≡ making seed count → e.status ≡ Done → IsMade seed count e.old e.new

-- all files were read to their ends
abbrev pub ReadsToEnd : Ending → Type 0
ReadsToEnd e = e.status ≡ Done → AreReadToEnd e.call.names e.call.folder e.after

-- ---- every call

-- it came to some stage, and left what is left there
abbrev pub Ends : Ending → Type 0
Ends e = EndsBy RunLeaves e

-- it writes no results but those of a run: neither the check of a plan nor a made input writes any
abbrev pub WritesResults : Task → Type 0
WritesResults nothing = ⊤
WritesResults running = ⊤
WritesResults (checking print) = ⊥
WritesResults (making seed count) = ⊥

-- what was written stays right, however the streams go on
abbrev pub RetractsNothing : Ending → Type 0
RetractsNothing e = WritesResults e.call.task → NeverRetracted e.call e.old e.new

-- a run that ends for want of memory leaves whole lines, also where its files are not told
abbrev pub LeavesLines : Ending → Type 0
LeavesLines e = e.call.task ≡ running → e.status ≡ NoMemory → MemoryLeaves e.old e.new

-- the sink holds nothing back, or its faults rose and the call is not done
abbrev pub HandsOn : Ending → Type 0
HandsOn e = HandedOn e.old e.new × (e.status ≡ Done → e.new.held ≡ [])

-- ---- when each status comes

abbrev pub IsRightlyDone : Ending → Type 0
IsRightlyDone e = e.status ≡ Done → IsFit e.call.task e.call × IsPlayable e.call × KeepsLimit e.call.task e.call

abbrev pub IsRightUsage : Ending → Type 0
IsRightUsage e = e.status ≡ Usage → is_nothing e.call.task ≡ true

-- what is nothing that there is is answered so
abbrev pub AnswersUsage : Ending → Type 0
AnswersUsage e = is_nothing e.call.task ≡ true → e.status ≡ Usage

abbrev pub IsRightPlanLimit : Ending → Type 0
IsRightPlanLimit e = e.status ≡ Limit Plan → IsRefused e.call (Limit Plan)

abbrev pub IsRightFault : Ending → Type 0
IsRightFault e = (line : ℕ) (why : PlanWhy) → e.status ≡ PlanRefused line why → IsRefused e.call (PlanRefused line why)

abbrev pub IsRightCount : Ending → Type 0
IsRightCount e = (want got : ℕ) → e.status ≡ FileCount want got → IsRefused e.call (FileCount want got)

abbrev pub IsRightlyUnsafe : Ending → Type 0
IsRightlyUnsafe e = (node : ℕ) (risk : PlanRisk) → e.status ≡ Unsafe node risk → IsRefused e.call (Unsafe node risk)

-- what is refused is answered so, unless memory ran out or the plan's file failed
abbrev pub AnswersRefusals : Ending → Type 0
AnswersRefusals e = AnswersRefusal e.status e.call

abbrev pub IsRightScriptLimit : Ending → Type 0
IsRightScriptLimit e = e.status ≡ Limit Script → IsScriptTooLong e.call

abbrev pub IsRightRefusal : Ending → Type 0
IsRightRefusal e = (line : ℕ) → e.status ≡ ScriptRefused line → IsLineRefused e.call line

-- a script whose bytes are refused is answered so, unless memory ran out, or the plan's file or the script's failed
abbrev pub AnswersScripts : Ending → Type 0
AnswersScripts e = AnswersScript e.status e.call

abbrev pub IsRightOpenFault : Ending → Type 0
IsRightOpenFault e = (n : ℕ) → e.status ≡ OpenFault n → IsUnopened e.call e.after n

abbrev pub IsRightReadFault : Ending → Type 0
IsRightReadFault e = (n : ℕ) → e.status ≡ ReadFault n → HasFault e.call e.after n

abbrev pub IsRightWriteFault : Ending → Type 0
IsRightWriteFault e = e.status ≡ WriteFault → WriteFails e.call e.old e.new

abbrev pub IsRightLimit : Ending → Type 0
IsRightLimit e = (node : ℕ) → e.status ≡ Limit (Node node) → BeyondLimit e.call node

abbrev pub IsRightFileLimit : Ending → Type 0
IsRightFileLimit e = (stream : ℕ) → e.status ≡ Limit (File stream) → IsTooLarge e.call stream

-- what nothing hinders is done, or memory was wanting
abbrev pub IsCompleted : Ending → Type 0
IsCompleted e = Completes e.status e.call e.after e.old e.new

-- all promises at once
pub record KeepsAll (e : Ending) : Type 0 where
  pub answer : Answers e
  pub punctuations : Punctuates e
  pub lawful : StaysLawful e
  pub one_thread_bytes : WritesOneThread e
  pub tallies : Tallies e
  pub made : Makes e
  pub read_to_end : ReadsToEnd e
  pub ending : Ends e
  pub never_retracted : RetractsNothing e
  pub whole_lines : LeavesLines e
  pub handed_on : HandsOn e
  pub cause_of_done : IsRightlyDone e
  pub cause_of_usage : IsRightUsage e
  pub usage : AnswersUsage e
  pub cause_of_plan_limit : IsRightPlanLimit e
  pub cause_of_plan_refused : IsRightFault e
  pub cause_of_file_count : IsRightCount e
  pub cause_of_unsafe : IsRightlyUnsafe e
  pub refused : AnswersRefusals e
  pub cause_of_script_limit : IsRightScriptLimit e
  pub cause_of_script_refused : IsRightRefusal e
  pub script_refused : AnswersScripts e
  pub cause_of_open_fault : IsRightOpenFault e
  pub cause_of_read_fault : IsRightReadFault e
  pub cause_of_write_fault : IsRightWriteFault e
  pub cause_of_limit : IsRightLimit e
  pub cause_of_file_limit : IsRightFileLimit e
  pub completes : IsCompleted e
