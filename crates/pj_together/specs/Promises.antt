-- What the call of a request with workers promises: each clause is a sentence on how a call ended.
use Rattle.std.specs.Prelude.{◌≡◌, ℕ}
use Rattle.pj_report.specs.declared.status.Status.TheVariants.{Done, Limit}
use Rattle.pj_report.specs.declared.status.LimitOf.TheVariants.{Node}
use Rattle.pj_report.specs.declared.writer.Form.TheVariants.{Sorted}
use Rattle.pj_run.specs.Runs.{IsAnswer, ArePunctuations, AreLawful}
use Rattle.pj_prepare.specs.Calls.{running}
use Rattle.pj_alone.specs.Endings.{Ending, EndsBy}
use Rattle.pj_alone.specs.Promises.{AnswersRefusals, AnswersScripts, AnswersUsage, HandsOn, IsCompleted, IsRightCount, IsRightFault, IsRightFileLimit, IsRightlyUnsafe, IsRightOpenFault, IsRightPlanLimit, IsRightReadFault, IsRightRefusal, IsRightScriptLimit, IsRightUsage, IsRightWriteFault, LeavesLines, Makes, ReadsToEnd, WritesOneThread, WritesResults}
use Rattle.pj_alone.specs.Top.{IsFit, IsPlayable}
use Rattle.pj_together.specs.Runs.{AreAny, AreCounts, BeyondLimit, HasWhole, Made, NoneRetracted, RunLeft}

-- ---- a run that is done

-- the rows are the plan's answer over exactly the accepted rows, as a bag
abbrev pub AnswersBy : Ending → Type 0
AnswersBy e = e.call.task ≡ running → e.status ≡ Done → Made IsAnswer e.call e.old e.new

-- the punctuations are the plan's over those that were accepted and the closings, as a bag
abbrev pub PunctuatesBy : Ending → Type 0
PunctuatesBy e = e.call.task ≡ running → e.status ≡ Done → Made ArePunctuations e.call e.old e.new

-- no row follows a punctuation that it matches
abbrev pub StaysLawfulBy : Ending → Type 0
StaysLawfulBy e = e.call.task ≡ running → e.status ≡ Done → Made AreLawful e.call e.old e.new

-- the report's counts, rejects, peaks and check are right
abbrev pub TalliesBy : Ending → Type 0
TalliesBy e = e.call.task ≡ running → e.status ≡ Done → Made AreCounts e.call e.old e.new

-- there is one history, legal and complete, to whose streams all that was accepted arrived, and their closings; its lines and its report were
-- written
abbrev pub HasOneHistory : Ending → Type 0
HasOneHistory e = e.call.task ≡ running → e.status ≡ Done → Made AreAny e.call e.old e.new

-- where results are sorted, the bytes are those of the run on one thread: one function of plan and files, whatever the number of workers
abbrev pub SortsOneThread : Ending → Type 0
SortsOneThread e = e.call.options.form ≡ Sorted → WritesOneThread e

-- ---- every call

-- it came to some stage, and left what is left there
abbrev pub EndsSo : Ending → Type 0
EndsSo e = EndsBy RunLeft e

-- what was written stays right, however the streams go on
abbrev pub RetractsNone : Ending → Type 0
RetractsNone e = WritesResults e.call.task → NoneRetracted e.call e.old e.new

-- ---- when a status comes

abbrev pub IsDoneRightly : Ending → Type 0
IsDoneRightly e = e.status ≡ Done → IsFit e.call.task e.call × IsPlayable e.call × HasWhole e.call

abbrev pub IsLimitRight : Ending → Type 0
IsLimitRight e = (node : ℕ) → e.status ≡ Limit (Node node) → BeyondLimit e.call node

-- all promises at once
pub record KeepsTogether (e : Ending) : Type 0 where
  pub answer : AnswersBy e
  pub punctuations : PunctuatesBy e
  pub lawful : StaysLawfulBy e
  pub one_history : HasOneHistory e
  pub one_thread_bytes : SortsOneThread e
  pub tallies : TalliesBy e
  pub made : Makes e
  pub read_to_end : ReadsToEnd e
  pub ending : EndsSo e
  pub never_retracted : RetractsNone e
  pub whole_lines : LeavesLines e
  pub handed_on : HandsOn e
  pub cause_of_done : IsDoneRightly e
  pub cause_of_usage : IsRightUsage e
  pub usage : AnswersUsage e
  pub cause_of_plan_limit : IsRightPlanLimit e
  pub cause_of_plan_refused : IsRightFault e
  pub cause_of_file_count : IsRightCount e
  pub cause_of_unsafe : IsRightlyUnsafe e
  pub refused : AnswersRefusals e
  pub cause_of_script_limit : IsRightScriptLimit e
  pub cause_of_script_refused : IsRightRefusal e
  pub script_refused : AnswersScripts e
  pub cause_of_open_fault : IsRightOpenFault e
  pub cause_of_read_fault : IsRightReadFault e
  pub cause_of_write_fault : IsRightWriteFault e
  pub cause_of_limit : IsLimitRight e
  pub cause_of_file_limit : IsRightFileLimit e
  pub completes : IsCompleted e
