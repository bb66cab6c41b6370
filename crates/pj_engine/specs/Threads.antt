-- What the top call promises, on one thread and with workers.
use Rattle.std.specs.Prelude.{ℕ, zero, suc}
use Rattle.pj_alone.specs.Endings.{Ending}
use Rattle.pj_alone.specs.Promises.{Answers, AnswersRefusals, AnswersScripts, Ends, HandsOn, IsCompleted, IsRightCount, IsRightFault, IsRightFileLimit, IsRightLimit, IsRightOpenFault, IsRightPlanLimit, IsRightReadFault, IsRightRefusal, IsRightScriptLimit, IsRightUsage, IsRightWriteFault, IsRightlyDone, IsRightlyUnsafe, LeavesLines, Makes, Punctuates, ReadsToEnd, RetractsNothing, StaysLawful, Tallies, WritesOneThread}
use Rattle.pj_together.specs.Promises.{AnswersBy, EndsSo, HasOneHistory, IsDoneRightly, IsLimitRight, PunctuatesBy, RetractsNone, SortsOneThread, StaysLawfulBy, TalliesBy}

-- with so many workers: where there are none the one of these holds of how a call ended, else the other
abbrev pub OnThreads : ℕ → (Ending → Type 0) → (Ending → Type 0) → Ending → Type 0
OnThreads zero Alone Together e = Alone e
OnThreads (suc n) Alone Together e = Together e

-- nothing is said
abbrev pub AsksNothing : Ending → Type 0
AsksNothing e = Unit {0}

-- all promises at once
pub record KeepsOn (workers : ℕ) (e : Ending) : Type 0 where
  pub answer : OnThreads workers Answers AnswersBy e
  pub punctuations : OnThreads workers Punctuates PunctuatesBy e
  pub lawful : OnThreads workers StaysLawful StaysLawfulBy e
  pub one_history : OnThreads workers AsksNothing HasOneHistory e
  pub one_thread_bytes : OnThreads workers WritesOneThread SortsOneThread e
  pub tallies : OnThreads workers Tallies TalliesBy e
  pub made : Makes e
  pub read_to_end : ReadsToEnd e
  pub ending : OnThreads workers Ends EndsSo e
  pub never_retracted : OnThreads workers RetractsNothing RetractsNone e
  pub whole_lines : LeavesLines e
  pub handed_on : HandsOn e
  pub cause_of_done : OnThreads workers IsRightlyDone IsDoneRightly e
  pub cause_of_usage : IsRightUsage e
  pub cause_of_plan_limit : IsRightPlanLimit e
  pub cause_of_plan_refused : IsRightFault e
  pub cause_of_file_count : IsRightCount e
  pub cause_of_unsafe : IsRightlyUnsafe e
  pub refused : AnswersRefusals e
  pub cause_of_script_limit : IsRightScriptLimit e
  pub cause_of_script_refused : IsRightRefusal e
  pub script_refused : AnswersScripts e
  pub cause_of_open_fault : IsRightOpenFault e
  pub cause_of_read_fault : IsRightReadFault e
  pub cause_of_write_fault : IsRightWriteFault e
  pub cause_of_limit : OnThreads workers IsRightLimit IsLimitRight e
  pub cause_of_file_limit : IsRightFileLimit e
  pub completes : IsCompleted e
