-- All promises of the top call, on one thread and with workers.
use Rattle.std.proofs.Common.{◌≡◌, ℕ, zero, suc, inl, inr, [], refl, sym}
use Rattle.std.proofs.lemmas.Bool.{false≢true}
use Rattle.pj_io.specs.States.{FolderState, SinkState}
use Rattle.pj_report.specs.declared.status.Status.TheVariants.{Usage, NoMemory}
use Rattle.pj_report.specs.Report.{status_line}
use Rattle.pj_report.specs.Written.{Delivered, HandedOn}
use Rattle.pj_files.proofs.StatusNotes.{usage_note}
use Rattle.pj_prepare.specs.Calls.{call_by, nothing, nothing_wanted, running, Call}
use Rattle.pj_prepare.specs.declared.stops.PlanStop.TheVariants.{NoMemory as PlanMemory}
use Rattle.pj_alone.specs.Endings.{ending_of, Ending, RunLeaves}
use Rattle.pj_alone.specs.Promises.{Answers, Ends, IsRightLimit, IsRightlyDone, KeepsAll, Punctuates, RetractsNothing, StaysLawful, Tallies, WritesOneThread}
use Rattle.pj_alone.specs.Top.{IsBuilt}
use Rattle.pj_alone.proofs.EarlyLaws.{ended_at_words}
use Rattle.pj_alone.proofs.MemoryLaws.{early_memory}
use Rattle.pj_alone.proofs.StaysLaws.{StayInCall, early_note, never_early, never_usage}
use Rattle.pj_together.specs.Promises.{AnswersBy, EndsSo, HasOneHistory, IsDoneRightly, IsLimitRight, KeepsTogether, PunctuatesBy, RetractsNone, SortsOneThread, StaysLawfulBy, TalliesBy}
use Rattle.pj_together.specs.Runs.{RunLeft, StayOf}
use Rattle.pj_engine.specs.Threads.{AsksNothing, KeepsOn, OnThreads}

-- what is so on one thread and with workers is so with any number of them
either : (workers : ℕ) (Alone Together : Ending → Type 0) (e : Ending) → Alone e → Together e → OnThreads workers Alone Together e
either zero Alone Together e alone together = alone
either (suc n) Alone Together e alone together = together

pub on_one : (e : Ending) → KeepsAll e → KeepsOn 0 e
on_one e k = record {
  answer = k.answer;
  punctuations = k.punctuations;
  lawful = k.lawful;
  one_history = tt;
  one_thread_bytes = k.one_thread_bytes;
  tallies = k.tallies;
  made = k.made;
  read_to_end = k.read_to_end;
  ending = k.ending;
  never_retracted = k.never_retracted;
  whole_lines = k.whole_lines;
  handed_on = k.handed_on;
  cause_of_done = k.cause_of_done;
  cause_of_usage = k.cause_of_usage;
  cause_of_plan_limit = k.cause_of_plan_limit;
  cause_of_plan_refused = k.cause_of_plan_refused;
  cause_of_file_count = k.cause_of_file_count;
  cause_of_unsafe = k.cause_of_unsafe;
  refused = k.refused;
  cause_of_script_limit = k.cause_of_script_limit;
  cause_of_script_refused = k.cause_of_script_refused;
  script_refused = k.script_refused;
  cause_of_open_fault = k.cause_of_open_fault;
  cause_of_read_fault = k.cause_of_read_fault;
  cause_of_write_fault = k.cause_of_write_fault;
  cause_of_limit = k.cause_of_limit;
  cause_of_file_limit = k.cause_of_file_limit;
  completes = k.completes;
}

pub on_some : (n : ℕ) (e : Ending) → KeepsTogether e → KeepsOn (suc n) e
on_some n e k = record {
  answer = k.answer;
  punctuations = k.punctuations;
  lawful = k.lawful;
  one_history = k.one_history;
  one_thread_bytes = k.one_thread_bytes;
  tallies = k.tallies;
  made = k.made;
  read_to_end = k.read_to_end;
  ending = k.ending;
  never_retracted = k.never_retracted;
  whole_lines = k.whole_lines;
  handed_on = k.handed_on;
  cause_of_done = k.cause_of_done;
  cause_of_usage = k.cause_of_usage;
  cause_of_plan_limit = k.cause_of_plan_limit;
  cause_of_plan_refused = k.cause_of_plan_refused;
  cause_of_file_count = k.cause_of_file_count;
  cause_of_unsafe = k.cause_of_unsafe;
  refused = k.refused;
  cause_of_script_limit = k.cause_of_script_limit;
  cause_of_script_refused = k.cause_of_script_refused;
  script_refused = k.script_refused;
  cause_of_open_fault = k.cause_of_open_fault;
  cause_of_read_fault = k.cause_of_read_fault;
  cause_of_write_fault = k.cause_of_write_fault;
  cause_of_limit = k.cause_of_limit;
  cause_of_file_limit = k.cause_of_file_limit;
  completes = k.completes;
}

-- memory was wanting before it was known what is asked for
pub on_memory : (workers : ℕ) (call : Call) (folder : FolderState) (old new : SinkState) → call.folder ≡ folder → Delivered (status_line [] NoMemory) old new → HandedOn old new → KeepsOn workers (ending_of call NoMemory folder old new)
on_memory workers call folder old new same line handed =
    let e : Ending = ending_of call NoMemory folder old new in
    record {
      answer = either workers Answers AnswersBy e (λ runs is. absurd (cc)) (λ runs is. absurd (cc));
      punctuations = either workers Punctuates PunctuatesBy e (λ runs is. absurd (cc)) (λ runs is. absurd (cc));
      lawful = either workers StaysLawful StaysLawfulBy e (λ runs is. absurd (cc)) (λ runs is. absurd (cc));
      one_history = either workers AsksNothing HasOneHistory e (tt) (λ runs is. absurd (cc));
      one_thread_bytes = either workers WritesOneThread SortsOneThread e (λ runs is. absurd (cc)) (λ sorted runs is. absurd (cc));
      tallies = either workers Tallies TalliesBy e (λ runs is. absurd (cc)) (λ runs is. absurd (cc));
      made = λ seed count makes is. absurd (cc);
      read_to_end = λ is. absurd (cc);
      ending = either workers Ends EndsSo e (ended_at_words RunLeaves call NoMemory folder old new tt (sym same) line) (ended_at_words RunLeft call NoMemory folder old new tt (sym same) line);
      never_retracted = either workers RetractsNothing RetractsNone e (λ _ all t. never_early (StayInCall call) PlanMemory old new t tt line) (λ _ all t. never_early (StayOf call) PlanMemory old new t tt line);
      whole_lines = λ _ _. early_memory PlanMemory old new line refl;
      handed_on = (handed, λ is. absurd (cc));
      cause_of_done = either workers IsRightlyDone IsDoneRightly e (λ is. absurd (cc)) (λ is. absurd (cc));
      cause_of_usage = λ is. absurd (cc);
      cause_of_plan_limit = λ is. absurd (cc);
      cause_of_plan_refused = λ line why is. absurd (cc);
      cause_of_file_count = λ want got is. absurd (cc);
      cause_of_unsafe = λ node risk is. absurd (cc);
      refused = λ told status refuses. inr (inl refl);
      cause_of_script_limit = λ is. absurd (cc);
      cause_of_script_refused = λ at is. absurd (cc);
      script_refused = λ built told name is status refuses. inr (inl refl);
      cause_of_open_fault = λ n is. absurd (cc);
      cause_of_read_fault = λ n is. absurd (cc);
      cause_of_write_fault = λ is. absurd (cc);
      cause_of_limit = either workers IsRightLimit IsLimitRight e (λ node is. absurd (cc)) (λ node is. absurd (cc));
      cause_of_file_limit = λ stream is. absurd (cc);
      completes = λ told fit playable none room. inr refl;
    }

-- the words ask for nothing that there is
pub on_usage : (workers : ℕ) (folder : FolderState) (old new : SinkState) → Delivered (status_line [] Usage) old new → HandedOn old new → KeepsOn workers (ending_of (call_by nothing_wanted folder) Usage folder old new)
on_usage workers folder old new line handed =
    let call : Call = call_by nothing_wanted folder in
    let e : Ending = ending_of call Usage folder old new in
    record {
      answer = either workers Answers AnswersBy e (λ runs is. absurd (cc)) (λ runs is. absurd (cc));
      punctuations = either workers Punctuates PunctuatesBy e (λ runs is. absurd (cc)) (λ runs is. absurd (cc));
      lawful = either workers StaysLawful StaysLawfulBy e (λ runs is. absurd (cc)) (λ runs is. absurd (cc));
      one_history = either workers AsksNothing HasOneHistory e (tt) (λ runs is. absurd (cc));
      one_thread_bytes = either workers WritesOneThread SortsOneThread e (λ runs is. absurd (cc)) (λ sorted runs is. absurd (cc));
      tallies = either workers Tallies TalliesBy e (λ runs is. absurd (cc)) (λ runs is. absurd (cc));
      made = λ seed count makes is. absurd (cc);
      read_to_end = λ is. absurd (cc);
      ending = either workers Ends EndsSo e (ended_at_words RunLeaves call Usage folder old new refl refl line) (ended_at_words RunLeft call Usage folder old new refl refl line);
      never_retracted = either workers RetractsNothing RetractsNone e (λ _ all t. never_usage call old new t line) (λ _ all t. early_note (StayOf call) (status_line [] Usage) old new t usage_note line);
      whole_lines = λ runs is. absurd (cc);
      handed_on = (handed, λ is. absurd (cc));
      cause_of_done = either workers IsRightlyDone IsDoneRightly e (λ is. absurd (cc)) (λ is. absurd (cc));
      cause_of_usage = λ _. refl;
      cause_of_plan_limit = λ is. absurd (cc);
      cause_of_plan_refused = λ line why is. absurd (cc);
      cause_of_file_count = λ want got is. absurd (cc);
      cause_of_unsafe = λ node risk is. absurd (cc);
      refused = λ told status refuses. elim refuses [ inl word ↦ inl (sym word.1) | inr plan ↦ absurd (false≢true plan.0) ];
      cause_of_script_limit = λ is. absurd (cc);
      cause_of_script_refused = λ at is. absurd (cc);
      script_refused = λ built told name is status refuses. absurd (none built);
      cause_of_open_fault = λ n is. absurd (cc);
      cause_of_read_fault = λ n is. absurd (cc);
      cause_of_write_fault = λ is. absurd (cc);
      cause_of_limit = either workers IsRightLimit IsLimitRight e (λ node is. absurd (cc)) (λ node is. absurd (cc));
      cause_of_file_limit = λ stream is. absurd (cc);
      completes = λ told fit playable none room. absurd fit;
    }
  where
    none : IsBuilt (call_by nothing_wanted folder) → ⊥
    none built = let is : nothing ≡ running = built.form in cc
