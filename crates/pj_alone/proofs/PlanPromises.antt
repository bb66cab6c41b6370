-- A call that has no plan to run: all its promises.
use Rattle.std.proofs.Common.{◌≡◌, sym, ◌∙◌, subst, false}
use Rattle.std.proofs.lemmas.Bool.{false≢true}
use Rattle.std.specs.Prelude.{take}
use Rattle.pj_io.specs.States.{FolderState, SinkState}
use Rattle.pj_feed.specs.Opened.{OpensAtMost, StayOutside}
use Rattle.pj_report.specs.declared.status.Status.{Status}
use Rattle.pj_report.specs.declared.status.Status.TheVariants.{Done, Usage, PlanRefused, FileCount, Unsafe, ScriptRefused, WriteFault, Limit}
use Rattle.pj_report.specs.declared.status.LimitOf.TheVariants.{Plan, Script, Node, File}
use Rattle.pj_report.specs.Written.{Delivered, HandedOn}
use Rattle.pj_prepare.specs.declared.stops.PlanStop.{PlanStop}
use Rattle.pj_prepare.specs.Calls.{is_nothing, Call}
use Rattle.pj_alone.specs.Endings.{ending_of, RunLeaves}
use Rattle.pj_alone.specs.Promises.{KeepsAll}
use Rattle.pj_prepare.specs.Refusals.{Unprepared}
use Rattle.pj_prepare.specs.Stops.{plan_status, refusal_text}
use Rattle.pj_alone.proofs.Completing.{completes_by}
use Rattle.pj_alone.proofs.EarlyLaws.{IsNoRefusal, answers_early, answers_script_early, early_lines, early_never, ended_early, fault_early, refused_early, unopened_early}
use Rattle.pj_alone.proofs.MemoryLaws.{early_memory}
use Rattle.pj_alone.proofs.StaysLaws.{StayInCall, never_early}

pub keeps_refused : (call : Call) (after : FolderState) (old new : SinkState) → is_nothing call.task ≡ false → (stop : PlanStop) → OpensAtMost 1 call.names call.folder after → StayOutside (take 1 call.names) call.folder after
    → Unprepared stop call after → Delivered (refusal_text stop) old new → HandedOn old new → KeepsAll (ending_of call (plan_status stop) after old new)
keeps_refused call after old new something stop most stay cause line handed =
    let never : (other : Status) → plan_status stop ≡ other → IsNoRefusal other → ⊥ = λ other is no. early_never stop other is no in
    record {
      answer = λ runs is. absurd (never Done is tt);
      punctuations = λ runs is. absurd (never Done is tt);
      lawful = λ runs is. absurd (never Done is tt);
      one_thread_bytes = λ runs is. absurd (never Done is tt);
      tallies = λ runs is. absurd (never Done is tt);
      made = λ seed count makes is. absurd (never Done is tt);
      read_to_end = λ is. absurd (never Done is tt);
      ending = ended_early RunLeaves call after old new stay stop most cause line;
      never_retracted = λ writes all t. never_early (StayInCall call) stop old new t (early_lines stop call after cause) line;
      whole_lines = λ runs is. early_memory stop old new line is;
      handed_on = (handed, λ is. absurd (never Done is tt));
      cause_of_done = λ is. absurd (never Done is tt);
      cause_of_usage = λ is. absurd (never Usage is tt);
      usage = λ none. absurd (false≢true (sym something ∙ none));
      cause_of_plan_limit = λ is. refused_early stop call after (Limit Plan) cause is tt;
      cause_of_plan_refused = λ line why is. refused_early stop call after (PlanRefused line why) cause is tt;
      cause_of_file_count = λ want got is. refused_early stop call after (FileCount want got) cause is tt;
      cause_of_unsafe = λ node risk is. refused_early stop call after (Unsafe node risk) cause is tt;
      refused = answers_early stop call after cause;
      cause_of_script_limit = λ is. absurd (never (Limit Script) is tt);
      cause_of_script_refused = λ line is. absurd (never (ScriptRefused line) is tt);
      script_refused = answers_script_early stop call after cause;
      cause_of_open_fault = λ n is. unopened_early call after stop n cause is;
      cause_of_read_fault = λ n is. fault_early call after stop n cause is;
      cause_of_write_fault = λ is. absurd (never WriteFault is tt);
      cause_of_limit = λ node is. absurd (never (Limit (Node node)) is tt);
      cause_of_file_limit = λ stream is. absurd (never (Limit (File stream)) is tt);
      completes = completes_by (plan_status stop) call after old new (record {
        usage = λ is. absurd (never Usage is tt);
        refused = λ status is of. refused_early stop call after status cause is of;
        script_limit = λ is. absurd (never (Limit Script) is tt);
        line_refused = λ line is. absurd (never (ScriptRefused line) is tt);
        open_fault = λ n is. unopened_early call after stop n cause is;
        read_fault = λ n is. fault_early call after stop n cause is;
        write_fault = λ is. absurd (never WriteFault is tt);
        limit = λ node is. absurd (never (Limit (Node node)) is tt);
        file_limit = λ stream is. absurd (never (Limit (File stream)) is tt);
      });
    }
