use Rattle.pj_prepare.specs.Calls.{wanted}
use Rattle.pj_engine.specs.Words.{asked_in}
use Rattle.pj_engine.proofs.Completing.{steadily}
use Rattle.pj_engine.proofs.laws.steady_calls_complete.Goals as goal

pub returns-clause-completes : goal.returns-clause-completes
returns-clause-completes g c =
    steadily c.run_words.result (wanted (asked_in c.args.words.now)) c.args.folder.now c.run_words.new.folder c.args.out.now c.run_words.new.out c.run_words.ensures.completes

pub returns-clause-keeps : goal.returns-clause-keeps
returns-clause-keeps g c =
    let r = c.run_words.ensures in
    record {
      answer = r.answer;
      punctuations = r.punctuations;
      lawful = r.lawful;
      one_history = r.one_history;
      one_thread_bytes = r.one_thread_bytes;
      tallies = r.tallies;
      made = r.made;
      read_to_end = r.read_to_end;
      ending = r.ending;
      never_retracted = r.never_retracted;
      whole_lines = r.whole_lines;
      handed_on = r.handed_on;
      cause_of_done = r.cause_of_done;
      cause_of_usage = r.cause_of_usage;
      cause_of_plan_limit = r.cause_of_plan_limit;
      cause_of_plan_refused = r.cause_of_plan_refused;
      cause_of_file_count = r.cause_of_file_count;
      cause_of_unsafe = r.cause_of_unsafe;
      refused = r.refused;
      cause_of_script_limit = r.cause_of_script_limit;
      cause_of_script_refused = r.cause_of_script_refused;
      script_refused = r.script_refused;
      cause_of_open_fault = r.cause_of_open_fault;
      cause_of_read_fault = r.cause_of_read_fault;
      cause_of_write_fault = r.cause_of_write_fault;
      cause_of_limit = r.cause_of_limit;
      cause_of_file_limit = r.cause_of_file_limit;
      completes = r.completes;
    }
