use Rattle.std.proofs.Common.{◌≡◌, ◌≤◌, ℕ, zero, suc, sym, subst, arith}
use Rattle.pj_alone.specs.Endings.{ending_of, Ending}
use Rattle.pj_prepare.specs.Calls.{call_for}
use Rattle.pj_together.specs.Promises.{KeepsTogether}
use Rattle.pj_together.specs.Requests.{workers_of}
use Rattle.pj_engine.specs.Threads.{KeepsOn}
use Rattle.pj_engine.proofs.Keeping.{on_one, on_some}
use Rattle.pj_engine.proofs.top.run_request.Goals as goal

some : (workers : ℕ) (e : Ending) → 1 ≤ workers → KeepsTogether e → KeepsOn workers e
some zero e lt k = absurd (omega (arith, lt))
some (suc n) e lt k = on_some n e k

pub returns-then-has_workers : goal.returns-then-has_workers
returns-then-has_workers g c =
    some (workers_of c.args.request.now)
    (ending_of (call_for c.args.request.now (g.F.Folder.state c.args.folder.now)) c.run_together.result (g.F.Folder.state c.run_together.new.folder) (g.K.Sink.state c.args.out.now) (g.K.Sink.state c.run_together.new.out))
    (c.has_workers.ensures.some c.if-has_workers.true) c.run_together.ensures

pub returns-else-has_workers : goal.returns-else-has_workers
returns-else-has_workers g c =
    let e : Ending = ending_of (call_for c.args.request.now (g.F.Folder.state c.args.folder.now)) c.run_alone.result (g.F.Folder.state c.run_alone.new.folder) (g.K.Sink.state c.args.out.now) (g.K.Sink.state c.run_alone.new.out) in
    let r = c.run_alone.ensures in
    subst (λ (n : ℕ). KeepsOn n e) (sym (c.has_workers.ensures.none c.if-has_workers.false))
    (on_one e (record {
      answer = r.answer;
      punctuations = r.punctuations;
      lawful = r.lawful;
      one_thread_bytes = r.one_thread_bytes;
      tallies = r.tallies;
      made = r.made;
      read_to_end = r.read_to_end;
      ending = r.ending;
      never_retracted = r.never_retracted;
      whole_lines = r.whole_lines;
      handed_on = r.handed_on;
      cause_of_done = r.cause_of_done;
      cause_of_usage = r.cause_of_usage;
      usage = r.usage;
      cause_of_plan_limit = r.cause_of_plan_limit;
      cause_of_plan_refused = r.cause_of_plan_refused;
      cause_of_file_count = r.cause_of_file_count;
      cause_of_unsafe = r.cause_of_unsafe;
      refused = r.refused;
      cause_of_script_limit = r.cause_of_script_limit;
      cause_of_script_refused = r.cause_of_script_refused;
      script_refused = r.script_refused;
      cause_of_open_fault = r.cause_of_open_fault;
      cause_of_read_fault = r.cause_of_read_fault;
      cause_of_write_fault = r.cause_of_write_fault;
      cause_of_limit = r.cause_of_limit;
      cause_of_file_limit = r.cause_of_file_limit;
      completes = r.completes;
    }))
