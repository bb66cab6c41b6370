-- A call with workers: all its promises.
use Rattle.std.proofs.Common.{◌≡◌, ◌≤◌, ℕ, inl, inr, List, [], ◌++◌, length, Option, Some, None, Err, IsTrue, refl, ap, sym, ◌∙◌, subst, append-nil, arith, false}
use Rattle.std.specs.Prelude.{take}
use Rattle.std.proofs.lemmas.Bool.{false≢true}
use Rattle.pj_io.specs.States.{FolderState, SinkState}
use Rattle.pj_pattern.specs.declared.element.Element.{Element}
use Rattle.pj_events.specs.declared.events.Entry.{Entry}
use Rattle.pj_events.specs.Outcomes.{elements_out}
use Rattle.pj_feed.specs.declared.stops.OpeningStop.{OpeningStop}
use Rattle.pj_feed.specs.declared.stops.OpeningStop.TheVariants.{Fault, NoMemory as OpeningMemory}
use Rattle.pj_feed.specs.Named.{files_named, AreTold}
use Rattle.pj_feed.specs.Opened.{AreReadToEnd, IsReadToEnd, OpensAtMost, OpensFirst, StayOutside}
use Rattle.pj_plan.specs.declared.node.PlanNode.{PlanNode}
use Rattle.pj_report.specs.declared.status.Status.{Status}
use Rattle.pj_report.specs.declared.status.Status.TheVariants.{Done, Usage, OpenFault, ReadFault, PlanRefused, FileCount, Unsafe, ScriptRefused, WriteFault, Limit}
use Rattle.pj_report.specs.declared.status.LimitOf.TheVariants.{Plan, Script, Node, File}
use Rattle.pj_report.specs.declared.writer.Form.TheVariants.{Sorted}
use Rattle.pj_report.specs.Written.{flat, Delivered, HandedOn}
use Rattle.pj_run.specs.declared.stops.FilesStop.{FilesStop}
use Rattle.pj_run.specs.declared.stops.FilesStop.TheVariants.{Opening, Run}
use Rattle.pj_run.specs.declared.stops.RunStop.TheVariants.{ReadFault as RunFault, TooLarge, Limit as RunLimit, Refused as RunRefused, WriteFailed, NoMemory as RunMemory, Cut as RunCut, CutRead, CutLarge, CutRefused}
use Rattle.pj_events.specs.declared.events.Stop.TheVariants.{Limit as CoreLimit, NoMemory as CoreMemory}
use Rattle.pj_run.specs.Cuts.{files_cut}
use Rattle.pj_run.specs.Jobs.{Job}
use Rattle.pj_run.specs.RunEnds.{FilesOpened}
use Rattle.pj_run.specs.Runs.{IsAnswer, ArePunctuations, AreLawful, job_in, lines_by, outs_by, report_by, run_lines, history_of}
use Rattle.pj_run.specs.Stops.{files_status, stop_line, IsStopTold}
use Rattle.pj_run.specs.Whole.{LeavesWhole}
use Rattle.pj_run.proofs.OutputLaws.{legal_run, whole_run}
use Rattle.pj_run.proofs.Planned.{IsPlanned}
use Rattle.pj_whole_laws.specs.Whole.{IsWholeHistory}
use Rattle.pj_whole_laws.proofs.Whole.{answers, is-lawful, punctuates, sorted-lines}
use Rattle.pj_crew_runs.specs.Limits.{ComesBeyond}
use Rattle.pj_crew_runs.specs.Runs.{IsFrontHistory}
use Rattle.pj_parallel_files.specs.Causes.{WorkersCause}
use Rattle.pj_parallel_files.specs.Histories.{FilesLeave, MadeWhole}
use Rattle.pj_prepare.specs.declared.calls.Prepared.{Prepared}
use Rattle.pj_prepare.specs.declared.stops.PlanStop.{PlanStop}
use Rattle.pj_prepare.specs.Calls.{is_nothing, leading, Call, file_names, first_file, job_of, operand, stream_files, IsTold}
use Rattle.pj_prepare.specs.Refusals.{Unprepared}
use Rattle.pj_prepare.specs.Scripts.{HasSteps, IsSetUp, ReadsScript}
use Rattle.pj_prepare.specs.Stops.{plan_status, refusal_text}
use Rattle.pj_alone.specs.Endings.{ending_of, stop_name}
use Rattle.pj_alone.specs.Promises.{KeepsAll}
use Rattle.pj_alone.proofs.CallLaws.{all_read, at_operand, beyond, ended_done, ended_stop, faulted, stop_handed, too_large, unopened, write_failed}
use Rattle.pj_alone.proofs.Completing.{completes_by}
use Rattle.pj_alone.proofs.EarlyLaws.{IsNoRefusal, IsNoStop, answers_built, early_lines, early_never, ended_early, no_refusal, stop_never}
use Rattle.pj_alone.proofs.MemoryLaws.{stopped_memory}
use Rattle.pj_alone.proofs.PlanPromises.{keeps_refused}
use Rattle.pj_alone.proofs.RunPromises.{fits, is_built, lead_read, named, number, plays, planned, read_all, reads_steps, runs_alone, same, scripted, seen, some, told}
use Rattle.pj_alone.proofs.StaysLaws.{IsReady, front_right, never_early}
use Rattle.pj_together.specs.Promises.{KeepsTogether}
use Rattle.pj_together.specs.Runs.{AreAny, AreCounts, BeyondLimit, IsOver, MadeBy, RunLeft, StayOf}
use Rattle.pj_together.proofs.Lines.{whole_due, whole_is_front}
use Rattle.pj_together.proofs.Stopping.{by_workers, comes_more, leaves_run, stopped_right}

-- ---- the plan was not had

pub keeps_unread : (call : Call) (after : FolderState) (old new : SinkState) → is_nothing call.task ≡ false → (stop : PlanStop) → OpensAtMost 1 call.names call.folder after → StayOutside (take 1 call.names) call.folder after
    → Unprepared stop call after → Delivered (refusal_text stop) old new → HandedOn old new → KeepsTogether (ending_of call (plan_status stop) after old new)
keeps_unread call after old new something stop most stay cause line handed =
    let never : (other : Status) → plan_status stop ≡ other → IsNoRefusal other → ⊥ = λ other is no. early_never stop other is no in
    let k : KeepsAll (ending_of call (plan_status stop) after old new) = keeps_refused call after old new something stop most stay cause line handed in
    record {
      answer = λ runs is. absurd (never Done is tt);
      punctuations = λ runs is. absurd (never Done is tt);
      lawful = λ runs is. absurd (never Done is tt);
      one_history = λ runs is. absurd (never Done is tt);
      one_thread_bytes = λ sorted runs is. absurd (never Done is tt);
      tallies = λ runs is. absurd (never Done is tt);
      made = k.made;
      read_to_end = k.read_to_end;
      ending = ended_early RunLeft call after old new stay stop most cause line;
      never_retracted = λ writes all t. never_early (StayOf call) stop old new t (early_lines stop call after cause) line;
      whole_lines = k.whole_lines;
      handed_on = k.handed_on;
      cause_of_done = λ is. absurd (never Done is tt);
      cause_of_usage = k.cause_of_usage;
      usage = k.usage;
      cause_of_plan_limit = k.cause_of_plan_limit;
      cause_of_plan_refused = k.cause_of_plan_refused;
      cause_of_file_count = k.cause_of_file_count;
      cause_of_unsafe = k.cause_of_unsafe;
      refused = k.refused;
      cause_of_script_limit = k.cause_of_script_limit;
      cause_of_script_refused = k.cause_of_script_refused;
      script_refused = k.script_refused;
      cause_of_open_fault = k.cause_of_open_fault;
      cause_of_read_fault = k.cause_of_read_fault;
      cause_of_write_fault = k.cause_of_write_fault;
      cause_of_limit = λ node is. absurd (never (Limit (Node node)) is tt);
      cause_of_file_limit = k.cause_of_file_limit;
      completes = k.completes;
    }

-- ---- the plan was read

bare_steps : (script : Option (List ℕ)) (nodes : List PlanNode) (folder : FolderState) → script ≡ None → HasSteps script nodes folder None
bare_steps None nodes folder is = refl
bare_steps (Some name) nodes folder is = absurd (cc)

bare_opens : (script : Option (List ℕ)) (now : FolderState) → script ≡ None → ReadsScript script now now
bare_opens None now is = record {
  opened = λ name. ((λ t. inl t), λ t. elim t [ inl was ↦ was | inr none ↦ absurd none ]);
  others = record { faults = λ name other. refl; last = λ name other. refl };
  last = λ name e. absurd (cc);
}
bare_opens (Some name) now is = absurd (cc)

-- no script stands between the plan and the files
set_up : (call : Call) (ready : Prepared) (now : FolderState) → IsOver ready call now → IsSetUp ready None call now
set_up call ready now over =
    scripted call ready None now now over.prepared (bare_steps call.script ready.core.plan.nodes now over.bare) refl refl (λ name. omega arith) (bare_opens call.script now over.bare)

module _ (call : Call) (ready : Prepared) (mid new : FolderState) (over : IsOver ready call mid) (files : List (List ℕ)) (are : files ≡ file_names call) where
  abbrev s : IsSetUp ready None call mid
  s = set_up call ready mid over

  abbrev job : Job
  job = job_in ready.writing ready.core

  abbrev fs : List (List ℕ)
  fs = files_named files mid

  abbrev lead : List (List ℕ)
  lead = leading (operand call.names 1) call.script

  plan : IsPlanned job
  plan = planned call ready None mid new s files are

  here : fs ≡ stream_files call
  here = same call ready None mid new s files are

  asks : IsTold call → job_of call ≡ Some job
  asks = read_all call ready None mid new s files are

  tells : IsTold call → AreTold files mid
  tells = told call ready None mid new s files are

  is_ready : IsTold call → IsReady job call
  is_ready all = record { read = asks all; planned = plan; names = s.run.fresh.names }

  -- ---- the run is done

  -- of a whole history this is so, whose lines were written
  made_by : (Holds : Job → List (List ℕ) → List Element → List (List ℕ) → Type 0) (first now : SinkState) (all : IsTold call) → IsTrue now.told → (m : MadeWhole job fs first now)
      → Holds job fs (elements_out (outs_by job m.history)) (report_by job fs m.history (elements_out (outs_by job m.history))) → MadeBy Holds call first now
  made_by Holds first now all t m holds =
      subst (λ (had : List (List ℕ)). (history : List Entry) → IsWholeHistory job had history → now.written ≡ first.written ++ flat (lines_by job had history)
      → Holds job had (elements_out (outs_by job history)) (report_by job had history (elements_out (outs_by job history))) → MadeBy Holds call first now)
      (sym here) (λ history whole written holds. record { job = job; asked = asks all; history = history; whole = whole; written = written; holds = holds }) m.history m.whole (m.written t) holds

  -- sorted, its lines are those of the run on one thread
  sorted_so : job.form ≡ Sorted → (history : List Entry) → IsWholeHistory job fs history → lines_by job fs history ≡ run_lines job fs
  sorted_so form history w = sorted-lines job plan.sound plan.certified fs form history w.legal w.whole (history_of job fs) (legal_run job fs plan) (whole_run job fs plan refl)

  pub keeps_done : (first now : SinkState) → (AreTold files mid → MadeWhole job fs first now) → AreReadToEnd files mid new
      → ((name : List ℕ) → IsTrue (mid.told name) → IsReadToEnd name mid mid → IsReadToEnd name mid new) → OpensFirst (length files) files mid new → StayOutside files mid new → now.held ≡ [] → KeepsTogether (ending_of call Done new first now)
  keeps_done first now made last keeps opened stay held =
      let n = named call ready None mid new s files are in
      let whole = λ (all : IsTold call). made (tells all) in
      record {
        answer = λ _ _ all t. let m = whole all in made_by IsAnswer first now all t m (answers job plan.sound plan.certified fs m.history m.whole []);
        punctuations = λ _ _ all t. let m = whole all in made_by ArePunctuations first now all t m (punctuates job plan.sound plan.certified fs m.history m.whole []);
        lawful = λ _ _ all t. let m = whole all in made_by AreLawful first now all t m (is-lawful job plan.sound plan.certified fs m.history m.whole);
        one_history = λ _ _ all t. made_by AreAny first now all t (whole all) tt;
        one_thread_bytes = λ sorted _ _ all t.
            let m = whole all in
            let form : job.form ≡ Sorted = s.run.asked.formed ∙ sorted in
            (job, asks all, m.written t ∙ (ap (λ (lines : List (List ℕ)). first.written ++ flat lines) (sorted_so form m.history m.whole) ∙ ap (λ (had : List (List ℕ)). first.written ++ flat (run_lines job had)) here));
        tallies = λ _ _ all t. let m = whole all in made_by AreCounts first now all t m (m.history, m.whole, refl, refl);
        made = λ seed count makes _. absurd (runs_alone call ready None mid new s files are seed count makes);
        read_to_end = λ _. all_read call files mid are s.told s.contents lead new n (lead_read call ready None mid new s files are keeps) last;
        ending = ended_done call lead files mid new n are (number call ready None mid new s files are) s.told s.contents s.others RunLeft s.opened (is_built call ready None mid new s files are) (seen call ready None mid new s files are) first now opened stay;
        never_retracted = λ _ all t.
            let m = whole all in
            let lines = lines_by job fs m.history in
            let front = whole_is_front job fs m.history m.whole in
            let due = whole_due job fs m.history s.run.fresh.names in
            front_right (StayOf call) job m.history due.outputs due.more lines (flat lines) [] first.written now.written plan m.whole.legal
            (λ firsts stay. (job, asks all, m.history, subst (λ (had : List (List ℕ)). IsFrontHistory job had m.history) here front, stay))
            due.all due.are (append-nil (flat lines)) (m.written t);
        whole_lines = λ _ is. absurd (cc);
        handed_on = (inl held, λ _. held);
        cause_of_done = λ _. (
          fits call ready None mid new s files are,
          plays call ready None mid new s files are call.script refl s.steps (λ all. refl),
          λ all. let m = whole all in (job, asks all, m.history, subst (λ (had : List (List ℕ)). IsWholeHistory job had m.history) here m.whole),
        );
        cause_of_usage = λ is. absurd (cc);
        usage = λ none. absurd (false≢true (sym (ap is_nothing (is_built call ready None mid new s files are).form) ∙ none));
        cause_of_plan_limit = λ is. absurd (cc);
        cause_of_plan_refused = λ line why is. absurd (cc);
        cause_of_file_count = λ want got is. absurd (cc);
        cause_of_unsafe = λ node risk is. absurd (cc);
        refused = answers_built call Done (is_built call ready None mid new s files are);
        cause_of_script_limit = λ is. absurd (cc);
        cause_of_script_refused = λ line is. absurd (cc);
        script_refused = reads_steps call ready None mid new s files are Done;
        cause_of_open_fault = λ n is. absurd (cc);
        cause_of_read_fault = λ n is. absurd (cc);
        cause_of_write_fault = λ is. absurd (cc);
        cause_of_limit = λ node is. absurd (cc);
        cause_of_file_limit = λ stream is. absurd (cc);
        completes = λ all fit playable none room. inl refl;
      }

  -- ---- the run stopped

  beyond_so : (node : ℕ) → comes_more job files mid node → BeyondLimit call node
  beyond_so node more = record {
    built = is_built call ready None mid new s files are;
    beyond = λ all. (job, asks all, subst (λ (had : List (List ℕ)). ComesBeyond job had node) here (more (tells all)));
  }

  -- no step is refused where there is no script
  never_scripted : (stop : FilesStop) (at : ℕ) (first now : SinkState) → WorkersCause stop job files mid new first now → files_status (first_file call) stop ≡ ScriptRefused at → ⊥
  never_scripted (Opening (Fault stream)) at first now cause e = cc
  never_scripted (Opening OpeningMemory) at first now cause e = cc
  never_scripted (Run (RunFault stream)) at first now cause e = cc
  never_scripted (Run (TooLarge stream)) at first now cause e = cc
  never_scripted (Run (RunLimit node)) at first now cause e = cc
  never_scripted (Run (RunRefused line)) at first now cause e = cause
  never_scripted (Run WriteFailed) at first now cause e = cc
  never_scripted (Run RunMemory) at first now cause e = cc
  never_scripted (Run (RunCut (CoreLimit node))) at first now cause e = cc
  never_scripted (Run (RunCut CoreMemory)) at first now cause e = cc
  never_scripted (Run (CutRead stream)) at first now cause e = cc
  never_scripted (Run (CutLarge stream)) at first now cause e = cc
  never_scripted (Run (CutRefused line)) at first now cause e = cause

  pub keeps_stopped : (stop : FilesStop) (name : List ℕ) (first now after : SinkState) → name ≡ stop_name job.nodes (files_status (first_file call) stop) → WorkersCause stop job files mid new first now
      → (AreTold files mid → IsTrue now.told → FilesLeave stop job files mid new first.written now.written) → (IsTrue now.told → LeavesWhole (files_cut stop) first.written now.written)
      → ((opening : OpeningStop) → stop ≡ Opening opening → now ≡ first) → FilesOpened (Err stop) files mid new
      → StayOutside files mid new → first.faults ≤ now.faults → (IsTrue after.told → IsTrue now.told) → Delivered (stop_line (first_file call) stop name) now after → (IsStopTold stop → HandedOn now after) → now.faults ≤ after.faults
      → KeepsTogether (ending_of call (files_status (first_file call) stop) new first after)
  keeps_stopped stop name first now after is_name cause leaves whole unchanged opened stay later tells_on line handed more =
      let F = first_file call in
      let n = named call ready None mid new s files are in
      let num = number call ready None mid new s files are in
      let made = is_built call ready None mid new s files are in
      let by = by_workers stop job files mid new first now cause in
      let over_so = comes_more job files mid in
      let never : (other : Status) → files_status F stop ≡ other → IsNoStop other → ⊥ = λ other is no. stop_never F stop other is no in
      let open_fault = λ (k : ℕ) (is : files_status F stop ≡ OpenFault k). unopened call lead files mid new n are num s.told s.contents s.others over_so s.later stop first now k made s.opened by opened is in
      let read_fault = λ (k : ℕ) (is : files_status F stop ≡ ReadFault k). faulted call lead files mid new n are num s.told s.contents s.others over_so s.later stop first now k made by is in
      let write_fault = λ (is : files_status F stop ≡ WriteFault). write_failed call lead files mid new n are num s.told s.contents s.others over_so stop first now after by more is in
      let limit = λ (node : ℕ) (is : files_status F stop ≡ Limit (Node node)). beyond_so node (beyond call lead files mid new n are num s.told s.contents s.others over_so stop first now node by is) in
      let file_limit = λ (stream : ℕ) (is : files_status F stop ≡ Limit (File stream)). too_large call lead files mid new n are num s.told s.contents s.others over_so stop first now stream made by is in
      let script_line = λ (at : ℕ) (is : files_status F stop ≡ ScriptRefused at). absurd (never_scripted stop at first now cause is) in
      let left = λ (all : IsTold call) (t : IsTrue after.told). leaves (tells all) (tells_on t) in
      let fit = fits call ready None mid new s files are in
      record {
        answer = λ _ is. absurd (never Done is tt);
        punctuations = λ _ is. absurd (never Done is tt);
        lawful = λ _ is. absurd (never Done is tt);
        one_history = λ _ is. absurd (never Done is tt);
        one_thread_bytes = λ _ _ is. absurd (never Done is tt);
        tallies = λ _ is. absurd (never Done is tt);
        made = λ seed count makes _. absurd (runs_alone call ready None mid new s files are seed count makes);
        read_to_end = λ is. absurd (never Done is tt);
        ending = ended_stop call lead files mid new n are num s.told s.contents s.others RunLeft s.opened made (seen call ready None mid new s files are) (some call ready None mid new s files are) stop job.nodes name first now after is_name unchanged opened stay
            (λ stream of all t. (subst (λ (st : FilesStop). FilesLeave st job files mid new first.written now.written) of (left all t)).1)
            (leaves_run stop job call files mid new name first now after here (at_operand call lead files mid new n are num s.told s.contents s.others) are asks is_name cause left later more line)
            line;
        never_retracted = λ _ all t. stopped_right F stop job call files mid new name first now after here (is_ready all) t is_name (left all t) line;
        whole_lines = λ _ is. stopped_memory over_so F stop files mid new name first now after by (λ t. whole (tells_on t)) later more line is;
        handed_on = (stop_handed over_so stop files mid new first now after by later more handed, λ is. absurd (never Done is tt));
        cause_of_done = λ is. absurd (never Done is tt);
        cause_of_usage = λ is. absurd (never Usage is tt);
        usage = λ none. absurd (false≢true (sym (ap is_nothing made.form) ∙ none));
        cause_of_plan_limit = λ is. absurd (never (Limit Plan) is tt);
        cause_of_plan_refused = λ at why is. absurd (never (PlanRefused at why) is tt);
        cause_of_file_count = λ want got is. absurd (never (FileCount want got) is tt);
        cause_of_unsafe = λ node risk is. absurd (never (Unsafe node risk) is tt);
        refused = answers_built call (files_status F stop) made;
        cause_of_script_limit = λ is. absurd (never (Limit Script) is tt);
        cause_of_script_refused = script_line;
        script_refused = reads_steps call ready None mid new s files are (files_status F stop);
        cause_of_open_fault = open_fault;
        cause_of_read_fault = read_fault;
        cause_of_write_fault = λ is. (write_fault is, fit);
        cause_of_limit = limit;
        cause_of_file_limit = file_limit;
        completes = completes_by (files_status F stop) call new first after (record {
          usage = λ is. absurd (never Usage is tt);
          refused = λ other is of. absurd (never other is (no_refusal other of));
          script_limit = λ is. absurd (never (Limit Script) is tt);
          line_refused = script_line;
          open_fault = open_fault;
          read_fault = read_fault;
          write_fault = λ is. (write_fault is, fit);
          limit = λ node is. let b = limit node is in record { built = made; beyond = λ all. let o = b.beyond all in (o.0, o.1, o.2.counted, o.2.many) };
          file_limit = file_limit;
        });
      }
