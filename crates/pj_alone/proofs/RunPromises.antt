-- A run over files, once plan and script were read: all promises where it is done, and where it stopped.
use Rattle.std.proofs.Common.{Bool, ◌≡◌, ◌≤◌, ◌+◌, ℕ, suc, inl, inr, List, [], ◌∷◌, ◌++◌, length, Option, Some, None, Err, IsTrue, refl, ap, sym, ◌∙◌, subst, arith}
use Rattle.std.proofs.lemmas.Bool.{false≢true}
use Rattle.pj_io.specs.States.{FolderState, SinkState}
use Rattle.pj_plan.specs.declared.node.PlanNode.{PlanNode}
use Rattle.pj_report.specs.declared.status.Status.{Status}
use Rattle.pj_report.specs.declared.status.Status.TheVariants.{Done, Usage, OpenFault, ReadFault, PlanRefused, FileCount, Unsafe, ScriptRefused, WriteFault, Limit}
use Rattle.pj_report.specs.declared.status.LimitOf.TheVariants.{Plan, Script, Node, File}
use Rattle.pj_report.specs.Written.{flat, Delivered, HandedOn, Leaves}
use Rattle.pj_feed.specs.declared.stops.OpeningStop.{OpeningStop}
use Rattle.pj_feed.specs.Named.{files_named, AreTold}
use Rattle.pj_feed.specs.Opened.{AreReadToEnd, IsReadToEnd, OpensFirst, StayOutside}
use Rattle.pj_run.specs.declared.stops.FilesStop.{FilesStop}
use Rattle.pj_run.specs.declared.stops.FilesStop.TheVariants.{Opening}
use Rattle.pj_run.specs.Cuts.{files_cut}
use Rattle.pj_run.specs.Jobs.{Job}
use Rattle.pj_run.specs.RunEnds.{FilesCause, FilesEnd, FilesOpened}
use Rattle.pj_run.specs.Runs.{IsAnswer, ArePunctuations, AreLawful, AreTallies, IsEnabled, due_lines, due_where, job_by, outputs_of, report_of, run_lines, GoesBeyond, StaysInLimit}
use Rattle.pj_run.specs.Stops.{files_status, stop_line, IsStopTold}
use Rattle.pj_run.specs.Whole.{LeavesWhole}
use Rattle.pj_run.proofs.OutputLaws.{outputs_lawful, outputs_answer, outputs_puncts}
use Rattle.pj_run.proofs.Planned.{IsPlanned, new_planned}
use Rattle.pj_script.specs.declared.step.ScriptStep.{ScriptStep}
use Rattle.pj_prepare.specs.declared.calls.Prepared.{Prepared}
use Rattle.pj_prepare.specs.declared.calls.Ready.{Ready}
use Rattle.pj_prepare.specs.declared.calls.Ready.TheVariants.{Run as ReadyRun}
use Rattle.pj_prepare.specs.Ready.{IsReadyFor}
use Rattle.pj_prepare.specs.Calls.{making, running, is_nothing, leading, script_names, Call, file_names, first_file, job_of, operand, script_fault, stream_files, takes_plan, HasReadPlan, HasToldJob, IsTold, IsToldIn, Task}
use Rattle.pj_alone.specs.Endings.{ending_of, stop_name, RunLeaves, AreSteps, IsScriptRead}
use Rattle.pj_prepare.specs.Plans.{outline_in}
use Rattle.pj_alone.specs.Promises.{KeepsAll}
use Rattle.pj_prepare.specs.Scripts.{HasSteps, IsPrepared, IsSetUp, ReadsScript, SpellsSteps}
use Rattle.pj_io.specs.Folders.{NoneFalls}
use Rattle.pj_feed.proofs.Names.{same_or_other}
use Rattle.pj_feed.proofs.Outside.{stay_then, stay_wider}
use Rattle.pj_alone.specs.Top.{AnswersScript, BeyondLimit, IsBuilt, IsFit, CanPlay, RefusesScript, KeepsLimit}
use Rattle.pj_alone.proofs.CallLaws.{all_read, are_steps, beyond, built, cause_by, ended_done, ended_stop, faulted, files_same, files_told, goes_over, job_read, leaves_run, line_refused, none_refused, stop_handed, steps_are, told_named, too_large, unopened, write_failed}
use Rattle.pj_alone.proofs.Completing.{comes_over, completes_by}
use Rattle.pj_alone.proofs.EarlyLaws.{answers_built, no_refusal, stop_never, IsNoStop}
use Rattle.pj_alone.proofs.MemoryLaws.{stopped_memory}
use Rattle.pj_prepare.proofs.Operands.{count_leading, opens_on}
use Rattle.pj_alone.proofs.RunLaws.{ran}
use Rattle.pj_alone.proofs.VerdictLaws.{ready_run}
use Rattle.std.specs.Prelude.{take}
use Rattle.pj_alone.proofs.StaysLaws.{IsReady, never_done, never_stopped}

-- ---- the script was read behind the plan

-- what is so of a folder that tells the same
steps_told : (script : Option (List ℕ)) (nodes : List PlanNode) (old first : FolderState) (steps : Option (List (ℕ × ScriptStep))) → old.told ≡ first.told → old.contents ≡ first.contents → HasSteps script nodes old steps
    → HasSteps script nodes first steps
steps_told None nodes old first steps told contents has = has
steps_told (Some name) nodes old first steps told contents has = (
  has.0,
  has.1,
  has.2,
  λ t. subst (λ (f : List ℕ → List ℕ). SpellsSteps (f name) nodes has.0) contents (has.3 (subst (λ (f : List ℕ → Bool). IsTrue (f name)) (sym told) t)),
)

-- the plan's file was read to its end before, and still is where it is the script's too
plan_last : (plan : List ℕ) (script : Option (List ℕ)) (old mid : FolderState) → ReadsScript script old mid → IsTrue (old.told plan) → IsReadToEnd plan old old → IsReadToEnd plan old mid
plan_last plan None old mid reads told end = reads.others.last plan (λ none. none) ∙ end
plan_last plan (Some name) old mid reads told end = elim (same_or_other plan name) [
  | inl same ↦ subst (λ (n : List ℕ). IsReadToEnd n old mid) (sym same) (reads.last name refl (subst (λ (n : List ℕ). IsTrue (old.told n)) same told))
  | inr other ↦ reads.others.last plan (λ there. elim there [ inl same ↦ other (sym same) | inr none ↦ none ]) ∙ end
]

pub scripted : (call : Call) (ready : Prepared) (steps : Option (List (ℕ × ScriptStep))) (old mid : FolderState) → IsPrepared ready call old → HasSteps call.script ready.core.plan.nodes old steps → mid.told ≡ old.told
    → mid.contents ≡ old.contents → NoneFalls old.faults mid.faults → ReadsScript call.script old mid → IsSetUp ready steps call mid
scripted call ready steps old mid p has told contents later reads =
    let plan : List ℕ = operand call.names 1 in
    record {
      run = p.run;
      steps = steps_told call.script ready.core.plan.nodes old call.folder steps p.told p.contents has;
      told = told ∙ p.told;
      contents = contents ∙ p.contents;
      last = λ t.
          let long = ap (λ (f : List ℕ → List ℕ). length (f plan)) p.contents in
          plan_last plan call.script old mid reads (subst (λ (f : List ℕ → Bool). IsTrue (f plan)) (sym p.told) t) (p.last (ap takes_plan p.run.form.form) t ∙ sym long) ∙ long;
      script_last = λ name is t.
          reads.last name is (subst (λ (f : List ℕ → Bool). IsTrue (f name)) (sym p.told) t) ∙ ap (λ (f : List ℕ → List ℕ). length (f name)) p.contents;
      opened =
          let both : length (plan ∷ []) + length (script_names call.script) ≡ length (leading plan call.script) = omega arith in
          subst (λ (n : ℕ). OpensFirst n (leading plan call.script) call.folder mid) both (opens_on (plan ∷ []) (script_names call.script) (length (script_names call.script)) call.folder old mid p.opened reads.opened);
      others = stay_then (leading plan call.script) call.folder old mid
          (stay_wider (plan ∷ []) (leading plan call.script) call.folder old (λ name there. elim there [ inl same ↦ inl same | inr none ↦ absurd none ]) p.others)
          (stay_wider (script_names call.script) (leading plan call.script) old mid (λ name there. inr there) reads.others);
      later = λ name. let a = p.later name in let b = later name in omega (arith, a, b);
    }

-- ---- the plan was read

-- a call whose plan was read and is to be run
pub prepared_so : (call : Call) (found : Ready) (ready : Prepared) (now : FolderState) → IsReadyFor call found → found ≡ ReadyRun ready → now.told ≡ call.folder.told → now.contents ≡ call.folder.contents → HasReadPlan call now
    → OpensFirst 1 call.names call.folder now → StayOutside (take 1 call.names) call.folder now → NoneFalls call.folder.faults now.faults → IsPrepared ready call now
prepared_so call found ready now is of told contents last opened others later =
    let run = ready_run call found ready is of in
    record {
      run = run;
      told = told;
      contents = contents;
      last = last;
      opened = subst (λ (ns : List (List ℕ)). OpensFirst 1 ns call.folder now) run.form.named opened;
      others = subst (λ (ns : List (List ℕ)). StayOutside (take 1 ns) call.folder now) run.form.named others;
      later = later;
    }

-- ---- its run

module _ (call : Call) (ready : Prepared) (steps : Option (List (ℕ × ScriptStep))) (mid new : FolderState) (s : IsSetUp ready steps call mid) (files : List (List ℕ)) (are : files ≡ file_names call) where
  abbrev lead : List (List ℕ)
  lead = leading (operand call.names 1) call.script

  abbrev nodes : List PlanNode
  nodes = ready.core.plan.nodes

  abbrev job : Job
  job = job_by steps ready.writing ready.core

  abbrev fs : List (List ℕ)
  fs = files_named files mid

  pub is_built : IsBuilt call
  is_built = built call (outline_in ready.core) s.run.form s.run.count s.run.safe s.run.read

  pub named : call.names ≡ lead ++ files
  named = s.run.form.named ∙ ap (λ (ns : List (List ℕ)). lead ++ ns) (sym are)

  pub number : first_file call ≡ suc (length lead)
  number = count_leading (operand call.names 1) call.script

  pub some : 1 ≤ length lead
  some = omega arith

  pub fits : IsFit call.task call
  fits = subst (λ t. IsFit t call) (sym is_built.form) is_built

  pub read : HasToldJob call → job_of call ≡ Some job
  read t = job_read call ready steps s.run.asked (s.run.read t.0).0 (steps_are call.script nodes call.folder steps s.steps t.1)

  pub read_all : IsTold call → job_of call ≡ Some job
  read_all all = read (all.plan, all.script)

  pub planned : IsPlanned job
  planned = new_planned steps ready.writing ready.core s.run.fresh (are_steps call.script nodes call.folder steps s.steps)

  is_ready : IsTold call → IsReady job call
  is_ready all = record { read = read_all all; planned = planned; names = s.run.fresh.names }

  pub told : IsTold call → AreTold files mid
  told all = files_told call files mid are s.told s.contents all

  pub same : fs ≡ stream_files call
  same = files_same call files mid are s.told s.contents

  pub runs_alone : (seed count : ℕ) → call.task ≡ making seed count → ⊥
  runs_alone seed count makes = let e : running ≡ making seed count = sym is_built.form ∙ makes in cc

  -- ---- the script

  -- each line of it is a step, and it is of few enough bytes
  pub plays : (script : Option (List ℕ)) → call.script ≡ script → HasSteps script nodes call.folder steps → (AreTold (file_names call) call.folder → IsEnabled job (stream_files call)) → CanPlay script call
  plays None is has enabled = tt
  plays (Some name) is has enabled = λ t. (
    (has.3 (subst (λ (script : Option (List ℕ)). IsToldIn script call.folder) is t.1)).0,
    (job, read t, none_refused call.script nodes call.folder steps s.steps t.1, enabled),
  )

  -- the same, whatever files are told
  are_read : (script : Option (List ℕ)) → call.script ≡ script → HasSteps script nodes call.folder steps → AreSteps script call
  are_read None is has = tt
  are_read (Some name) is has = λ t. (
    (has.3 (subst (λ (script : Option (List ℕ)). IsToldIn script call.folder) is t.1)).0,
    (outline_in ready.core, (s.run.read t.0).0, none_refused call.script nodes call.folder steps s.steps t.1),
  )

  pub seen : IsScriptRead call
  seen = are_read call.script refl s.steps

  -- a script that was read is not refused
  pub reads_steps : (status : Status) → AnswersScript status call
  reads_steps status b t name is other refuses = absurd (go (subst (λ (script : Option (List ℕ)). HasSteps script nodes call.folder steps) is s.steps) refuses)
    where
      go : HasSteps (Some name) nodes call.folder steps → RefusesScript call (call.folder.contents name) other → ⊥
      go has (inl long) =
          let few = (has.3 (subst (λ (script : Option (List ℕ)). IsToldIn script call.folder) is t.1)).0 in
          let many = long.0 in
          omega (arith, few, many)
      go has (inr fault) =
          let r = fault.1 in
          let jobs : job ≡ r.0 = (let e : Some job ≡ Some r.0 = sym (read t) ∙ r.2 in cc e) in
          let e : None ≡ Some r.1 = sym (none_refused call.script nodes call.folder steps s.steps t.1) ∙ (ap (λ (j : Job). script_fault call j.nodes) jobs ∙ r.3) in
          cc e

  -- ---- what was read

  module _ (keeps : (name : List ℕ) → IsTrue (mid.told name) → IsReadToEnd name mid mid → IsReadToEnd name mid new) where
    -- what was read to its end before the files still is
    still : (name : List ℕ) → IsTrue (call.folder.told name) → IsReadToEnd name call.folder mid → IsReadToEnd name call.folder new
    still name t end =
        let long = ap (λ (f : List ℕ → List ℕ). length (f name)) s.contents in
        keeps name (subst (λ (f : List ℕ → Bool). IsTrue (f name)) (sym s.told) t) (end ∙ sym long) ∙ long

    script_read_on : (script : Option (List ℕ)) → call.script ≡ script → AreReadToEnd (script_names script) call.folder new
    script_read_on None is = tt
    script_read_on (Some name) is = ((λ t. still name t (s.script_last name is t)), tt)

    pub lead_read : AreReadToEnd lead call.folder new
    lead_read = ((λ t. still (operand call.names 1) t (s.last t)), script_read_on call.script refl)

  -- ---- the run is done

  -- within its limit
  stays_in : (IsTold call → StaysInLimit job (stream_files call)) → KeepsLimit call.task call
  stays_in within = subst (λ (t : Task). KeepsLimit t call) (sym is_built.form) (λ all. (job, read_all all, within all))

  pub keeps_done : (first now : SinkState) → (AreTold files mid → IsTrue now.told → now.written ≡ first.written ++ flat (due_lines job fs)) → (AreTold files mid → IsEnabled job fs) → (AreTold files mid → StaysInLimit job fs) → AreReadToEnd files mid new
      → ((name : List ℕ) → IsTrue (mid.told name) → IsReadToEnd name mid mid → IsReadToEnd name mid new) → OpensFirst (length files) files mid new → StayOutside files mid new → now.held ≡ [] → KeepsAll (ending_of call Done new first now)
  keeps_done first now written enabled within last keeps opened stay held =
      let lines : AreTold files mid → IsTrue now.told → now.written ≡ first.written ++ flat (run_lines job fs) =
      (λ all t. subst (λ (refused : Option ℕ). now.written ≡ first.written ++ flat (due_where refused job fs)) (enabled all) (written all t)) in
      let goes_on : AreTold (file_names call) call.folder → IsEnabled job (stream_files call) =
      (λ all. subst (IsEnabled job) same (enabled (told_named files call.folder mid s.told (subst (λ (ns : List (List ℕ)). AreTold ns call.folder) (sym are) all)))) in
      let report = report_of job fs (outputs_of job fs) in
      record {
        answer = λ _ _ all t. ran IsAnswer job call fs first now (read_all all) (enabled (told all)) same (lines (told all) t) (outputs_answer job fs planned (enabled (told all)) report);
        punctuations = λ _ _ all t. ran ArePunctuations job call fs first now (read_all all) (enabled (told all)) same (lines (told all) t) (outputs_puncts job fs planned (enabled (told all)) report);
        lawful = λ _ _ all t. ran AreLawful job call fs first now (read_all all) (enabled (told all)) same (lines (told all) t) (outputs_lawful job fs planned);
        one_thread_bytes = λ _ _ all t. (job, read_all all, lines (told all) t ∙ ap (λ (bytes : List (List ℕ)). first.written ++ flat (run_lines job bytes)) same);
        tallies = λ _ _ all t. ran AreTallies job call fs first now (read_all all) (enabled (told all)) same (lines (told all) t) refl;
        made = λ seed count makes _. absurd (runs_alone seed count makes);
        read_to_end = λ _. all_read call files mid are s.told s.contents lead new named (lead_read keeps) last;
        ending = ended_done call lead files mid new named are number s.told s.contents s.others RunLeaves s.opened is_built seen first now opened stay;
        never_retracted = λ _ all t. never_done job call first.written now.written (is_ready all) (lines (told all) t ∙ ap (λ (bytes : List (List ℕ)). first.written ++ flat (run_lines job bytes)) same);
        whole_lines = λ _ is. absurd (cc);
        handed_on = (inl held, λ _. held);
        cause_of_done = λ _. (fits, plays call.script refl s.steps goes_on, stays_in (λ all. subst (λ (bytes : List (List ℕ)). StaysInLimit job bytes) same (within (told all))));
        cause_of_usage = λ is. absurd (cc);
        usage = λ none. absurd (false≢true (sym (ap is_nothing is_built.form) ∙ none));
        cause_of_plan_limit = λ is. absurd (cc);
        cause_of_plan_refused = λ line why is. absurd (cc);
        cause_of_file_count = λ want got is. absurd (cc);
        cause_of_unsafe = λ node risk is. absurd (cc);
        refused = answers_built call Done is_built;
        cause_of_script_limit = λ is. absurd (cc);
        cause_of_script_refused = λ line is. absurd (cc);
        script_refused = reads_steps Done;
        cause_of_open_fault = λ n is. absurd (cc);
        cause_of_read_fault = λ n is. absurd (cc);
        cause_of_write_fault = λ is. absurd (cc);
        cause_of_limit = λ node is. absurd (cc);
        cause_of_file_limit = λ stream is. absurd (cc);
        completes = λ all fit playable none room. inl refl;
      }

  -- ---- the run stopped

  goes_so : (node : ℕ) → goes_over job files mid node → BeyondLimit call node
  goes_so node over = record { built = is_built; beyond = λ all. (job, read_all all, subst (λ (fs : List (List ℕ)). GoesBeyond job fs node) same (over (told all))) }

  pub keeps_stopped : (stop : FilesStop) (name : List ℕ) (first now after : SinkState) → name ≡ stop_name nodes (files_status (first_file call) stop) → FilesCause stop job files mid new first now
      → (AreTold files mid → IsTrue now.told → Leaves (files_cut stop) (due_lines job fs) first.written now.written) → (IsTrue now.told → LeavesWhole (files_cut stop) first.written now.written)
      → (AreTold files mid → IsTrue now.told → FilesEnd stop job files mid new first.written now.written) → ((opening : OpeningStop) → stop ≡ Opening opening → now ≡ first) → FilesOpened (Err stop) files mid new
      → StayOutside files mid new → first.faults ≤ now.faults → (IsTrue after.told → IsTrue now.told) → Delivered (stop_line (first_file call) stop name) now after → (IsStopTold stop → HandedOn now after) → now.faults ≤ after.faults
      → KeepsAll (ending_of call (files_status (first_file call) stop) new first after)
  keeps_stopped stop name first now after is_name cause lines whole ends unchanged opened stay later tells line handed more =
      let F = first_file call in
      let never : (other : Status) → files_status F stop ≡ other → IsNoStop other → ⊥ = λ other is no. stop_never F stop other is no in
      let by = cause_by stop job files mid new first now cause in
      let over = goes_over job files mid in
      let open_fault = λ (n : ℕ) (is : files_status F stop ≡ OpenFault n). unopened call lead files mid new named are number s.told s.contents s.others over s.later stop first now n is_built s.opened by opened is in
      let read_fault = λ (n : ℕ) (is : files_status F stop ≡ ReadFault n). faulted call lead files mid new named are number s.told s.contents s.others over s.later stop first now n is_built by is in
      let write_fault = λ (is : files_status F stop ≡ WriteFault). write_failed call lead files mid new named are number s.told s.contents s.others over stop first now after by more is in
      let limit = λ (node : ℕ) (is : files_status F stop ≡ Limit (Node node)). goes_so node (beyond call lead files mid new named are number s.told s.contents s.others over stop first now node by is) in
      let file_limit = λ (stream : ℕ) (is : files_status F stop ≡ Limit (File stream)). too_large call lead files mid new named are number s.told s.contents s.others over stop first now stream is_built by is in
      let script_line = λ (at : ℕ) (is : files_status F stop ≡ ScriptRefused at). line_refused call lead files mid new named are number s.told s.contents s.others stop job steps first now at is_built s.steps refl read cause is in
      record {
        answer = λ _ is. absurd (never Done is tt);
        punctuations = λ _ is. absurd (never Done is tt);
        lawful = λ _ is. absurd (never Done is tt);
        one_thread_bytes = λ _ is. absurd (never Done is tt);
        tallies = λ _ is. absurd (never Done is tt);
        made = λ seed count makes _. absurd (runs_alone seed count makes);
        read_to_end = λ is. absurd (never Done is tt);
        ending = ended_stop call lead files mid new named are number s.told s.contents s.others RunLeaves s.opened is_built seen some stop job.nodes name first now after is_name unchanged opened stay
            (λ stream of all t. (subst (λ (st : FilesStop). FilesEnd st job files mid new first.written now.written) of (ends (told all) (tells t))).1)
            (leaves_run call lead files mid new named are number s.told s.contents s.others stop job name first now after read is_name cause (λ all t. lines (told all) (tells t)) (λ all t. ends (told all) (tells t)) later more line)
            line;
        never_retracted = λ _ all t. never_stopped F stop job call name first.written now after t (is_ready all) is_name
            (subst (λ (bytes : List (List ℕ)). Leaves (files_cut stop) (due_lines job bytes) first.written now.written) same (lines (told all) (tells t))) line;
        whole_lines = λ _ is. stopped_memory over F stop files mid new name first now after by (λ t. whole (tells t)) later more line is;
        handed_on = (stop_handed over stop files mid new first now after by later more handed, λ is. absurd (never Done is tt));
        cause_of_done = λ is. absurd (never Done is tt);
        cause_of_usage = λ is. absurd (never Usage is tt);
        usage = λ none. absurd (false≢true (sym (ap is_nothing is_built.form) ∙ none));
        cause_of_plan_limit = λ is. absurd (never (Limit Plan) is tt);
        cause_of_plan_refused = λ at why is. absurd (never (PlanRefused at why) is tt);
        cause_of_file_count = λ want got is. absurd (never (FileCount want got) is tt);
        cause_of_unsafe = λ node risk is. absurd (never (Unsafe node risk) is tt);
        refused = answers_built call (files_status F stop) is_built;
        cause_of_script_limit = λ is. absurd (never (Limit Script) is tt);
        cause_of_script_refused = script_line;
        script_refused = reads_steps (files_status F stop);
        cause_of_open_fault = open_fault;
        cause_of_read_fault = read_fault;
        cause_of_write_fault = λ is. (write_fault is, fits);
        cause_of_limit = limit;
        cause_of_file_limit = file_limit;
        completes = completes_by (files_status F stop) call new first after (record {
          usage = λ is. absurd (never Usage is tt);
          refused = λ other is of. absurd (never other is (no_refusal other of));
          script_limit = λ is. absurd (never (Limit Script) is tt);
          line_refused = script_line;
          open_fault = open_fault;
          read_fault = read_fault;
          write_fault = λ is. (write_fault is, fits);
          limit = λ node is. comes_over call node (limit node is);
          file_limit = file_limit;
        });
      }
