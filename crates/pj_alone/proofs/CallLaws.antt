-- What a run over the files of a call leaves of it, once its plan and its script were read.
use Rattle.pj_plan.specs.declared.node.Outline.{Outline}
use Rattle.pj_run.specs.Jobs.{HasScript, Job}
use Rattle.pj_plan.specs.declared.node.PlanNode.{PlanNode}
use Rattle.pj_plan.specs.Nodes.{streams_of}
use Rattle.pj_safety.specs.Safety.{IsSafePlan}
use Rattle.std.proofs.Common.{◌≡◌, ◌≤◌, ◌<◌, ◌+◌, ℕ, suc, Bool, inl, inr, List, [], ◌∷◌, ◌++◌, map, length, take, Option, Some, None, Result, Err, IsTrue, refl, ap, ap₂, sym, ◌∙◌, subst, arith}
use Rattle.std.specs.Prelude.{slice_index_or, ◌^◌, ⊤}
use Rattle.std.proofs.lemmas.List.{length-append, take_all}
use Rattle.pj_io.specs.Causes.{Rose}
use Rattle.pj_io.specs.Folders.{NoneFalls}
use Rattle.pj_io.specs.States.{FolderState, SinkState}
use Rattle.pj_report.specs.declared.status.Status.{Status}
use Rattle.pj_report.specs.declared.status.Status.TheVariants.{Done, OpenFault, ReadFault, ScriptRefused, WriteFault, NoMemory, Limit}
use Rattle.pj_report.specs.declared.status.LimitOf.TheVariants.{Node, File}
use Rattle.pj_run.specs.declared.stops.FilesStop.{FilesStop}
use Rattle.pj_run.specs.declared.stops.FilesStop.TheVariants.{Opening, Run}
use Rattle.pj_feed.specs.declared.stops.OpeningStop.{OpeningStop}
use Rattle.pj_feed.specs.declared.stops.OpeningStop.TheVariants.{Fault, NoMemory as OpeningMemory}
use Rattle.pj_run.specs.declared.stops.RunStop.{RunStop}
use Rattle.pj_run.specs.declared.stops.RunStop.TheVariants.{ReadFault as RunFault, TooLarge, Limit as RunLimit, Refused as RunRefused, WriteFailed, NoMemory as RunMemory, Cut as RunCut, CutRead, CutLarge, CutRefused}
use Rattle.pj_events.specs.declared.events.Stop.{Stop}
use Rattle.pj_events.specs.declared.events.Stop.TheVariants.{Limit as CoreLimit, NoMemory as CoreMemory}
use Rattle.pj_script.specs.declared.step.ScriptStep.{ScriptStep}
use Rattle.pj_prepare.specs.Calls.{Call, fault_by, fault_or, file_names, first_by, first_file, job_if, job_of, job_with, operand, plan_bytes, steps_by, steps_or, stream_files, HasToldJob, HasToldPlan, IsTold, IsToldIn}
use Rattle.pj_feed.specs.Named.{files_named, AreTold, IsAlone}
use Rattle.pj_run.specs.Ends.{EndsBefore, EndsAtBytes, EndsAtLimit, EndsCut, EndsCutBefore, EndsCutRefused, EndsRefused, ArrivedOf, EndsCutAtBytes}
use Rattle.pj_feed.specs.Opened.{OpensFirst, AreReadToEnd, StayOutside}
use Rattle.pj_report.specs.declared.writer.Form.{Form}
use Rattle.pj_prepare.specs.declared.calls.Options.{Options}
use Rattle.pj_prepare.specs.declared.calls.Prepared.{Prepared}
use Rattle.pj_prepare.specs.Plans.{outline_in, plan_of, IsAsked, SpellsPlan}
use Rattle.pj_prepare.specs.Refusals.{IsRun}
use Rattle.pj_prepare.specs.Scripts.{first_behind, HasSteps}
use Rattle.pj_report.specs.Report.{status_line}
use Rattle.pj_run.specs.RunEnds.{FilesEnd, FilesCause, FilesOpened, IsFaultOf, IsLargeFile}
use Rattle.pj_run.specs.Runs.{due_lines, job_by, refused_line, GoesBeyond, IsScriptOf}
use Rattle.pj_run.specs.Stops.{core_status, files_status, run_line, run_status, stop_line, IsOfFew, IsStopTold}
use Rattle.pj_alone.specs.Endings.{at_end, at_opening, in_run, ending_of, ComesAt, EarlyLeaves, Ending, EndsBy, FaultLeaves, IsScriptRead, KeepsLast, RunLeaves, StopLeaves, stop_name, limit_name, CutAtFault}
use Rattle.pj_alone.specs.Top.{BeyondLimit, HasFault, IsBuilt, IsLineRefused, IsUnopened, IsTooLarge}
use Rattle.pj_run.specs.Cuts.{files_cut, run_cut}
use Rattle.pj_report.specs.Written.{anywhere, Delivered, HandedOn, Leaves, flat, FrontOf, WholeLines}
use Rattle.pj_prepare.proofs.Operands.{alone_among, name_at, operand_at, opens_on, tried_on, unlike_lead}
use Rattle.pj_alone.proofs.RunLaws.{same_after, earlier_rose, later_rose}
use Rattle.pj_feed.proofs.StreamNodes.{count_numbers, few-streams}
use Rattle.pj_plan.specs.Sound.{IsSoundPlan}

-- ---- what is asked for

-- what the call asks for is what a core of its plan runs with its script
pub steps_are : (script : Option (List ℕ)) (nodes : List PlanNode) (folder : FolderState) (steps : Option (List (ℕ × ScriptStep))) → HasSteps script nodes folder steps → IsToldIn script folder → steps_by script folder.contents nodes ≡ steps
steps_are None nodes folder steps has told = sym has
steps_are (Some name) nodes folder steps has told = ap (λ (r : Result (List (ℕ × ScriptStep)) ℕ). Some (steps_or r)) (has.3 told).1 ∙ sym has.1

pub none_refused : (script : Option (List ℕ)) (nodes : List PlanNode) (folder : FolderState) (steps : Option (List (ℕ × ScriptStep))) → HasSteps script nodes folder steps → IsToldIn script folder → fault_by script folder.contents nodes ≡ None
none_refused None nodes folder steps has told = refl
none_refused (Some name) nodes folder steps has told = ap fault_or (has.3 told).1

-- there are steps where there is a script
pub first_is : (script : Option (List ℕ)) (nodes : List PlanNode) (folder : FolderState) (steps : Option (List (ℕ × ScriptStep))) → HasSteps script nodes folder steps → first_behind steps ≡ first_by script
first_is None nodes folder steps has = ap first_behind has
first_is (Some name) nodes folder steps has = ap first_behind has.1

-- there is a script where there are steps
named_by : (script : Option (List ℕ)) (nodes : List PlanNode) (folder : FolderState) (steps : Option (List (ℕ × ScriptStep))) (some : List (ℕ × ScriptStep)) → HasSteps script nodes folder steps → steps ≡ Some some → (name : List ℕ) × (script ≡ Some name)
named_by None nodes folder steps some has is = absurd (let e : None ≡ Some some = sym has ∙ is in cc e)
named_by (Some name) nodes folder steps some has is = (name, refl)

-- all of them are steps of the plan
pub are_steps : (script : Option (List ℕ)) (nodes : List PlanNode) (folder : FolderState) (steps : Option (List (ℕ × ScriptStep))) → HasSteps script nodes folder steps → IsScriptOf nodes steps
are_steps None nodes folder steps has = subst (IsScriptOf nodes) (sym has) tt
are_steps (Some name) nodes folder steps has = subst (IsScriptOf nodes) (sym has.1) has.2

pub job_read : (call : Call) (ready : Prepared) (steps : Option (List (ℕ × ScriptStep))) → IsAsked call.options ready → plan_of (plan_bytes call) ≡ Some (outline_in ready.core)
    → steps_by call.script call.folder.contents ready.core.plan.nodes ≡ steps → job_of call ≡ Some (job_by steps ready.writing ready.core)
job_read call ready steps asked read same =
    let nodes : List PlanNode = ready.core.plan.nodes in
    let options : Options = call.options in
    ap (job_if call) read
    ∙ (ap (λ (script : Option (List (ℕ × ScriptStep))). Some (job_with options script nodes)) same
    ∙ (ap₂ (λ (trace : Bool) (limit : ℕ). let job : Job = record { nodes = nodes; trace = trace; limit = limit; script = steps; form = options.form; check = options.check } in Some job) (sym asked.traced) (sym asked.limited)
    ∙ ap₂ (λ (form : Form) (check : Bool). let job : Job = record { nodes = nodes; trace = ready.core.plan.trace; limit = ready.core.limit; script = steps; form = form; check = check } in Some job) (sym asked.formed) (sym asked.checked)))

-- ---- the folder once plan and script were read

pub told_named : (names : List (List ℕ)) (old mid : FolderState) → mid.told ≡ old.told → AreTold names old → AreTold names mid
told_named [] old mid same told = tt
told_named (n ∷ ns) old mid same told = (subst (λ (t : List ℕ → Bool). IsTrue (t n)) (sym same) told.0, told_named ns old mid same told.1)

read_before : (lead files : List (List ℕ)) (old new : FolderState) → AreReadToEnd lead old new → AreReadToEnd files old new → AreReadToEnd (lead ++ files) old new
read_before [] files old new first rest = rest
read_before (n ∷ lead) files old new first rest = (first.0, read_before lead files old new first.1 rest)

module _ (call : Call) (files : List (List ℕ)) (mid : FolderState) (are : files ≡ file_names call) (told : mid.told ≡ call.folder.told) (contents : mid.contents ≡ call.folder.contents) where
  pub files_told : IsTold call → AreTold files mid
  files_told all = told_named files call.folder mid told (subst (λ (ns : List (List ℕ)). AreTold ns call.folder) (sym are) all.files)

  pub files_same : files_named files mid ≡ stream_files call
  files_same = ap₂ (λ (f : List ℕ → List ℕ) (ns : List (List ℕ)). map f ns) contents are

  read_named : (names : List (List ℕ)) (new : FolderState) → AreReadToEnd names mid new → AreReadToEnd names call.folder new
  read_named [] new read = tt
  read_named (n ∷ ns) new read = (
    λ t. read.0 (subst (λ (f : List ℕ → Bool). IsTrue (f n)) (sym told) t) ∙ ap (λ (f : List ℕ → List ℕ). length (f n)) contents,
    read_named ns new read.1,
  )

  -- all files were read to their ends
  pub all_read : (lead : List (List ℕ)) (new : FolderState) → call.names ≡ lead ++ files → AreReadToEnd lead call.folder new → AreReadToEnd files mid new → AreReadToEnd call.names call.folder new
  all_read lead new named first rest = subst (λ (ns : List (List ℕ)). AreReadToEnd ns call.folder new) (sym named) (read_before lead files call.folder new first (read_named files new rest))

pub built : (call : Call) (plan : Outline) → IsRun call → length (file_names call) ≡ length (streams_of plan.nodes) → IsSafePlan plan.nodes → (HasToldPlan call → SpellsPlan (plan_bytes call) plan) → IsBuilt call
built call plan run long safe read = record {
  form = run.form;
  named = run.named;
  plan = λ t. let r = read t in (r.1, (plan, r.0, sym long, safe));
}

-- ---- why a run stopped

-- why it stopped, where this is so of a node at which a limit was met; of a step of a script nothing is said
abbrev pub CauseBy : (ℕ → Type 0) → FilesStop → List (List ℕ) → FolderState → FolderState → SinkState → SinkState → Type 0
CauseBy Beyond (Opening (Fault stream)) names before after old new = IsFaultOf stream names before after
CauseBy Beyond (Opening OpeningMemory) names before after old new = ⊤
CauseBy Beyond (Run (RunFault stream)) names before after old new = IsFaultOf stream names before after
CauseBy Beyond (Run (TooLarge stream)) names before after old new = IsLargeFile stream names before
CauseBy Beyond (Run (RunLimit node)) names before after old new = Beyond node
CauseBy Beyond (Run (RunRefused line)) names before after old new = ⊤
CauseBy Beyond (Run WriteFailed) names before after old new = Rose old.faults new.faults
CauseBy Beyond (Run RunMemory) names before after old new = ⊤
CauseBy Beyond (Run (RunCut (CoreLimit node))) names before after old new = Rose old.faults new.faults × Beyond node
CauseBy Beyond (Run (RunCut CoreMemory)) names before after old new = Rose old.faults new.faults × ⊤
CauseBy Beyond (Run (CutRead stream)) names before after old new = Rose old.faults new.faults × IsFaultOf stream names before after
CauseBy Beyond (Run (CutLarge stream)) names before after old new = Rose old.faults new.faults × IsLargeFile stream names before
CauseBy Beyond (Run (CutRefused line)) names before after old new = Rose old.faults new.faults

-- a run on one thread, or by a script, goes beyond a limit as it comes to it
abbrev pub goes_over : Job → List (List ℕ) → FolderState → ℕ → Type 0
goes_over job names folder node = AreTold names folder → GoesBeyond job (files_named names folder) node

pub cause_by : (stop : FilesStop) (job : Job) (names : List (List ℕ)) (before after : FolderState) (old new : SinkState) → FilesCause stop job names before after old new → CauseBy (goes_over job names before) stop names before after old new
cause_by (Opening (Fault stream)) job names before after old new cause = cause
cause_by (Opening OpeningMemory) job names before after old new cause = tt
cause_by (Run (RunFault stream)) job names before after old new cause = cause
cause_by (Run (TooLarge stream)) job names before after old new cause = cause
cause_by (Run (RunLimit node)) job names before after old new cause = cause
cause_by (Run (RunRefused line)) job names before after old new cause = tt
cause_by (Run WriteFailed) job names before after old new cause = cause
cause_by (Run RunMemory) job names before after old new cause = tt
cause_by (Run (RunCut (CoreLimit node))) job names before after old new cause = cause
cause_by (Run (RunCut CoreMemory)) job names before after old new cause = (cause.0, tt)
cause_by (Run (CutRead stream)) job names before after old new cause = (cause.0, cause.1)
cause_by (Run (CutLarge stream)) job names before after old new cause = (cause.0, cause.1)
cause_by (Run (CutRefused line)) job names before after old new cause = cause.0

-- ---- what a stop leaves

module _ (call : Call) (lead files : List (List ℕ)) (mid new : FolderState) (named : call.names ≡ lead ++ files) (are : files ≡ file_names call) (number : first_file call ≡ suc (length lead)) (told : mid.told ≡ call.folder.told) (contents : mid.contents ≡ call.folder.contents) (others : StayOutside lead call.folder mid) where
  abbrev F : ℕ
  F = first_file call

  pub at_operand : (stream : ℕ) → operand call.names (F + stream) ≡ slice_index_or files stream []
  at_operand stream = ap (λ (ns : List (List ℕ)). operand ns (F + stream)) named ∙ operand_at lead files (F + stream) stream (omega (arith, number))

  files_are : files_named files mid ≡ stream_files call
  files_are = files_same call files mid are told contents

  -- a file that was not opened
  not_opened : (stream : ℕ) → (IsAlone stream files → new.last (slice_index_or files stream []) ≡ mid.last (slice_index_or files stream []))
      → IsAlone (length lead + stream) call.names → new.last (slice_index_or call.names (length lead + stream) []) ≡ call.folder.last (slice_index_or call.names (length lead + stream) [])
  not_opened stream last = λ alone.
      let place = length lead + stream in
      let own = subst (IsAlone place) named alone in
      let at : slice_index_or call.names place [] ≡ slice_index_or files stream [] = ap (λ (ns : List (List ℕ)). slice_index_or ns place []) named ∙ name_at lead files place stream refl in
      ap new.last at
      ∙ (last (alone_among lead files place stream refl own)
      ∙ (others.last (slice_index_or files stream []) (unlike_lead lead files place stream refl own) ∙ ap call.folder.last (sym at)))

  -- a read that failed
  not_read : (job : Job) (stream : ℕ) (before lines : List ℕ) → FilesEnd (Run (RunFault stream)) job files mid new before lines → FaultLeaves job call new (F + stream) before lines
  not_read job stream before lines ends = go (files_named files mid) files_are ends
    where
      go : (had : List (List ℕ)) → had ≡ stream_files call
          → (ends : EndsBefore job had stream before lines) × (IsAlone stream files → ArrivedOf job had stream (new.last (slice_index_or files stream [])) ends.front)
          → FaultLeaves job call new (F + stream) before lines
      go had same e =
          subst (λ (fs : List (List ℕ)). ((s : ℕ) × (F + stream ≡ F + s) × (ends : EndsBefore job fs s before lines) × (IsAlone s (file_names call) → ArrivedOf job fs s (new.last (operand call.names (F + stream))) ends.front))) same
          (stream, refl, e.0, λ d. subst (λ (n : List ℕ). ArrivedOf job had stream (new.last n) e.0.front) (sym (at_operand stream)) (e.1 (subst (IsAlone stream) (sym are) d)))

  -- ---- what a run leaves that stopped

  -- the core stopped, and then the output failed
  cut_left : (stop : Stop) (job : Job) (first now after : SinkState) → IsTrue after.told → FilesCause (Run (RunCut stop)) job files mid new first now
      → Leaves anywhere (due_lines job (files_named files mid)) first.written now.written → FilesEnd (Run (RunCut stop)) job files mid new first.written now.written → now.faults ≤ after.faults → Delivered [] now after
      → StopLeaves (core_status stop) job call new first after
  cut_left (CoreLimit node) job first now after t cause left ends more line = inr (
    subst (EndsCut job (stream_files call) node first.written) (sym (same_after now after t line)) (subst (λ (fs : List (List ℕ)). EndsCut job fs node first.written now.written) files_are ends),
    later_rose first now after cause.0 more,
  )
  cut_left CoreMemory job first now after t cause left ends more line = inr (
    subst (FrontOf (flat (due_lines job (stream_files call))) first.written) (sym (same_after now after t line)) (subst (λ (fs : List (List ℕ)). FrontOf (flat (due_lines job fs)) first.written now.written) files_are left),
    later_rose first now after cause.0 more,
  )

  -- a read failed, and then the output
  cut_before : (stream : ℕ) (job : Job) (first now after : SinkState) → IsTrue after.told → FilesEnd (Run (CutRead stream)) job files mid new first.written now.written → HasScript job → now.faults ≤ after.faults → Rose first.faults now.faults
      → Delivered [] now after → CutAtFault (F + stream) job call new first after
  cut_before stream job first now after t ends script more rose line = go (files_named files mid) files_are ends
    where
      go : (had : List (List ℕ)) → had ≡ stream_files call
          → (ends : EndsCutBefore job had stream first.written now.written) × (IsAlone stream files → ArrivedOf job had stream (new.last (slice_index_or files stream [])) ends.front)
          → CutAtFault (F + stream) job call new first after
      go had same e =
          let all = subst (λ (bytes : List ℕ). (ends : EndsCutBefore job (stream_files call) stream first.written bytes) × (IsAlone stream (file_names call) → ArrivedOf job (stream_files call) stream (new.last (operand call.names (F + stream))) ends.front))
          (sym (same_after now after t line))
          (subst (λ (fs : List (List ℕ)). (ends : EndsCutBefore job fs stream first.written now.written) × (IsAlone stream (file_names call) → ArrivedOf job fs stream (new.last (operand call.names (F + stream))) ends.front)) same
          (e.0, λ d. subst (λ (n : List ℕ). ArrivedOf job had stream (new.last n) e.0.front) (sym (at_operand stream)) (e.1 (subst (IsAlone stream) (sym are) d)))) in
          record { script = script; stream = stream; is = refl; ends = all.0; arrived = all.1; rose = later_rose first now after rose more }

  -- a file gave too many bytes, and then the output failed
  cut_large : (stream : ℕ) (job : Job) (first now after : SinkState) → IsTrue after.told → EndsCutAtBytes job (files_named files mid) stream first.written now.written → Delivered [] now after
      → EndsCutAtBytes job (stream_files call) stream first.written after.written
  cut_large stream job first now after t ends line =
      subst (λ (bytes : List ℕ). EndsCutAtBytes job (stream_files call) stream first.written bytes) (sym (same_after now after t line)) (subst (λ (fs : List (List ℕ)). EndsCutAtBytes job fs stream first.written now.written) files_are ends)

  not_enabled : (line : ℕ) (job : Job) → AreTold files mid → (AreTold files mid → refused_line job (files_named files mid) ≡ Some line) → refused_line job (stream_files call) ≡ Some line
  not_enabled line job all cause = subst (λ (fs : List (List ℕ)). refused_line job fs ≡ Some line) files_are (cause all)

  -- and then the line of its status was written
  stopped : (stop : RunStop) (job : Job) (name : List ℕ) (first now after : SinkState) → IsTrue after.told → AreTold files mid → name ≡ stop_name job.nodes (run_status F stop)
      → FilesCause (Run stop) job files mid new first now → Leaves (run_cut stop) (due_lines job (files_named files mid)) first.written now.written
      → FilesEnd (Run stop) job files mid new first.written now.written → first.faults ≤ now.faults → now.faults ≤ after.faults → Delivered (run_line F stop name) now after
      → StopLeaves (run_status F stop) job call new first after
  stopped (RunFault stream) job name first now after t all named cause left ends le more line = inl (
    now.written,
    not_read job stream first.written now.written ends,
    earlier_rose (status_line [] (ReadFault (F + stream))) first now after le (subst (λ (x : List ℕ). Delivered (status_line x (ReadFault (F + stream))) now after) named line),
  )
  stopped (TooLarge stream) job name first now after t all named cause left ends le more line = inl (
    now.written,
    subst (λ (fs : List (List ℕ)). EndsAtBytes job fs stream first.written now.written) files_are ends,
    earlier_rose (status_line (limit_name job.nodes (File stream)) (Limit (File stream))) first now after le (subst (λ (x : List ℕ). Delivered (status_line x (Limit (File stream))) now after) named line),
  )
  stopped (RunLimit node) job name first now after t all named cause left ends le more line = inl (
    now.written,
    subst (λ (fs : List (List ℕ)). EndsAtLimit job fs node first.written now.written) files_are ends,
    earlier_rose (status_line (limit_name job.nodes (Node node)) (Limit (Node node))) first now after le (subst (λ (x : List ℕ). Delivered (status_line x (Limit (Node node))) now after) named line),
  )
  stopped (RunRefused line) job name first now after t all named cause left ends le more written = (
    not_enabled line job all cause.1,
    inl (
      now.written,
      subst (λ (fs : List (List ℕ)). EndsRefused job fs first.written now.written) files_are ends,
      earlier_rose (status_line [] (ScriptRefused line)) first now after le (subst (λ (x : List ℕ). Delivered (status_line x (ScriptRefused line)) now after) named written),
    ),
  )
  stopped (CutRead stream) job name first now after t all named cause left ends le more line = inr (cut_before stream job first now after t ends cause.2 more cause.0 line)
  stopped (CutLarge stream) job name first now after t all named cause left ends le more line = inr (cause.2, cut_large stream job first now after t ends line, later_rose first now after cause.0 more)
  stopped (CutRefused line) job name first now after t all named cause left ends le more written = (
    not_enabled line job all cause.2,
    inr (
      subst (λ (bytes : List ℕ). EndsCutRefused job (stream_files call) first.written bytes) (sym (same_after now after t written)) (subst (λ (fs : List (List ℕ)). EndsCutRefused job fs first.written now.written) files_are ends),
      later_rose first now after cause.0 more,
    ),
  )
  stopped WriteFailed job name first now after t all named cause left ends le more line =
      subst (λ (bytes : List ℕ). FrontOf (flat (due_lines job (stream_files call))) first.written bytes) (sym (same_after now after t line))
      (subst (λ (fs : List (List ℕ)). FrontOf (flat (due_lines job fs)) first.written now.written) files_are left)
  stopped (RunCut stop) job name first now after t all named cause left ends le more line = cut_left stop job first now after t cause left ends more line
  stopped RunMemory job name first now after t all named cause left ends le more line = inl (
    now.written,
    subst (λ (fs : List (List ℕ)). WholeLines (due_lines job fs) first.written now.written) files_are left,
    earlier_rose (status_line [] NoMemory) first now after le line,
  )

  -- the same of a stop of a run over files
  pub leaves_run : (stop : FilesStop) (job : Job) (name : List ℕ) (first now after : SinkState) → (HasToldJob call → job_of call ≡ Some job) → name ≡ stop_name job.nodes (files_status F stop) → FilesCause stop job files mid new first now
      → (IsTold call → IsTrue after.told → Leaves (files_cut stop) (due_lines job (files_named files mid)) first.written now.written)
      → (IsTold call → IsTrue after.told → FilesEnd stop job files mid new first.written now.written) → first.faults ≤ now.faults → now.faults ≤ after.faults → Delivered (stop_line F stop name) now after
      → (r : RunStop) → stop ≡ Run r → RunLeaves (ending_of call (run_status F r) new first after)
  leaves_run (Opening opening) job name first now after read is_name cause left ends le more line r is = absurd (cc)
  leaves_run (Run stop) job name first now after read is_name cause left ends le more line r is = λ all t.
      let same : stop ≡ r = cc is in
      subst (λ (s : RunStop). (job : Job) × (job_of call ≡ Some job) × StopLeaves (run_status F s) job call new first after) same
      (job, read (all.plan, all.script), stopped stop job name first now after t (files_told call files mid are told contents all) is_name cause (left all t) (ends all t) le more line)

  -- ---- how far the call came

  module _ (InRun : Ending → Type 0) (one : OpensFirst (length lead) lead call.folder mid) (is_built : IsBuilt call) where
    then_opened : (count : ℕ) → OpensFirst count files mid new → OpensFirst (length lead + count) call.names call.folder new
    then_opened count more = subst (λ (ns : List (List ℕ)). OpensFirst (length lead + count) ns call.folder new) (sym named) (opens_on lead files count call.folder mid new one more)

    then_tried : (count : ℕ) → StayOutside (take count files) mid new → StayOutside (take (length lead + count) call.names) call.folder new
    then_tried count stay = subst (λ (ns : List (List ℕ)). StayOutside (take (length lead + count) ns) call.folder new) (sym named) (tried_on lead files count call.folder mid new others stay)

    all_counted : length lead + length files ≡ length call.names
    all_counted = sym (ap length named ∙ length-append lead files)

    all_opened : OpensFirst (length files) files mid new → OpensFirst (length call.names) call.names call.folder new
    all_opened more = subst (λ (n : ℕ). OpensFirst n call.names call.folder new) all_counted (then_opened (length files) more)

    all_tried : StayOutside files mid new → StayOutside (take (length call.names) call.names) call.folder new
    all_tried stay =
        let whole : take (length files) files ≡ files = take_all (length files) files (omega arith) in
        subst (λ (n : ℕ). StayOutside (take n call.names) call.folder new) all_counted (then_tried (length files) (subst (λ (ns : List (List ℕ)). StayOutside ns mid new) (sym whole) stay))

    pub ended_done : IsScriptRead call → (first after : SinkState) → OpensFirst (length files) files mid new → StayOutside files mid new → EndsBy InRun (ending_of call Done new first after)
    ended_done seen first after opened stay = (
      at_end,
      record {
        comes = inl refl;
        opened_first = all_opened opened;
        others_stay = all_tried stay;
        built = λ past. is_built;
        script = seen;
        left = tt;
      },
    )

    -- so many operands' files were opened, and the next one's was not
    opening_ended : IsScriptRead call → (count : ℕ) (status : Status) (first after : SinkState) → ComesAt status (at_opening (length lead + count)) → OpensFirst count files mid new → StayOutside (take (count + 1) files) mid new
        → EarlyLeaves status call first after → KeepsLast (length lead + count) (ending_of call status new first after) → EndsBy InRun (ending_of call status new first after)
    opening_ended seen count status first after comes opened stay left keeps = (
      at_opening (length lead + count),
      record {
        comes = comes;
        opened_first = then_opened count opened;
        others_stay =
            let more : length lead + (count + 1) ≡ length lead + count + 1 = omega arith in
            subst (λ (n : ℕ). StayOutside (take n call.names) call.folder new) more (then_tried (count + 1) stay);
        built = λ past. is_built;
        script = λ past. seen;
        left = (left, keeps);
      },
    )

    run_ended : IsScriptRead call → (status : Status) (first after : SinkState) → ComesAt status in_run → ((n : ℕ) → status ≡ ReadFault n → F ≤ n) → OpensFirst (length files) files mid new → StayOutside files mid new → InRun (ending_of call status new first after) → EndsBy InRun (ending_of call status new first after)
    run_ended seen status first after comes reads opened stay left = (
      in_run,
      record {
        comes = comes;
        opened_first = all_opened opened;
        others_stay = all_tried stay;
        built = λ past. is_built;
        script = (seen, reads);
        left = left;
      },
    )

    comes_in_run : (some : 1 ≤ length lead) (stop : RunStop) → ComesAt (run_status F stop) in_run
    comes_in_run some (RunFault stream) = inr (inr ((let two : 1 < F + stream = omega (arith, some, number) in two), refl))
    comes_in_run some (TooLarge stream) = refl
    comes_in_run some (RunLimit node) = refl
    comes_in_run some (RunRefused line) = inr refl
    comes_in_run some (CutRead stream) = inr (inr ((let two : 1 < F + stream = omega (arith, some, number) in two), refl))
    comes_in_run some (CutLarge stream) = refl
    comes_in_run some (CutRefused line) = inr refl
    comes_in_run some WriteFailed = inl refl
    comes_in_run some RunMemory = tt
    comes_in_run some (RunCut (CoreLimit node)) = refl
    comes_in_run some (RunCut CoreMemory) = tt

    -- a read that failed was of a stream's file
    of_stream : (stop : RunStop) (n : ℕ) → run_status F stop ≡ ReadFault n → F ≤ n
    of_stream (RunFault stream) n e = let same : F + stream ≡ n = cc e in omega (arith, same)
    of_stream (TooLarge stream) n e = absurd (cc)
    of_stream (RunLimit node) n e = absurd (cc)
    of_stream (RunRefused line) n e = absurd (cc)
    of_stream (CutRead stream) n e = let same : F + stream ≡ n = cc e in omega (arith, same)
    of_stream (CutLarge stream) n e = absurd (cc)
    of_stream (CutRefused line) n e = absurd (cc)
    of_stream WriteFailed n e = absurd (cc)
    of_stream RunMemory n e = absurd (cc)
    of_stream (RunCut (CoreLimit node)) n e = absurd (cc)
    of_stream (RunCut CoreMemory) n e = absurd (cc)

    pub ended_stop : IsScriptRead call → 1 ≤ length lead → (stop : FilesStop) (nodes : List PlanNode) (name : List ℕ) (first now after : SinkState) → name ≡ stop_name nodes (files_status F stop)
        → ((opening : OpeningStop) → stop ≡ Opening opening → now ≡ first) → FilesOpened (Err stop) files mid new → StayOutside files mid new
        → ((stream : ℕ) → stop ≡ Opening (Fault stream) → IsTold call → IsTrue after.told → IsAlone stream files → new.last (slice_index_or files stream []) ≡ mid.last (slice_index_or files stream []))
        → ((r : RunStop) → stop ≡ Run r → InRun (ending_of call (run_status F r) new first after))
        → Delivered (stop_line F stop name) now after → EndsBy InRun (ending_of call (files_status F stop) new first after)
    ended_stop seen some (Opening (Fault stream)) nodes name before now after is_name same opened stay last left line =
        opening_ended seen stream (OpenFault (F + stream)) before after (length lead + stream, (let e : length lead + stream + 1 ≡ F + stream = omega (arith, number) in e), refl) opened.0 opened.1
        (subst (λ (s : SinkState). Delivered (status_line [] (OpenFault (F + stream))) s after) (same (Fault stream) refl)
        (subst (λ (x : List ℕ). Delivered (status_line x (OpenFault (F + stream))) now after) is_name line))
        (λ told t n is. not_opened stream (last stream refl told t))
    ended_stop seen some (Opening OpeningMemory) nodes name before now after is_name same opened stay last left line =
        opening_ended seen opened.count NoMemory before after tt opened.opened opened.others
        (subst (λ (s : SinkState). Delivered (status_line [] NoMemory) s after) (same OpeningMemory refl) (subst (λ (x : List ℕ). Delivered (status_line x NoMemory) now after) is_name line))
        (λ told t n is. absurd (cc))
    ended_stop seen some (Run stop) nodes name before now after is_name same opened stay last left line =
        run_ended seen (run_status F stop) before after (comes_in_run some stop) (of_stream stop) opened stay (left stop refl)

  -- ---- causes

  module _ (Beyond : ℕ → Type 0) where
    module _ (faults : NoneFalls call.folder.faults mid.faults) where
      fault_at : (stream : ℕ) → IsBuilt call → IsFaultOf stream files mid new → HasFault call new (F + stream)
      fault_at stream is f = record {
        first = omega (arith, number);
        last = let all = ap length named in let parts = length-append lead files in let there = f.there in omega (arith, all, parts, there, number);
        rose = subst (λ (n : List ℕ). Rose (call.folder.faults n) (new.faults n)) (sym (at_operand stream))
            (let r = f.rose in let le = faults (slice_index_or files stream []) in omega (arith, r, le));
        later = λ _. is;
      }

      pub faulted : (stop : FilesStop) (first now : SinkState) (n : ℕ) → IsBuilt call → CauseBy Beyond stop files mid new first now → files_status F stop ≡ ReadFault n → HasFault call new n
      faulted (Opening (Fault stream)) first now n is cause e = absurd (cc)
      faulted (Opening OpeningMemory) first now n is cause e = absurd (cc)
      faulted (Run (RunFault stream)) first now n is cause e = let same : F + stream ≡ n = cc e in subst (HasFault call new) same (fault_at stream is cause)
      faulted (Run (TooLarge stream)) first now n is cause e = absurd (cc)
      faulted (Run (RunLimit node)) first now n is cause e = absurd (cc)
      faulted (Run (RunRefused line)) first now n is cause e = absurd (cc)
      faulted (Run (RunCut (CoreLimit node))) first now n is cause e = absurd (cc)
      faulted (Run (RunCut CoreMemory)) first now n is cause e = absurd (cc)
      faulted (Run (CutRead stream)) first now n is cause e = let same : F + stream ≡ n = cc e in subst (HasFault call new) same (fault_at stream is cause.1)
      faulted (Run (CutLarge stream)) first now n is cause e = absurd (cc)
      faulted (Run (CutRefused line)) first now n is cause e = absurd (cc)
      faulted (Run WriteFailed) first now n is cause e = absurd (cc)
      faulted (Run RunMemory) first now n is cause e = absurd (cc)

      pub unopened : (stop : FilesStop) (first now : SinkState) (n : ℕ) → IsBuilt call → OpensFirst (length lead) lead call.folder mid → CauseBy Beyond stop files mid new first now → FilesOpened (Err stop) files mid new
          → files_status F stop ≡ OpenFault n → IsUnopened call new n
      unopened (Opening (Fault stream)) first now n is one cause opened e =
          let same : F + stream ≡ n = cc e in
          subst (IsUnopened call new) same
          (record {
            fault = fault_at stream is cause;
            before = length lead + stream;
            number = let e : length lead + stream + 1 ≡ F + stream = omega (arith, number) in e;
            opened = then_opened RunLeaves one is stream opened.0;
          })
      unopened (Opening OpeningMemory) first now n is one cause opened e = absurd (cc)
      unopened (Run (RunFault stream)) first now n is one cause opened e = absurd (cc)
      unopened (Run (TooLarge stream)) first now n is one cause opened e = absurd (cc)
      unopened (Run (RunLimit node)) first now n is one cause opened e = absurd (cc)
      unopened (Run (RunRefused line)) first now n is one cause opened e = absurd (cc)
      unopened (Run (RunCut (CoreLimit node))) first now n is one cause opened e = absurd (cc)
      unopened (Run (RunCut CoreMemory)) first now n is one cause opened e = absurd (cc)
      unopened (Run (CutRead stream)) first now n is one cause opened e = absurd (cc)
      unopened (Run (CutLarge stream)) first now n is one cause opened e = absurd (cc)
      unopened (Run (CutRefused line)) first now n is one cause opened e = absurd (cc)
      unopened (Run WriteFailed) first now n is one cause opened e = absurd (cc)
      unopened (Run RunMemory) first now n is one cause opened e = absurd (cc)

    pub write_failed : (stop : FilesStop) (first now after : SinkState) → CauseBy Beyond stop files mid new first now → now.faults ≤ after.faults → files_status F stop ≡ WriteFault → Rose first.faults after.faults
    write_failed (Opening (Fault stream)) first now after cause le e = absurd (cc)
    write_failed (Opening OpeningMemory) first now after cause le e = absurd (cc)
    write_failed (Run (RunFault stream)) first now after cause le e = absurd (cc)
    write_failed (Run (TooLarge stream)) first now after cause le e = absurd (cc)
    write_failed (Run (RunLimit node)) first now after cause le e = absurd (cc)
    write_failed (Run (RunRefused line)) first now after cause le e = absurd (cc)
    write_failed (Run (RunCut (CoreLimit node))) first now after cause le e = absurd (cc)
    write_failed (Run (RunCut CoreMemory)) first now after cause le e = absurd (cc)
    write_failed (Run (CutRead stream)) first now after cause le e = absurd (cc)
    write_failed (Run (CutLarge stream)) first now after cause le e = absurd (cc)
    write_failed (Run (CutRefused line)) first now after cause le e = absurd (cc)
    write_failed (Run WriteFailed) first now after cause le e = omega (arith, cause, le)
    write_failed (Run RunMemory) first now after cause le e = absurd (cc)

    pub beyond : (stop : FilesStop) (first now : SinkState) (node : ℕ) → CauseBy Beyond stop files mid new first now → files_status F stop ≡ Limit (Node node) → Beyond node
    beyond (Opening (Fault stream)) first now node cause e = absurd (cc)
    beyond (Opening OpeningMemory) first now node cause e = absurd (cc)
    beyond (Run (RunFault stream)) first now node cause e = absurd (cc)
    beyond (Run (TooLarge stream)) first now node cause e = absurd (let what : File stream ≡ Node node = cc e in cc)
    beyond (Run (RunRefused line)) first now node cause e = absurd (cc)
    beyond (Run (RunLimit n)) first now node cause e = let what : Node n ≡ Node node = cc e in let same : n ≡ node = cc what in subst Beyond same cause
    beyond (Run (RunCut (CoreLimit n))) first now node cause e = let what : Node n ≡ Node node = cc e in let same : n ≡ node = cc what in subst Beyond same cause.1
    beyond (Run (RunCut CoreMemory)) first now node cause e = absurd (cc)
    beyond (Run (CutRead stream)) first now node cause e = absurd (cc)
    beyond (Run (CutLarge stream)) first now node cause e = absurd (let what : File stream ≡ Node node = cc e in cc)
    beyond (Run (CutRefused line)) first now node cause e = absurd (cc)
    beyond (Run WriteFailed) first now node cause e = absurd (cc)
    beyond (Run RunMemory) first now node cause e = absurd (cc)

    large_file : (s : ℕ) (stream : ℕ) → IsBuilt call → IsLargeFile s files mid → Limit (File s) ≡ Limit (File stream) → IsTooLarge call stream
    large_file s stream is_built cause e =
        let what : File s ≡ File stream = cc e in
        let same : s ≡ stream = cc what in
        subst (IsTooLarge call) same
        (record {
          built = is_built;
          there = let all = ap length are in let there = cause.there in omega (arith, all, there);
          bytes = λ t.
              let at = at_operand s in
              let told_mid : IsTrue (mid.told (slice_index_or files s [])) = subst (λ (f : List ℕ → Bool). IsTrue (f (slice_index_or files s []))) (sym told) (subst (λ (n : List ℕ). IsTrue (call.folder.told n)) at t) in
              let most = cause.bytes told_mid in
              subst (λ (n : List ℕ). 2 ^ 40 ≤ length (call.folder.contents n)) (sym at) (subst (λ (f : List ℕ → List ℕ). 2 ^ 40 ≤ length (f (slice_index_or files s []))) contents most);
        })

    pub too_large : (stop : FilesStop) (first now : SinkState) (stream : ℕ) → IsBuilt call → CauseBy Beyond stop files mid new first now → files_status F stop ≡ Limit (File stream) → IsTooLarge call stream
    too_large (Opening (Fault s)) first now stream is_built cause e = absurd (cc)
    too_large (Opening OpeningMemory) first now stream is_built cause e = absurd (cc)
    too_large (Run (RunFault s)) first now stream is_built cause e = absurd (cc)
    too_large (Run (TooLarge s)) first now stream is_built cause e = large_file s stream is_built cause e
    too_large (Run (RunLimit node)) first now stream is_built cause e = absurd (let what : Node node ≡ File stream = cc e in cc)
    too_large (Run (RunCut (CoreLimit node))) first now stream is_built cause e = absurd (let what : Node node ≡ File stream = cc e in cc)
    too_large (Run (RunCut CoreMemory)) first now stream is_built cause e = absurd (cc)
    too_large (Run (CutRead s)) first now stream is_built cause e = absurd (cc)
    too_large (Run (CutLarge s)) first now stream is_built cause e = large_file s stream is_built cause.1 e
    too_large (Run (CutRefused line)) first now stream is_built cause e = absurd (cc)
    too_large (Run WriteFailed) first now stream is_built cause e = absurd (cc)
    too_large (Run (RunRefused line)) first now stream is_built cause e = absurd (cc)
    too_large (Run RunMemory) first now stream is_built cause e = absurd (cc)

  -- a step that is not enabled
  step_refused : (l : ℕ) (job : Job) (steps : Option (List (ℕ × ScriptStep))) (line : ℕ) → IsBuilt call → HasSteps call.script job.nodes call.folder steps → job.script ≡ steps → (HasToldJob call → job_of call ≡ Some job) → HasScript job
      → (AreTold files mid → refused_line job (files_named files mid) ≡ Some l) → ScriptRefused l ≡ ScriptRefused line → IsLineRefused call line
  step_refused l job steps line is has own read script cause e =
      let same : l ≡ line = cc e in
      let named = named_by call.script job.nodes call.folder steps script.0 has (sym own ∙ script.1) in
      record {
        built = is;
        name = named.0;
        scripted = named.1;
        refuses = λ t. (
          job,
          read t,
          inr (
            none_refused call.script job.nodes call.folder steps has t.1,
            λ all. subst (λ (m : ℕ). refused_line job (stream_files call) ≡ Some m) same
                (subst (λ (fs : List (List ℕ)). refused_line job fs ≡ Some l) files_are (cause (told_named files call.folder mid told (subst (λ (ns : List (List ℕ)). AreTold ns call.folder) (sym are) all)))),
          ),
        );
      }

  pub line_refused : (stop : FilesStop) (job : Job) (steps : Option (List (ℕ × ScriptStep))) (before now : SinkState) (line : ℕ) → IsBuilt call → HasSteps call.script job.nodes call.folder steps → job.script ≡ steps → (HasToldJob call → job_of call ≡ Some job)
      → FilesCause stop job files mid new before now → files_status F stop ≡ ScriptRefused line → IsLineRefused call line
  line_refused (Run (RunRefused l)) job steps before now line is has own read cause e = step_refused l job steps line is has own read cause.0 cause.1 e
  line_refused (Run (CutRefused l)) job steps before now line is has own read cause e = step_refused l job steps line is has own read cause.1 cause.2 e
  line_refused (Opening (Fault stream)) job steps before now line is has own read cause e = absurd (cc)
  line_refused (Opening OpeningMemory) job steps before now line is has own read cause e = absurd (cc)
  line_refused (Run (RunFault stream)) job steps before now line is has own read cause e = absurd (cc)
  line_refused (Run (TooLarge stream)) job steps before now line is has own read cause e = absurd (cc)
  line_refused (Run (RunLimit node)) job steps before now line is has own read cause e = absurd (cc)
  line_refused (Run (RunCut (CoreLimit node))) job steps before now line is has own read cause e = absurd (cc)
  line_refused (Run (RunCut CoreMemory)) job steps before now line is has own read cause e = absurd (cc)
  line_refused (Run (CutRead stream)) job steps before now line is has own read cause e = absurd (cc)
  line_refused (Run (CutLarge stream)) job steps before now line is has own read cause e = absurd (cc)
  line_refused (Run WriteFailed) job steps before now line is has own read cause e = absurd (cc)
  line_refused (Run RunMemory) job steps before now line is has own read cause e = absurd (cc)

-- there is a file for each of few streams
pub few_names : (nodes : List PlanNode) (names : List (List ℕ)) → IsSoundPlan nodes → length names ≡ length (streams_of nodes) → length names ≤ 128
few_names nodes names sound each =
    let few = few-streams nodes sound in
    let count = count_numbers nodes in
    omega (arith, few, count, each)

-- few streams have small numbers
pub of_few : (Beyond : ℕ → Type 0) (stop : FilesStop) (names : List (List ℕ)) (before after : FolderState) (first now : SinkState) → length names ≤ 128 → CauseBy Beyond stop names before after first now → IsOfFew stop
of_few Beyond (Opening (Fault stream)) names before after first now few cause = let there = cause.there in omega (arith, few, there)
of_few Beyond (Opening OpeningMemory) names before after first now few cause = tt
of_few Beyond (Run (RunFault stream)) names before after first now few cause = let there = cause.there in omega (arith, few, there)
of_few Beyond (Run (TooLarge stream)) names before after first now few cause = tt
of_few Beyond (Run (RunLimit node)) names before after first now few cause = tt
of_few Beyond (Run (RunRefused line)) names before after first now few cause = tt
of_few Beyond (Run (CutRead stream)) names before after first now few cause = let there = cause.1.there in omega (arith, few, there)
of_few Beyond (Run (CutLarge stream)) names before after first now few cause = tt
of_few Beyond (Run (CutRefused line)) names before after first now few cause = tt
of_few Beyond (Run (RunCut stop)) names before after first now few cause = tt
of_few Beyond (Run WriteFailed) names before after first now few cause = tt
of_few Beyond (Run RunMemory) names before after first now few cause = tt

handed_later : (first now last : SinkState) → first.faults ≤ now.faults → HandedOn now last → HandedOn first last
handed_later first now last le handed = elim handed [ inl none ↦ inl none | inr rose ↦ inr (omega (arith, rose, le)) ]

-- the sink holds nothing back behind the line of a stop, and where the output failed its faults rose
pub stop_handed : (Beyond : ℕ → Type 0) (stop : FilesStop) (names : List (List ℕ)) (before after : FolderState) (first now last : SinkState) → CauseBy Beyond stop names before after first now → first.faults ≤ now.faults → now.faults ≤ last.faults
    → (IsStopTold stop → HandedOn now last) → HandedOn first last
stop_handed Beyond (Opening (Fault stream)) names before after first now last cause le more line = handed_later first now last le (line tt)
stop_handed Beyond (Opening OpeningMemory) names before after first now last cause le more line = handed_later first now last le (line tt)
stop_handed Beyond (Run (RunFault stream)) names before after first now last cause le more line = handed_later first now last le (line tt)
stop_handed Beyond (Run (TooLarge stream)) names before after first now last cause le more line = handed_later first now last le (line tt)
stop_handed Beyond (Run (RunLimit node)) names before after first now last cause le more line = handed_later first now last le (line tt)
stop_handed Beyond (Run (RunRefused line)) names before after first now last cause le more written = handed_later first now last le (written tt)
stop_handed Beyond (Run WriteFailed) names before after first now last cause le more line = inr (omega (arith, cause, more))
stop_handed Beyond (Run (RunCut (CoreLimit node))) names before after first now last cause le more line = let rose = cause.0 in inr (omega (arith, rose, more))
stop_handed Beyond (Run (RunCut CoreMemory)) names before after first now last cause le more line = let rose = cause.0 in inr (omega (arith, rose, more))
stop_handed Beyond (Run (CutRead stream)) names before after first now last cause le more handed = let rose = cause.0 in inr (omega (arith, rose, more))
stop_handed Beyond (Run (CutLarge stream)) names before after first now last cause le more handed = let rose = cause.0 in inr (omega (arith, rose, more))
stop_handed Beyond (Run (CutRefused line)) names before after first now last cause le more handed = let rose = cause in inr (omega (arith, rose, more))
stop_handed Beyond (Run RunMemory) names before after first now last cause le more line = handed_later first now last le (line tt)
