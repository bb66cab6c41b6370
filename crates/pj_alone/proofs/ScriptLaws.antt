-- A call whose script was not had: what is opened and written, and why.
use Rattle.std.proofs.Common.{Bool, ◌≡◌, ◌≤◌, ◌<◌, ◌+◌, ℕ, zero, suc, ◌⊎◌, inl, inr, List, [], ◌∷◌, ◌++◌, length, take, slice_index_or, Option, Some, Err, IsTrue, refl, ap, sym, ◌∙◌, subst, arith}
use Rattle.std.proofs.lemmas.Bool.{false≢true}
use Rattle.pj_io.specs.Causes.{Rose}
use Rattle.pj_io.specs.States.{FolderState, SinkState}
use Rattle.pj_plan.specs.declared.node.PlanNode.{PlanNode}
use Rattle.pj_report.specs.declared.status.Status.{Status}
use Rattle.pj_report.specs.declared.status.Status.TheVariants.{Done, Usage, OpenFault, ReadFault, PlanRefused, FileCount, Unsafe, ScriptRefused, WriteFault, NoMemory, Limit}
use Rattle.pj_report.specs.declared.status.LimitOf.TheVariants.{Plan, Script, Node, File}
use Rattle.pj_report.specs.Report.{status_line, HasLine}
use Rattle.pj_report.specs.Written.{Delivered, HandedOn}
use Rattle.pj_feed.specs.Named.{IsAlone}
use Rattle.pj_feed.specs.Opened.{OpensFirst, OpensAtMost, StayOutside}
use Rattle.pj_run.specs.Jobs.{Job}
use Rattle.pj_script.specs.Reading.{script_read}
use Rattle.pj_prepare.specs.declared.calls.Prepared.{Prepared}
use Rattle.pj_prepare.specs.declared.stops.FileStop.TheVariants.{OpenFault as NotOpened, ReadFault as NotRead, TooLong, NoMemory as FileMemory}
use Rattle.pj_prepare.specs.declared.stops.StepsStop.{StepsStop}
use Rattle.pj_prepare.specs.declared.stops.StepsStop.TheVariants.{File as ScriptFile, Refused as LineRefused, NoMemory as StepsMemory}
use Rattle.pj_prepare.specs.Calls.{first_by, is_nothing, leading, Call, fault_by, fault_or, file_names, job_if, job_of, job_with, operand, script_fault, steps_by, HasToldJob, IsToldIn}
use Rattle.pj_alone.specs.Endings.{at_opening, at_script, ending_of, ComesAt, EarlyLeaves, IsNoStepAt, KeepsLast}
use Rattle.pj_prepare.specs.Plans.{outline_in}
use Rattle.pj_alone.specs.Promises.{Ends, KeepsAll}
use Rattle.pj_prepare.specs.Scripts.{IsPrepared, StepsCause}
use Rattle.pj_prepare.specs.Stops.{steps_status}
use Rattle.pj_alone.specs.Top.{AnswersScript, HasFault, IsBuilt, IsLineRefused, IsScriptTooLong, IsUnopened, RefusesScript}
use Rattle.pj_alone.proofs.CallLaws.{built}
use Rattle.pj_alone.proofs.Completing.{completes_by}
use Rattle.pj_alone.proofs.EarlyLaws.{IsOfPlan, answers_built, of_plan}
use Rattle.pj_alone.proofs.MemoryLaws.{steps_memory}
use Rattle.pj_prepare.proofs.Operands.{opens_on, tried_on, unlike_lead}
use Rattle.pj_alone.proofs.StaysLaws.{never_scripted}

-- ---- its statuses

-- a status that no script is refused with
abbrev pub IsNoSteps : Status → Type 0
IsNoSteps Done = Unit {0}
IsNoSteps Usage = Unit {0}
IsNoSteps (OpenFault n) = ⊥
IsNoSteps (ReadFault n) = ⊥
IsNoSteps (PlanRefused line why) = Unit {0}
IsNoSteps (FileCount want got) = Unit {0}
IsNoSteps (Unsafe node risk) = Unit {0}
IsNoSteps (ScriptRefused line) = ⊥
IsNoSteps WriteFault = Unit {0}
IsNoSteps NoMemory = ⊥
IsNoSteps (Limit Plan) = Unit {0}
IsNoSteps (Limit Script) = ⊥
IsNoSteps (Limit (Node node)) = Unit {0}
IsNoSteps (Limit (File stream)) = Unit {0}

steps_never : (stop : StepsStop) (status : Status) → steps_status stop ≡ status → IsNoSteps status → ⊥
steps_never (ScriptFile NotOpened) status e p = subst IsNoSteps (sym e) p
steps_never (ScriptFile NotRead) status e p = subst IsNoSteps (sym e) p
steps_never (ScriptFile TooLong) status e p = subst IsNoSteps (sym e) p
steps_never (ScriptFile FileMemory) status e p = subst IsNoSteps (sym e) p
steps_never (LineRefused line) status e p = subst IsNoSteps (sym e) p
steps_never StepsMemory status e p = subst IsNoSteps (sym e) p

no_steps : (status : Status) → IsOfPlan status → IsNoSteps status
no_steps status of = of_plan IsNoSteps (λ line why. tt) (λ want got. tt) (λ node risk. tt) tt status of

-- each of its statuses has a line
pub steps_line : (stop : StepsStop) → HasLine (steps_status stop)
steps_line (ScriptFile NotOpened) = tt
steps_line (ScriptFile NotRead) = tt
steps_line (ScriptFile TooLong) = tt
steps_line (ScriptFile FileMemory) = tt
steps_line (LineRefused line) = tt
steps_line StepsMemory = tt

-- ---- the call

module _ (call : Call) (ready : Prepared) (mid new : FolderState) (p : IsPrepared ready call mid) (name : List ℕ) (is : call.script ≡ Some name) (others : StayOutside (name ∷ []) mid new) (first after : SinkState) where
  abbrev plan : List ℕ
  plan = operand call.names 1

  abbrev nodes : List PlanNode
  nodes = ready.core.plan.nodes

  is_built : IsBuilt call
  is_built = built call (outline_in ready.core) p.run.form p.run.count p.run.safe p.run.read

  named : call.names ≡ (plan ∷ []) ++ (name ∷ file_names call)
  named = is_built.named ∙ ap (λ (script : Option (List ℕ)). leading plan script ++ file_names call) is

  -- what the folder tells of the script before the plan was read it tells behind
  told_before : IsTrue (call.folder.told name) → IsTrue (mid.told name)
  told_before t = subst (λ (f : List ℕ → Bool). IsTrue (f name)) (sym p.told) t

  bytes_same : mid.contents name ≡ call.folder.contents name
  bytes_same = ap (λ (f : List ℕ → List ℕ). f name) p.contents

  told_name : HasToldJob call → IsTrue (call.folder.told name)
  told_name t = subst (λ (script : Option (List ℕ)). IsToldIn script call.folder) is t.1

  too_long : (IsTrue (mid.told name) → 1048576 < length (mid.contents name)) → IsTrue (call.folder.told name) → 1048576 < length (call.folder.contents name)
  too_long more t = subst (λ (bytes : List ℕ). 1048576 < length bytes) bytes_same (more (told_before t))

  faulty : (line : ℕ) → (IsTrue (mid.told name) → (length (mid.contents name) ≤ 1048576) × (script_read nodes (mid.contents name) ≡ Err line)) → IsTrue (call.folder.told name)
      → (length (call.folder.contents name) ≤ 1048576) × (script_read nodes (call.folder.contents name) ≡ Err line)
  faulty line read t = subst (λ (bytes : List ℕ). (length bytes ≤ 1048576) × (script_read nodes bytes ≡ Err line)) bytes_same (read (told_before t))

  -- what the call would run
  abbrev job : Job
  job = job_with call.options (steps_by call.script call.folder.contents nodes) nodes

  job_is : HasToldJob call → job_of call ≡ Some job
  job_is t = ap (job_if call) (p.run.read t.0).0

  fault_at : (line : ℕ) → script_read nodes (call.folder.contents name) ≡ Err line → script_fault call nodes ≡ Some line
  fault_at line read = ap (λ (script : Option (List ℕ)). fault_by script call.folder.contents nodes) is ∙ ap fault_or read

  -- the script's file was opened behind the plan's
  both_opened : OpensFirst 1 (name ∷ []) mid new → OpensFirst 2 call.names call.folder new
  both_opened more = subst (λ (ns : List (List ℕ)). OpensFirst 2 ns call.folder new) (sym named) (opens_on (plan ∷ []) (name ∷ file_names call) 1 call.folder mid new p.opened more)

  plan_opened : OpensFirst 0 (name ∷ []) mid new → OpensFirst 1 call.names call.folder new
  plan_opened none = subst (λ (ns : List (List ℕ)). OpensFirst 1 ns call.folder new) (sym named) (opens_on (plan ∷ []) (name ∷ file_names call) 0 call.folder mid new p.opened none)

  both_tried : StayOutside (take 2 call.names) call.folder new
  both_tried = subst (λ (ns : List (List ℕ)). StayOutside (take 2 ns) call.folder new) (sym named) (tried_on (plan ∷ []) (name ∷ file_names call) 1 call.folder mid new p.others others)

  ended_at_script : (status : Status) → ComesAt status at_script → ((line : ℕ) → status ≡ ScriptRefused line → IsNoStepAt call line) → OpensFirst 1 (name ∷ []) mid new → EarlyLeaves status call first after → Ends (ending_of call status new first after)
  ended_at_script status comes no_step opened left = (
    at_script,
    record {
      comes = comes;
      opened_first = both_opened opened;
      others_stay = both_tried;
      built = λ past. is_built;
      script = ((name, is), no_step);
      left = left;
    },
  )

  ended_before_script : (status : Status) → ComesAt status (at_opening 1) → OpensFirst 0 (name ∷ []) mid new → EarlyLeaves status call first after → KeepsLast 1 (ending_of call status new first after) → Ends (ending_of call status new first after)
  ended_before_script status comes opened left keeps = (
    at_opening 1,
    record {
      comes = comes;
      opened_first = plan_opened opened;
      others_stay = both_tried;
      built = λ past. is_built;
      script = λ past. let three = ap first_by is in absurd (omega (arith, past, three));
      left = (left, keeps);
    },
  )

  second : operand call.names 2 ≡ name
  second = ap (λ (ns : List (List ℕ)). operand ns 2) named

  -- nothing was taken from a script's file that was not opened
  last_stays : ((n : List ℕ) → new.last n ≡ mid.last n) → KeepsLast 1 (ending_of call (OpenFault 2) new first after)
  last_stays same told t n status alone =
      let at : slice_index_or call.names 1 [] ≡ name = ap (λ (ns : List (List ℕ)). slice_index_or ns 1 []) named in
      ap new.last at
      ∙ (same name
      ∙ (p.others.last name (unlike_lead (plan ∷ []) (name ∷ file_names call) 1 0 refl (subst (IsAlone 1) named alone)) ∙ ap call.folder.last (sym at)))

  memory_ended : (count : ℕ) → count ≤ 1 → OpensFirst count (name ∷ []) mid new → Delivered (status_line [] NoMemory) first after → Ends (ending_of call NoMemory new first after)
  memory_ended zero most opened line = ended_before_script NoMemory tt opened line (λ told t n e alone. absurd (cc))
  memory_ended (suc zero) most opened line = ended_at_script NoMemory tt (λ at e. absurd (cc)) opened line
  memory_ended (suc (suc n)) most opened line = absurd (omega (arith, most))

  steps_ended : (stop : StepsStop) → OpensAtMost 1 (name ∷ []) mid new → StepsCause stop name nodes mid new → Delivered (status_line [] (steps_status stop)) first after → Ends (ending_of call (steps_status stop) new first after)
  steps_ended (ScriptFile NotOpened) most cause line = ended_before_script (OpenFault 2) (1, refl, refl) cause.0 line (last_stays cause.2)
  steps_ended (ScriptFile NotRead) most cause line = ended_at_script (ReadFault 2) (inr (inl (refl, refl))) (λ at e. absurd (cc)) cause.0 line
  steps_ended (ScriptFile TooLong) most cause line = ended_at_script (Limit Script) refl (λ at e. absurd (cc)) cause.0 line
  steps_ended (ScriptFile FileMemory) most cause line = memory_ended most.0 most.1 most.2 line
  steps_ended (LineRefused at) most cause line = ended_at_script (ScriptRefused at) (inl refl) (λ line e t. let same : at ≡ line = cc e in (outline_in ready.core, (p.run.read t.0).0, subst (λ (n : ℕ). script_fault call nodes ≡ Some n) same (fault_at at (faulty at cause.1 (told_name t)).1))) cause.0 line
  steps_ended StepsMemory most cause line = memory_ended most.0 most.1 most.2 line

  -- ---- causes

  fault_of_script : Rose (mid.faults name) (new.faults name) → HasFault call new 2
  fault_of_script rose = record {
    first = omega arith;
    last = let all = ap length named in omega (arith, all);
    rose = subst (λ (n : List ℕ). Rose (call.folder.faults n) (new.faults n)) (sym second) (let le = p.later name in omega (arith, rose, le));
    later = λ _. is_built;
  }

  steps_unopened : (stop : StepsStop) (n : ℕ) → StepsCause stop name nodes mid new → steps_status stop ≡ OpenFault n → IsUnopened call new n
  steps_unopened (ScriptFile NotOpened) n cause e =
      let same : 2 ≡ n = cc e in
      subst (IsUnopened call new) same (record { fault = fault_of_script cause.1; before = 1; number = refl; opened = plan_opened cause.0 })
  steps_unopened (ScriptFile NotRead) n cause e = absurd (cc)
  steps_unopened (ScriptFile TooLong) n cause e = absurd (cc)
  steps_unopened (ScriptFile FileMemory) n cause e = absurd (cc)
  steps_unopened (LineRefused line) n cause e = absurd (cc)
  steps_unopened StepsMemory n cause e = absurd (cc)

  steps_unread : (stop : StepsStop) (n : ℕ) → StepsCause stop name nodes mid new → steps_status stop ≡ ReadFault n → HasFault call new n
  steps_unread (ScriptFile NotOpened) n cause e = absurd (cc)
  steps_unread (ScriptFile NotRead) n cause e = let same : 2 ≡ n = cc e in subst (HasFault call new) same (fault_of_script cause.1)
  steps_unread (ScriptFile TooLong) n cause e = absurd (cc)
  steps_unread (ScriptFile FileMemory) n cause e = absurd (cc)
  steps_unread (LineRefused line) n cause e = absurd (cc)
  steps_unread StepsMemory n cause e = absurd (cc)

  steps_too_long : (stop : StepsStop) → StepsCause stop name nodes mid new → steps_status stop ≡ Limit Script → IsScriptTooLong call
  steps_too_long (ScriptFile NotOpened) cause e = absurd (cc)
  steps_too_long (ScriptFile NotRead) cause e = absurd (cc)
  steps_too_long (ScriptFile TooLong) cause e = record { built = is_built; name = name; scripted = is; long = too_long cause.1 }
  steps_too_long (ScriptFile FileMemory) cause e = absurd (cc)
  steps_too_long (LineRefused line) cause e = absurd (cc)
  steps_too_long StepsMemory cause e = absurd (cc)

  line_is_refused : (stop : StepsStop) (line : ℕ) → StepsCause stop name nodes mid new → steps_status stop ≡ ScriptRefused line → IsLineRefused call line
  line_is_refused (ScriptFile NotOpened) line cause e = absurd (cc)
  line_is_refused (ScriptFile NotRead) line cause e = absurd (cc)
  line_is_refused (ScriptFile TooLong) line cause e = absurd (cc)
  line_is_refused (ScriptFile FileMemory) line cause e = absurd (cc)
  line_is_refused (LineRefused at) line cause e =
      let same : at ≡ line = cc e in
      subst (IsLineRefused call) same (record { built = is_built; name = name; scripted = is; refuses = λ t. (job, job_is t, inl (fault_at at (faulty at cause.1 (told_name t)).1)) })
  line_is_refused StepsMemory line cause e = absurd (cc)

  -- ---- a script that is refused is refused so

  -- what is refused of the script is refused for one cause alone
  answers_steps : (stop : StepsStop) → StepsCause stop name nodes mid new → AnswersScript (steps_status stop) call
  answers_steps stop cause b t own scripted status refuses = go stop cause (subst (λ (n : List ℕ). RefusesScript call (call.folder.contents n) status) same refuses)
    where
      same : own ≡ name
      same = let e : Some own ≡ Some name = sym scripted ∙ is in cc e

      so : (line : ℕ) → (length (call.folder.contents name) ≤ 1048576) × (script_read nodes (call.folder.contents name) ≡ Err line) → RefusesScript call (call.folder.contents name) status → ScriptRefused line ≡ status
      so line read (inl long) = let few = read.0 in let many = long.0 in absurd (omega (arith, few, many))
      so line read (inr other) =
          let r = other.1 in
          let jobs : job ≡ r.0 = (let e : Some job ≡ Some r.0 = sym (job_is t) ∙ r.2 in cc e) in
          let lines : Some line ≡ Some r.1 = sym (fault_at line read.1) ∙ (ap (λ (j : Job). script_fault call j.nodes) jobs ∙ r.3) in
          let one : line ≡ r.1 = cc lines in
          ap ScriptRefused one ∙ sym r.4

      go : (stop : StepsStop) → StepsCause stop name nodes mid new → RefusesScript call (call.folder.contents name) status
          → (steps_status stop ≡ status) ⊎ (steps_status stop ≡ NoMemory) ⊎ ((n : ℕ) × (n ≤ 2) × ((steps_status stop ≡ OpenFault n) ⊎ (steps_status stop ≡ ReadFault n)))
      go (ScriptFile NotOpened) c r = inr (inr (2, (omega arith), inl refl))
      go (ScriptFile NotRead) c r = inr (inr (2, (omega arith), inr refl))
      go (ScriptFile TooLong) c (inl long) = inl (sym long.1)
      go (ScriptFile TooLong) c (inr other) = let few = other.0 in let many = too_long c.1 (told_name t) in absurd (omega (arith, few, many))
      go (ScriptFile FileMemory) c r = inr (inl refl)
      go (LineRefused line) c r = inl (so line (faulty line c.1 (told_name t)) r)
      go StepsMemory c r = inr (inl refl)

  -- all promises of a call whose script was not had
  pub keeps_unscripted : (stop : StepsStop) → OpensAtMost 1 (name ∷ []) mid new → StepsCause stop name nodes mid new → Delivered (status_line [] (steps_status stop)) first after → HandedOn first after
      → KeepsAll (ending_of call (steps_status stop) new first after)
  keeps_unscripted stop most cause line handed =
      let never : (other : Status) → steps_status stop ≡ other → IsNoSteps other → ⊥ = λ other same no. steps_never stop other same no in
      record {
        answer = λ runs same. absurd (never Done same tt);
        punctuations = λ runs same. absurd (never Done same tt);
        lawful = λ runs same. absurd (never Done same tt);
        one_thread_bytes = λ runs same. absurd (never Done same tt);
        tallies = λ runs same. absurd (never Done same tt);
        made = λ seed count makes same. absurd (never Done same tt);
        read_to_end = λ same. absurd (never Done same tt);
        ending = steps_ended stop most cause line;
        never_retracted = λ writes all t. never_scripted stop call first after t line;
        whole_lines = λ runs same. steps_memory stop first after line same;
        handed_on = (handed, λ same. absurd (never Done same tt));
        cause_of_done = λ same. absurd (never Done same tt);
        cause_of_usage = λ same. absurd (never Usage same tt);
        usage = λ none. absurd (false≢true (sym (ap is_nothing is_built.form) ∙ none));
        cause_of_plan_limit = λ same. absurd (never (Limit Plan) same tt);
        cause_of_plan_refused = λ at why same. absurd (never (PlanRefused at why) same tt);
        cause_of_file_count = λ want got same. absurd (never (FileCount want got) same tt);
        cause_of_unsafe = λ node risk same. absurd (never (Unsafe node risk) same tt);
        refused = answers_built call (steps_status stop) is_built;
        cause_of_script_limit = λ same. steps_too_long stop cause same;
        cause_of_script_refused = λ at same. line_is_refused stop at cause same;
        script_refused = answers_steps stop cause;
        cause_of_open_fault = λ n same. steps_unopened stop n cause same;
        cause_of_read_fault = λ n same. steps_unread stop n cause same;
        cause_of_write_fault = λ same. absurd (never WriteFault same tt);
        cause_of_limit = λ node same. absurd (never (Limit (Node node)) same tt);
        cause_of_file_limit = λ stream same. absurd (never (Limit (File stream)) same tt);
        completes = completes_by (steps_status stop) call new first after (record {
          usage = λ same. absurd (never Usage same tt);
          refused = λ other same of. absurd (never other same (no_steps other of));
          script_limit = λ same. steps_too_long stop cause same;
          line_refused = λ at same. line_is_refused stop at cause same;
          open_fault = λ n same. steps_unopened stop n cause same;
          read_fault = λ n same. steps_unread stop n cause same;
          write_fault = λ same. absurd (never WriteFault same tt);
          limit = λ node same. absurd (never (Limit (Node node)) same tt);
          file_limit = λ stream same. absurd (never (Limit (File stream)) same tt);
        });
      }
