-- A plan that was checked: what was written, and what is so of the call.
use Rattle.std.proofs.lemmas.Bool.{false≢true}
use Rattle.std.proofs.Common.{◌≡◌, ℕ, Bool, true, inl, inr, List, [], ◌++◌, take, Option, Some, None, Result, Ok, Err, OnOk, OnErr, IsTrue, refl, ap, sym, ◌∙◌, subst, append-nil, false}
use Rattle.std.specs.List.{concat}
use Rattle.pj_io.specs.Causes.{Rose}
use Rattle.pj_io.specs.States.{FolderState, SinkState}
use Rattle.pj_plan.specs.declared.node.Outline.{Outline}
use Rattle.pj_judge.specs.Checks.{check_lines, IsAnswer}
use Rattle.pj_safety.specs.declared.risk.PlanRisk.{PlanRisk}
use Rattle.pj_safety.specs.Safety.{IsSafePlan}
use Rattle.pj_feed.specs.Opened.{AreReadToEnd, IsReadToEnd, OpensFirst, StayOutside}
use Rattle.pj_report.specs.declared.status.Status.{Status}
use Rattle.pj_report.specs.declared.status.Status.TheVariants.{Done, Usage, OpenFault, ReadFault, PlanRefused, FileCount, Unsafe, ScriptRefused, WriteFault, NoMemory, Limit}
use Rattle.pj_report.specs.Written.{Delivered, FrontOf, HandedOn}
use Rattle.pj_prepare.specs.Calls.{checking, making, running, is_nothing, takes_plan, Call, HasReadPlan, HasToldPlan, files_asked, operand, plan_bytes}
use Rattle.pj_alone.specs.Endings.{at_verdict, ending_of, ComesAt, VerdictLeaves}
use Rattle.pj_alone.specs.Promises.{Ends, KeepsAll, WritesResults}
use Rattle.pj_alone.proofs.Completing.{completes_by}
use Rattle.pj_prepare.specs.declared.calls.Prepared.{Prepared}
use Rattle.pj_prepare.specs.declared.calls.Ready.{Ready}
use Rattle.pj_prepare.specs.declared.calls.Ready.TheVariants.{Run, Check}
use Rattle.pj_prepare.specs.Ready.{IsCheckReady, IsReadyFor, IsRunReady}
use Rattle.pj_prepare.specs.Refusals.{HasStreams, IsRefused, Refuses}
use Rattle.pj_prepare.specs.Stops.{verdict_status}
use Rattle.pj_alone.specs.Top.{AnswersRefusal, IsFit, IsPlayable, CanPlay, WriteFails, KeepsLimit}
use Rattle.pj_report.specs.declared.status.LimitOf.TheVariants.{Plan, Script, Node, File}
use Rattle.pj_alone.proofs.EarlyLaws.{IsOfPlan, of_plan, asked_by, fit_never, is_unfit, refused_alone}
use Rattle.pj_prepare.proofs.Refusing.{read_as}

-- ---- what is ready

pub ready_run : (call : Call) (found : Ready) (prepared : Prepared) → IsReadyFor call found → found ≡ Run prepared → IsRunReady prepared call
ready_run call found prepared ready is = subst (IsReadyFor call) is ready

pub ready_check : (call : Call) (found : Ready) (plan : Outline) (print : Bool) → IsReadyFor call found → found ≡ Check plan print → IsCheckReady plan print call
ready_check call found plan print ready is = subst (IsReadyFor call) is ready

-- ---- what was written

front_of : (text : List ℕ) (old new : SinkState) → Delivered text old new → IsTrue new.told → FrontOf text old.written new.written
front_of text old new delivered told = elim (delivered told) [
  | inl whole ↦ record { front = text; others = []; all = append-nil text; written = whole }
  | inr cut ↦ cut.1
]

pub verdict_left : {E : Type 0} (found : Option (ℕ × PlanRisk)) (written : Result (Unit {0}) E) (text : List ℕ) (print : Bool) (plan : Outline) (old new : SinkState) → IsAnswer plan.nodes found
    → text ≡ concat (check_lines print plan) → Delivered text old new → OnOk written (IsTrue new.told → new.written ≡ old.written ++ text) → OnErr written (Rose old.faults new.faults)
    → VerdictLeaves (verdict_status found written) print plan old new
verdict_left (Some (node, risk)) written text print plan old new first is delivered all rose = (first, subst (λ (bytes : List ℕ). Delivered bytes old new) is delivered)
verdict_left None (Ok u) text print plan old new safe is delivered all rose = (safe, λ told. all told ∙ ap (λ (bytes : List ℕ). old.written ++ bytes) is)
verdict_left None (Err stop) text print plan old new safe is delivered all rose = (safe, rose, λ told. subst (λ (bytes : List ℕ). FrontOf bytes old.written new.written) is (front_of text old new delivered told))

-- ---- the statuses of a verdict

-- a status that no verdict has
abbrev pub IsNoVerdict : Status → Type 0
IsNoVerdict Done = ⊥
IsNoVerdict Usage = Unit {0}
IsNoVerdict (PlanRefused line why) = Unit {0}
IsNoVerdict (FileCount want got) = Unit {0}
IsNoVerdict (Unsafe node risk) = ⊥
IsNoVerdict (ScriptRefused line) = Unit {0}
IsNoVerdict (OpenFault n) = Unit {0}
IsNoVerdict (ReadFault n) = Unit {0}
IsNoVerdict WriteFault = ⊥
IsNoVerdict NoMemory = ⊥
IsNoVerdict (Limit what) = Unit {0}

no_verdict : (status : Status) (print : Bool) (plan : Outline) (first after : SinkState) → VerdictLeaves status print plan first after → IsNoVerdict status → ⊥
no_verdict Done print plan first after v never = never
no_verdict Usage print plan first after v never = v
no_verdict (PlanRefused line why) print plan first after v never = v
no_verdict (FileCount want got) print plan first after v never = v
no_verdict (Unsafe node risk) print plan first after v never = never
no_verdict (ScriptRefused line) print plan first after v never = v
no_verdict (OpenFault n) print plan first after v never = v
no_verdict (ReadFault n) print plan first after v never = v
no_verdict WriteFault print plan first after v never = never
no_verdict NoMemory print plan first after v never = never
no_verdict (Limit what) print plan first after v never = v

comes : (status : Status) (print : Bool) (plan : Outline) (first after : SinkState) → VerdictLeaves status print plan first after → ComesAt status at_verdict
comes Done print plan first after v = inr (inl refl)
comes Usage print plan first after v = absurd v
comes (PlanRefused line why) print plan first after v = absurd v
comes (FileCount want got) print plan first after v = absurd v
comes (Unsafe node risk) print plan first after v = inr refl
comes (ScriptRefused line) print plan first after v = absurd v
comes (OpenFault n) print plan first after v = absurd v
comes (ReadFault n) print plan first after v = absurd v
comes WriteFault print plan first after v = inr (inl refl)
comes NoMemory print plan first after v = tt
comes (Limit what) print plan first after v = absurd v

-- ---- the call

module _ (call : Call) (print : Bool) (plan : Outline) (ready : IsCheckReady plan print call) (first after : SinkState) where
  never_runs : call.task ≡ running → ⊥
  never_runs runs = let e : checking print ≡ running = sym ready.task ∙ runs in cc

  takes : takes_plan call.task ≡ true
  takes = ap takes_plan ready.task

  is_something : is_nothing call.task ≡ false
  is_something = ap is_nothing ready.task

  verdict_never : (status other : Status) → VerdictLeaves status print plan first after → status ≡ other → IsNoVerdict other → ⊥
  verdict_never status other v is never = no_verdict other print plan first after (subst (λ (s : Status). VerdictLeaves s print plan first after) is v) never

  ended_verdict : (status : Status) (new : FolderState) → VerdictLeaves status print plan first after → OpensFirst 1 call.names call.folder new → StayOutside (take 1 call.names) call.folder new → Ends (ending_of call status new first after)
  ended_verdict status new v opened stay = (
    at_verdict,
    record {
      comes = comes status print plan first after v;
      opened_first = opened;
      others_stay = stay;
      built = λ past. absurd past;
      script = tt;
      left = (print, plan, ready.task, ready.read, v);
    },
  )

  read_alone : (new : FolderState) → (takes_plan call.task ≡ true → HasToldPlan call → IsReadToEnd (operand call.names 1) call.folder new) → AreReadToEnd call.names call.folder new
  read_alone new read = subst (λ (ns : List (List ℕ)). AreReadToEnd ns call.folder new) (sym ready.named) (read takes, tt)

  safe_fits : IsSafePlan plan.nodes → IsFit call.task call
  safe_fits safe = subst (λ t. IsFit t call) (sym ready.task) (λ told. let read = ready.read told in (read.1, (plan, read.0, safe)))

  -- no script is played
  plays : IsPlayable call
  plays = subst (λ (script : Option (List ℕ)). CanPlay script call) (sym ready.bare) tt

  no_limit : KeepsLimit call.task call
  no_limit = subst (λ t. KeepsLimit t call) (sym ready.task) tt

  done_fits : (status : Status) → VerdictLeaves status print plan first after → status ≡ Done → IsFit call.task call
  done_fits status v is = let w = subst (λ (s : Status). VerdictLeaves s print plan first after) is v in safe_fits w.0

  write_fits : (status : Status) → VerdictLeaves status print plan first after → status ≡ WriteFault → WriteFails call first after
  write_fits status v is = let w = subst (λ (s : Status). VerdictLeaves s print plan first after) is v in (w.1, safe_fits w.0)

  no_files : files_asked call ≡ None
  no_files = asked_by call (checking print) ready.task

  unsafe_refused : (node : ℕ) (risk : PlanRisk) → VerdictLeaves (Unsafe node risk) print plan first after → IsRefused call (Unsafe node risk)
  unsafe_refused node risk v = (
    takes,
    λ told.
        let read = ready.read told in
        inr (
          takes,
          is_unfit (Unsafe node risk) (files_asked call) (plan_bytes call) plan (subst (λ (files : Option ℕ). HasStreams files plan) (sym no_files) tt, v.0) (read.1, read_as (plan_bytes call) plan read.0),
        ),
  )

  unsafe_found : (status : Status) (node : ℕ) (risk : PlanRisk) → VerdictLeaves status print plan first after → status ≡ Unsafe node risk → IsRefused call (Unsafe node risk)
  unsafe_found status node risk v is = unsafe_refused node risk (subst (λ (s : Status). VerdictLeaves s print plan first after) is v)

  -- a safe plan is not refused
  safe_never : IsSafePlan plan.nodes → HasToldPlan call → (status : Status) → Refuses call status → ⊥
  safe_never safe told status refuses = fit_never (checking print) call status ready.task (λ t. let read = ready.read t in (read.1, (plan, read.0, safe))) told refuses

  answers_verdict : (status : Status) → VerdictLeaves status print plan first after → AnswersRefusal status call
  answers_verdict Done v = λ told status refuses. absurd (safe_never v.0 told status refuses)
  answers_verdict Usage v = absurd v
  answers_verdict (PlanRefused line why) v = absurd v
  answers_verdict (FileCount want got) v = absurd v
  answers_verdict (Unsafe node risk) v = λ told status refuses. inl (refused_alone call (Unsafe node risk) status ((unsafe_refused node risk v).1 told) refuses)
  answers_verdict (ScriptRefused line) v = absurd v
  answers_verdict (OpenFault n) v = absurd v
  answers_verdict (ReadFault n) v = absurd v
  answers_verdict WriteFault v = λ told status refuses. absurd (safe_never v.0 told status refuses)
  answers_verdict NoMemory v = λ told status refuses. inr (inl refl)
  answers_verdict (Limit what) v = absurd v

  -- of the refusals a verdict is an unsafe plan alone
  verdict_refused : (status other : Status) → VerdictLeaves status print plan first after → status ≡ other → IsOfPlan other → IsRefused call other
  verdict_refused status other v is of =
      of_plan (λ (o : Status). status ≡ o → IsRefused call o) (λ line why same. absurd (verdict_never status (PlanRefused line why) v same tt)) (λ want got same. absurd (verdict_never status (FileCount want got) v same tt))
      (λ node risk same. unsafe_found status node risk v same) (λ same. absurd (verdict_never status (Limit Plan) v same tt)) other of is

  -- all promises of a check
  pub keeps_verdict : (status : Status) (new : FolderState) → VerdictLeaves status print plan first after → OpensFirst 1 call.names call.folder new → StayOutside (take 1 call.names) call.folder new → HasReadPlan call new
      → HandedOn first after → (status ≡ Done → after.held ≡ []) → KeepsAll (ending_of call status new first after)
  keeps_verdict status new v opened stay read handed all_handed =
      let never : (other : Status) → status ≡ other → IsNoVerdict other → ⊥ = λ other is no. verdict_never status other v is no in
      record {
        answer = λ runs. absurd (never_runs runs);
        punctuations = λ runs. absurd (never_runs runs);
        lawful = λ runs. absurd (never_runs runs);
        one_thread_bytes = λ runs. absurd (never_runs runs);
        tallies = λ runs. absurd (never_runs runs);
        made = λ seed count makes _. absurd (let e : checking print ≡ making seed count = sym ready.task ∙ makes in cc);
        read_to_end = λ _. read_alone new read;
        ending = ended_verdict status new v opened stay;
        never_retracted = λ writes. absurd (subst WritesResults ready.task writes);
        whole_lines = λ runs. absurd (never_runs runs);
        handed_on = (handed, all_handed);
        cause_of_done = λ is. (done_fits status v is, plays, no_limit);
        cause_of_usage = λ is. absurd (never Usage is tt);
        usage = λ none. absurd (false≢true (sym is_something ∙ none));
        cause_of_plan_limit = λ is. absurd (never (Limit Plan) is tt);
        cause_of_plan_refused = λ line why is. absurd (never (PlanRefused line why) is tt);
        cause_of_file_count = λ want got is. absurd (never (FileCount want got) is tt);
        cause_of_unsafe = λ node risk is. unsafe_found status node risk v is;
        refused = answers_verdict status v;
        cause_of_script_limit = λ is. absurd (never (Limit Script) is tt);
        cause_of_script_refused = λ line is. absurd (never (ScriptRefused line) is tt);
        script_refused = λ built. absurd (never_runs built.form);
        cause_of_open_fault = λ n is. absurd (never (OpenFault n) is tt);
        cause_of_read_fault = λ n is. absurd (never (ReadFault n) is tt);
        cause_of_write_fault = λ is. write_fits status v is;
        cause_of_limit = λ node is. absurd (never (Limit (Node node)) is tt);
        cause_of_file_limit = λ stream is. absurd (never (Limit (File stream)) is tt);
        completes = completes_by status call new first after (record {
          usage = λ is. absurd (never Usage is tt);
          refused = λ other is of. verdict_refused status other v is of;
          script_limit = λ is. absurd (never (Limit Script) is tt);
          line_refused = λ line is. absurd (never (ScriptRefused line) is tt);
          open_fault = λ n is. absurd (never (OpenFault n) is tt);
          read_fault = λ n is. absurd (never (ReadFault n) is tt);
          write_fault = λ is. write_fits status v is;
          limit = λ node is. absurd (never (Limit (Node node)) is tt);
          file_limit = λ stream is. absurd (never (Limit (File stream)) is tt);
        });
      }
