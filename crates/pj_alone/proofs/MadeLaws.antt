-- A made input: what is left of its lines, and why nothing else comes.
use Rattle.std.proofs.Common.{◌≡◌, ◌≤◌, ◌<◌, ℕ, zero, suc, false, inl, inr, List, [], ◌∷◌, ◌++◌, map, length, take, Ok, Err, Option, Some, None, IsTrue, refl, ap, sym, ◌∙◌, subst, arith}
use Rattle.std.specs.Prelude.{slice_index_or, ◌^◌}
use Rattle.std.proofs.lemmas.Bool.{false≢true}
use Rattle.std.proofs.lemmas.List.{get_or-map, length-append}
use Rattle.pj_io.specs.Causes.{Rose}
use Rattle.pj_io.specs.States.{FolderState, SinkState}
use Rattle.pj_pattern.specs.Patterns.{Pattern}
use Rattle.pj_pattern.specs.Columns.{all_wild}
use Rattle.pj_pattern.specs.declared.element.Element.{Element}
use Rattle.pj_pattern.specs.declared.element.Element.TheVariants.{Punct}
use Rattle.pj_pattern.specs.Elements.{puncts_of}
use Rattle.pj_pattern.proofs.Elements.{puncts_of-append}
use Rattle.pj_events.specs.declared.events.Stop.TheVariants.{Limit as CoreLimit, NoMemory as CoreMemory}
use Rattle.pj_make_laws.specs.Made.{made_elements, made_plan}
use Rattle.pj_report.specs.declared.status.Status.{Status}
use Rattle.pj_report.specs.declared.status.LimitOf.TheVariants.{Plan, Script, Node, File}
use Rattle.pj_report.specs.declared.status.Status.TheVariants.{Done, Usage, OpenFault, ReadFault, PlanRefused, FileCount, Unsafe, ScriptRefused, WriteFault, NoMemory, Limit}
use Rattle.pj_report.specs.Report.{status_line}
use Rattle.pj_report.specs.Written.{anywhere, between, flat, holding, Delivered, FrontOf, HandedOn, Leaves, WholeLines}
use Rattle.pj_report.proofs.LinesWritten.{none_written, stop_before, stop_then, written_then}
use Rattle.pj_feed.specs.declared.stops.OpeningStop.TheVariants.{Fault, NoMemory as OpeningMemory}
use Rattle.pj_feed.specs.Named.{files_named, AreTold}
use Rattle.pj_feed.specs.Opened.{AreReadToEnd, OpensFirst, StayOutside}
use Rattle.pj_run.specs.declared.stops.FilesStop.{FilesStop}
use Rattle.pj_run.specs.declared.stops.FilesStop.TheVariants.{Opening, Run}
use Rattle.pj_run.specs.declared.stops.RunStop.TheVariants.{ReadFault as RunFault, TooLarge, Limit as RunLimit, Refused as RunRefused, WriteFailed, NoMemory as RunMemory, Cut as RunCut, CutRead, CutLarge, CutRefused}
use Rattle.pj_run.specs.Cuts.{files_cut}
use Rattle.pj_run.specs.RunEnds.{FilesCause}
use Rattle.pj_run.specs.Runs.{elements_of, outputs_of, outs_of, report_of, run_lines, GoesBeyond}
use Rattle.pj_run.specs.Stops.{files_status, stop_line}
use Rattle.pj_make.specs.Inputs.{plan_text}
use Rattle.pj_make_laws.specs.Made.{MadePlanIsRead}
use Rattle.pj_make_laws.proofs.Plans.{made_plan_fits}
use Rattle.pj_plan.specs.declared.node.Outline.{Outline}
use Rattle.pj_plan_text.specs.PlanRead.{plan_read}
use Rattle.pj_safety.proofs.Risks.{risk_is_unsafe}
use Rattle.pj_prepare.specs.declared.stops.PlanStop.{PlanStop}
use Rattle.pj_prepare.specs.declared.stops.PlanStop.TheVariants.{File as PlanFile, Refused, FileCount as OtherCount, Unsafe as Stuck, NoMemory as PlanMemory}
use Rattle.pj_prepare.specs.Refusals.{BytesRefused, RefusesPlan}
use Rattle.pj_run.proofs.OutputLaws.{outputs_answer, outputs_lawful, outputs_puncts}
use Rattle.pj_run.proofs.Planned.{IsPlanned}
use Rattle.pj_words.specs.Request.{IsMake as IsMakeable}
use Rattle.pj_prepare.specs.declared.calls.Ready.{Ready}
use Rattle.pj_prepare.specs.declared.calls.Ready.TheVariants.{Make}
use Rattle.pj_prepare.specs.Calls.{is_nothing, making, running, takes_plan, Call}
use Rattle.pj_alone.specs.Endings.{at_made, ending_of, ComesAt}
use Rattle.pj_alone.specs.Made.{made_files, made_job, made_lines, IsMade, IsMemory, LinesLeft, MadeRun}
use Rattle.pj_alone.specs.Promises.{Ends, KeepsAll, WritesResults}
use Rattle.pj_alone.proofs.Completing.{completes_by}
use Rattle.pj_prepare.specs.Ready.{IsMakeReady, IsReadyFor}
use Rattle.pj_alone.specs.Top.{AnswersRefusal, IsFit, IsPlayable, CanPlay, WriteFails, KeepsLimit}
use Rattle.pj_alone.proofs.EarlyLaws.{IsOfPlan, of_plan}
use Rattle.pj_alone.proofs.RunLaws.{earlier_rose, later_rose, same_after}
use Rattle.pj_make_laws.proofs.Lengths.{made_files_are_short}
use Rattle.pj_make_laws.proofs.Limits.{made_is_within_limits}
use Rattle.pj_make_laws.proofs.Totals.{made_total_is_exact}
use Rattle.pj_make_laws.proofs.Punctuations.{made_puncts_are_few}

-- ---- what is left of lines

-- these lines were written, and this is left of those behind them
pub left_first : (status : Status) (lines rest : List (List ℕ)) (old mid new : SinkState) → (IsTrue new.told → mid.written ≡ old.written ++ flat lines) → old.faults ≤ mid.faults → LinesLeft status rest mid new
    → LinesLeft status (lines ++ rest) old new
left_first Done lines rest old mid new written le left = λ t. written_then lines rest old.written mid.written new.written (written t) (left t)
left_first Usage lines rest old mid new written le left = absurd left
left_first (PlanRefused line why) lines rest old mid new written le left = absurd left
left_first (FileCount want got) lines rest old mid new written le left = absurd left
left_first (Unsafe node risk) lines rest old mid new written le left = absurd left
left_first (ScriptRefused line) lines rest old mid new written le left = absurd left
left_first (OpenFault n) lines rest old mid new written le left = absurd left
left_first (ReadFault n) lines rest old mid new written le left = absurd left
left_first WriteFault lines rest old mid new written le left = (
  let rose = left.0 in omega (arith, rose, le),
  λ t. stop_then anywhere lines rest old.written mid.written new.written (written t) (left.1 t),
)
left_first NoMemory lines rest old mid new written le left = λ t. elim (left t) [
  | inl whole ↦ inl (whole.0, stop_then between lines rest old.written mid.written whole.0 (written t) whole.1, earlier_rose (status_line [] NoMemory) old (holding mid whole.0) new le whole.2)
  | inr cut ↦ inr (stop_then anywhere lines rest old.written mid.written new.written (written t) cut.0, let rose = cut.1 in omega (arith, rose, le))
]
left_first (Limit what) lines rest old mid new written le left = absurd left

-- nothing was written but the status' line
pub memory_first : (lines : List (List ℕ)) (old new : SinkState) → Delivered (status_line [] NoMemory) old new → LinesLeft NoMemory lines old new
memory_first lines old new line = λ t. inl (old.written, none_written between lines old.written, earlier_rose (status_line [] NoMemory) old old new (omega arith) line)

-- memory was wanting among these lines, and others would have come
pub memory_among : (lines rest : List (List ℕ)) (old mid new : SinkState) → (IsTrue new.told → WholeLines lines old.written mid.written) → old.faults ≤ mid.faults → Delivered (status_line [] NoMemory) mid new
    → LinesLeft NoMemory (lines ++ rest) old new
memory_among lines rest old mid new left le line = λ t. inl (mid.written, stop_before between lines rest old.written mid.written (left t), earlier_rose (status_line [] NoMemory) old mid new le line)

-- a write failed among these lines, and others would have come
pub fault_among : (lines rest : List (List ℕ)) (old new : SinkState) → Rose old.faults new.faults → (IsTrue new.told → FrontOf (flat lines) old.written new.written) → LinesLeft WriteFault (lines ++ rest) old new
fault_among lines rest old new rose left = (rose, λ t. stop_before anywhere lines rest old.written new.written (left t))

-- ---- why nothing else comes

-- a list with one more punctuation
one_more : (es : List Element) (patterns : List Pattern) → length (puncts_of es) < 2 ^ 31 → length (puncts_of (es ++ Punct patterns ∷ [])) ≤ 2 ^ 31
one_more es patterns few =
    let parts = ap length (puncts_of-append es (Punct patterns ∷ [])) ∙ length-append (puncts_of es) (patterns ∷ []) in
    omega (arith, parts, few)

module _ (seed count : ℕ) (few : IsMakeable seed count) where
  never_beyond : (node : ℕ) → GoesBeyond made_job (made_files seed count) node → ⊥
  never_beyond node beyond =
      let fewer = made_puncts_are_few seed count few.count_most in
      let most = made_is_within_limits seed count few.count_most (map puncts_of (elements_of made_job (made_files seed count))) (one_more (slice_index_or (made_elements seed count) 0 []) (all_wild 2) fewer.0, (one_more (slice_index_or (made_elements seed count) 1 []) (all_wild 2) fewer.1.0, tt)) node in
      let many = beyond.many in
      omega (arith, most, many)

  short_file : (stream : ℕ) → stream < 2 → length (slice_index_or (made_files seed count) stream []) < 2 ^ 40
  short_file zero lt = (made_files_are_short seed count few.count_most).items
  short_file (suc zero) lt = (made_files_are_short seed count few.count_most).bids
  short_file (suc (suc stream)) lt = absurd (omega (arith, lt))

  module _ (names : List (List ℕ)) (two : length names ≡ 2) (before after : FolderState) (quiet : (name : List ℕ) → Rose (before.faults name) (after.faults name) → ⊥) (told : AreTold names before) (all_told : (name : List ℕ) → IsTrue (before.told name))
      (are : files_named names before ≡ made_files seed count) where
    beyond_named : (node : ℕ) → GoesBeyond made_job (files_named names before) node → ⊥
    beyond_named node beyond = never_beyond node (subst (λ (fs : List (List ℕ)). GoesBeyond made_job fs node) are beyond)

    never_large : (stream : ℕ) → stream < length names → 2 ^ 40 ≤ length (before.contents (slice_index_or names stream [])) → ⊥
    never_large stream there many =
        let same : slice_index_or (files_named names before) stream [] ≡ before.contents (slice_index_or names stream []) = get_or-map before.contents names stream [] [] there in
        let is = ap length (sym same ∙ ap (λ (fs : List (List ℕ)). slice_index_or fs stream []) are) in
        let short = short_file stream (omega (arith, there, two)) in
        omega (arith, many, is, short)

    -- how the run ends that stopped
    pub made_stopped : (stop : FilesStop) (first now last : SinkState) → FilesCause stop made_job names before after first now
        → (IsTrue last.told → Leaves (files_cut stop) (run_lines made_job (files_named names before)) first.written now.written) → first.faults ≤ now.faults → now.faults ≤ last.faults → Delivered (stop_line 2 stop []) now last
        → LinesLeft (files_status 2 stop) (run_lines made_job (made_files seed count)) first last
    made_stopped (Opening (Fault stream)) first now last cause left le more line = absurd (quiet (slice_index_or names stream []) cause.rose)
    made_stopped (Opening OpeningMemory) first now last cause left le more line = λ t. inl (
      now.written,
      subst (λ (fs : List (List ℕ)). WholeLines (run_lines made_job fs) first.written now.written) are (left t),
      earlier_rose (status_line [] NoMemory) first now last le line,
    )
    made_stopped (Run (RunFault stream)) first now last cause left le more line = absurd (quiet (slice_index_or names stream []) cause.rose)
    made_stopped (Run (TooLarge stream)) first now last cause left le more line = absurd (never_large stream cause.there (cause.bytes (all_told (slice_index_or names stream []))))
    made_stopped (Run (RunLimit node)) first now last cause left le more line = absurd (beyond_named node (cause told))
    made_stopped (Run (RunRefused line)) first now last cause left le more written = absurd (let e : None ≡ Some line = cause.1 told in cc e)
    made_stopped (Run (CutRead stream)) first now last cause left le more written = absurd (quiet (slice_index_or names stream []) cause.1.rose)
    made_stopped (Run (CutLarge stream)) first now last cause left le more written = absurd (never_large stream cause.1.there (cause.1.bytes (all_told (slice_index_or names stream []))))
    made_stopped (Run (CutRefused line)) first now last cause left le more written = absurd (let e : None ≡ Some line = cause.2 told in cc e)
    made_stopped (Run WriteFailed) first now last cause left le more line = (
      later_rose first now last cause more,
      λ t. subst (λ (bytes : List ℕ). FrontOf (flat (run_lines made_job (made_files seed count))) first.written bytes) (sym (same_after now last t line))
          (subst (λ (fs : List (List ℕ)). FrontOf (flat (run_lines made_job fs)) first.written now.written) are (left t)),
    )
    made_stopped (Run RunMemory) first now last cause left le more line = λ t. inl (
      now.written,
      subst (λ (fs : List (List ℕ)). WholeLines (run_lines made_job fs) first.written now.written) are (left t),
      earlier_rose (status_line [] NoMemory) first now last le line,
    )
    made_stopped (Run (RunCut (CoreLimit node))) first now last cause left le more line = absurd (beyond_named node (cause.1 told))
    made_stopped (Run (RunCut CoreMemory)) first now last cause left le more line = λ t. inr (
      subst (λ (bytes : List ℕ). FrontOf (flat (run_lines made_job (made_files seed count))) first.written bytes) (sym (same_after now last t line))
          (subst (λ (fs : List (List ℕ)). FrontOf (flat (run_lines made_job fs)) first.written now.written) are (left t)),
      later_rose first now last cause.0 more,
    )

-- ---- the made plan

made_plan_read : MadePlanIsRead
made_plan_read = refl

-- its bytes are refused only where memory was wanting
pub only_memory : (stop : PlanStop) (bytes : List ℕ) → bytes ≡ plan_text → BytesRefused stop (Some 2) bytes → IsMemory stop
only_memory stop bytes is refused = go stop (subst (BytesRefused stop (Some 2)) is refused)
  where
    read : (plan : Outline) → plan_read plan_text ≡ Ok plan → made_plan ≡ plan
    read plan e = let same : Ok made_plan ≡ Ok plan = sym made_plan_read ∙ e in cc same

    go : (stop : PlanStop) → BytesRefused stop (Some 2) plan_text → IsMemory stop
    go (PlanFile stop) b = absurd b
    go (Refused fault) b = absurd (let e : Ok made_plan ≡ Err fault = sym made_plan_read ∙ b in cc e)
    go (OtherCount want got) b = let u = subst (RefusesPlan (FileCount want got) (Some 2)) (sym (read b.0 b.1)) b.2 in absurd (u.0 made_plan_fits.streams)
    go (Stuck found) b = let u = subst (λ (plan : Outline). RefusesPlan (Unsafe found.node found.risk) (Some 2) plan) (sym (read b.0 b.1)) b.2.0 in absurd (risk_is_unsafe made_plan.nodes found.node found.risk u.1 made_plan_fits.safe)
    go PlanMemory b = tt

-- ---- a run over a made input

pub made_runs : (seed count : ℕ) → count ≤ 1000000 → IsPlanned made_job → MadeRun seed count (made_lines seed count)
made_runs seed count few planned =
    let files = made_files seed count in
    let report = report_of made_job files (outputs_of made_job files) in
    record {
      outs = outs_of made_job files;
      report = report;
      handed_out = refl;
      written = refl;
      answer = outputs_answer made_job files planned refl report;
      punctuations = outputs_puncts made_job files planned refl report;
      lawful = outputs_lawful made_job files planned;
      tallies = refl;
      exact = made_total_is_exact seed count few (outputs_of made_job files) (outputs_answer made_job files planned refl report);
    }

-- ---- the call

pub ready_make : (call : Call) (found : Ready) (seed count : ℕ) → IsReadyFor call found → found ≡ Make seed count → IsMakeReady seed count call
ready_make call found seed count ready is = subst (IsReadyFor call) is ready

-- a status that no made input has
abbrev pub IsNoEnd : Status → Type 0
IsNoEnd Done = ⊥
IsNoEnd Usage = Unit {0}
IsNoEnd (PlanRefused line why) = Unit {0}
IsNoEnd (FileCount want got) = Unit {0}
IsNoEnd (Unsafe node risk) = Unit {0}
IsNoEnd (ScriptRefused line) = Unit {0}
IsNoEnd (OpenFault n) = Unit {0}
IsNoEnd (ReadFault n) = Unit {0}
IsNoEnd WriteFault = ⊥
IsNoEnd NoMemory = ⊥
IsNoEnd (Limit what) = Unit {0}

no_end : (status : Status) (lines : List (List ℕ)) (first after : SinkState) → LinesLeft status lines first after → IsNoEnd status → ⊥
no_end Done lines first after left never = never
no_end Usage lines first after left never = left
no_end (PlanRefused line why) lines first after left never = left
no_end (FileCount want got) lines first after left never = left
no_end (Unsafe node risk) lines first after left never = left
no_end (ScriptRefused line) lines first after left never = left
no_end (OpenFault n) lines first after left never = left
no_end (ReadFault n) lines first after left never = left
no_end WriteFault lines first after left never = never
no_end NoMemory lines first after left never = never
no_end (Limit what) lines first after left never = left

comes : (status : Status) (lines : List (List ℕ)) (first after : SinkState) → LinesLeft status lines first after → ComesAt status at_made
comes Done lines first after left = inr (inr refl)
comes Usage lines first after left = absurd left
comes (PlanRefused line why) lines first after left = absurd left
comes (FileCount want got) lines first after left = absurd left
comes (Unsafe node risk) lines first after left = absurd left
comes (ScriptRefused line) lines first after left = absurd left
comes (OpenFault n) lines first after left = absurd left
comes (ReadFault n) lines first after left = absurd left
comes WriteFault lines first after left = inr (inr refl)
comes NoMemory lines first after left = tt
comes (Limit what) lines first after left = absurd left

module _ (call : Call) (seed count : ℕ) (ready : IsMakeReady seed count call) (first after : SinkState) where
  make_never_runs : call.task ≡ running → ⊥
  make_never_runs runs = let e : making seed count ≡ running = sym ready.task ∙ runs in cc

  makes_something : is_nothing call.task ≡ false
  makes_something = ap is_nothing ready.task

  make_never : (status other : Status) → LinesLeft status (made_lines seed count) first after → status ≡ other → IsNoEnd other → ⊥
  make_never status other left is never = no_end other (made_lines seed count) first after (subst (λ (s : Status). LinesLeft s (made_lines seed count) first after) is left) never

  -- a made input is never refused
  make_never_refused : (status other : Status) → LinesLeft status (made_lines seed count) first after → status ≡ other → IsOfPlan other → ⊥
  make_never_refused status other left is of =
      of_plan (λ (o : Status). status ≡ o → ⊥) (λ line why same. make_never status (PlanRefused line why) left same tt) (λ want got same. make_never status (FileCount want got) left same tt)
      (λ node risk same. make_never status (Unsafe node risk) left same tt) (λ same. make_never status (Limit Plan) left same tt) other of is

  ended_made : (status : Status) (new : FolderState) → LinesLeft status (made_lines seed count) first after → OpensFirst 1 call.names call.folder new → StayOutside (take 1 call.names) call.folder new → Ends (ending_of call status new first after)
  ended_made status new left opened stay = (
    at_made,
    record {
      comes = comes status (made_lines seed count) first after left;
      opened_first = subst (λ (ns : List (List ℕ)). OpensFirst 0 ns call.folder new) (sym ready.named) (subst (λ (ns : List (List ℕ)). OpensFirst 1 ns call.folder new) ready.named opened);
      others_stay = subst (λ (ns : List (List ℕ)). StayOutside (take 0 ns) call.folder new) (sym ready.named) (subst (λ (ns : List (List ℕ)). StayOutside (take 1 ns) call.folder new) ready.named stay);
      built = λ past. absurd past;
      script = tt;
      left = (seed, count, ready.task, ready.named, left);
    },
  )

  reads_none : (new : FolderState) → AreReadToEnd call.names call.folder new
  reads_none new = subst (λ (ns : List (List ℕ)). AreReadToEnd ns call.folder new) (sym ready.named) tt

  make_fits : IsFit call.task call
  make_fits = subst (λ t. IsFit t call) (sym ready.task) tt

  -- no limit is asked for
  make_limit : KeepsLimit call.task call
  make_limit = subst (λ t. KeepsLimit t call) (sym ready.task) tt

  -- no script is played
  make_plays : IsPlayable call
  make_plays = subst (λ (script : Option (List ℕ)). CanPlay script call) (sym ready.bare) tt

  make_write_fits : (status : Status) → LinesLeft status (made_lines seed count) first after → status ≡ WriteFault → WriteFails call first after
  make_write_fits status left is = let w = subst (λ (s : Status). LinesLeft s (made_lines seed count) first after) is left in (w.0, make_fits)

  answers_make : (status : Status) → AnswersRefusal status call
  answers_make status told other refuses = elim refuses [
    | inl none ↦ absurd (false≢true (sym makes_something ∙ none.0))
    | inr plan ↦ absurd (false≢true (sym (ap takes_plan ready.task) ∙ plan.0))
  ]

  -- the call made what it was asked for
  is_made : (status : Status) → LinesLeft status (made_lines seed count) first after → MadeRun seed count (made_lines seed count) → (s n : ℕ) → call.task ≡ making s n → status ≡ Done → IsMade s n first after
  is_made status left runs s n task is =
      let same : making seed count ≡ making s n = sym ready.task ∙ task in
      let same_seed : seed ≡ s = cc same in
      let same_count : count ≡ n = cc same in
      subst (λ (x : ℕ). IsMade x n first after) same_seed
      (subst (λ (x : ℕ). IsMade seed x first after) same_count
      (λ t. (made_lines seed count, runs, subst (λ (d : Status). LinesLeft d (made_lines seed count) first after) is left t)))

  -- all promises of a make
  pub keeps_make : (status : Status) (new : FolderState) → LinesLeft status (made_lines seed count) first after → (status ≡ Done → MadeRun seed count (made_lines seed count)) → OpensFirst 1 call.names call.folder new
      → StayOutside (take 1 call.names) call.folder new → HandedOn first after → (status ≡ Done → after.held ≡ []) → KeepsAll (ending_of call status new first after)
  keeps_make status new left runs opened stay handed all_handed =
      let never : (other : Status) → status ≡ other → IsNoEnd other → ⊥ = λ other is no. make_never status other left is no in
      record {
        answer = λ runs. absurd (make_never_runs runs);
        punctuations = λ runs. absurd (make_never_runs runs);
        lawful = λ runs. absurd (make_never_runs runs);
        one_thread_bytes = λ runs. absurd (make_never_runs runs);
        tallies = λ runs. absurd (make_never_runs runs);
        made = λ s n task is. is_made status left (runs is) s n task is;
        read_to_end = λ _. reads_none new;
        ending = ended_made status new left opened stay;
        never_retracted = λ writes. absurd (subst WritesResults ready.task writes);
        whole_lines = λ runs. absurd (make_never_runs runs);
        handed_on = (handed, all_handed);
        cause_of_done = λ _. (make_fits, make_plays, make_limit);
        cause_of_usage = λ is. absurd (never Usage is tt);
        usage = λ none. absurd (false≢true (sym makes_something ∙ none));
        cause_of_plan_limit = λ is. absurd (never (Limit Plan) is tt);
        cause_of_plan_refused = λ line why is. absurd (never (PlanRefused line why) is tt);
        cause_of_file_count = λ want got is. absurd (never (FileCount want got) is tt);
        cause_of_unsafe = λ node risk is. absurd (never (Unsafe node risk) is tt);
        refused = answers_make status;
        cause_of_script_limit = λ is. absurd (never (Limit Script) is tt);
        cause_of_script_refused = λ line is. absurd (never (ScriptRefused line) is tt);
        script_refused = λ built. absurd (make_never_runs built.form);
        cause_of_open_fault = λ n is. absurd (never (OpenFault n) is tt);
        cause_of_read_fault = λ n is. absurd (never (ReadFault n) is tt);
        cause_of_write_fault = λ is. make_write_fits status left is;
        cause_of_limit = λ node is. absurd (never (Limit (Node node)) is tt);
        cause_of_file_limit = λ stream is. absurd (never (Limit (File stream)) is tt);
        completes = completes_by status call new first after (record {
          usage = λ is. absurd (never Usage is tt);
          refused = λ other is of. absurd (make_never_refused status other left is of);
          script_limit = λ is. absurd (never (Limit Script) is tt);
          line_refused = λ line is. absurd (never (ScriptRefused line) is tt);
          open_fault = λ n is. absurd (never (OpenFault n) is tt);
          read_fault = λ n is. absurd (never (ReadFault n) is tt);
          write_fault = λ is. make_write_fits status left is;
          limit = λ node is. absurd (never (Limit (Node node)) is tt);
          file_limit = λ stream is. absurd (never (Limit (File stream)) is tt);
        });
      }
