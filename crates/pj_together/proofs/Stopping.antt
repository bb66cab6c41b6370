-- What a run with workers leaves that stopped, and why.
use Rattle.std.proofs.Common.{◌≡◌, ◌≤◌, ◌+◌, ℕ, inl, inr, List, [], ◌++◌, Some, IsTrue, refl, ap, sym, ◌∙◌, subst, append_assoc, append-nil, arith}
use Rattle.std.specs.Prelude.{slice_index_or, ◌^◌}
use Rattle.pj_io.specs.Causes.{Rose}
use Rattle.pj_io.specs.States.{FolderState, SinkState}
use Rattle.pj_pattern.specs.declared.element.Element.{Element}
use Rattle.pj_events.specs.declared.events.Entry.{Entry}
use Rattle.pj_events.specs.declared.events.Stop.{Stop}
use Rattle.pj_events.specs.declared.events.Stop.TheVariants.{Limit as CoreLimit, NoMemory as CoreMemory}
use Rattle.pj_feed.specs.Named.{files_named, AreTold, IsAlone}
use Rattle.pj_feed.specs.declared.stops.OpeningStop.TheVariants.{Fault, NoMemory as OpeningMemory}
use Rattle.pj_files.specs.Staying.{StaysRight}
use Rattle.pj_files.proofs.StatusNotes.{limit_note, no_memory_note, open_fault_note, read_fault_note}
use Rattle.pj_report.specs.declared.status.Status.TheVariants.{OpenFault, ReadFault, NoMemory, Limit}
use Rattle.pj_report.specs.declared.status.LimitOf.{LimitOf}
use Rattle.pj_report.specs.declared.status.LimitOf.TheVariants.{Node, File}
use Rattle.pj_report.specs.Report.{status_line}
use Rattle.pj_report.specs.Forms.{shown}
use Rattle.pj_report.specs.Written.{flat, Delivered, FrontOf, WholeLines}
use Rattle.pj_report.proofs.Fronts.{IsNoteLine}
use Rattle.pj_run.specs.Ends.{lines_until, ArrivedOf}
use Rattle.pj_run.specs.Jobs.{Job}
use Rattle.pj_run.specs.Runs.{outs_by}
use Rattle.pj_run.specs.Stops.{core_status, files_status, run_line, run_status, stop_line}
use Rattle.pj_run.specs.declared.stops.FilesStop.{FilesStop}
use Rattle.pj_run.specs.declared.stops.FilesStop.TheVariants.{Opening, Run}
use Rattle.pj_run.specs.declared.stops.RunStop.{RunStop}
use Rattle.pj_run.specs.declared.stops.RunStop.TheVariants.{ReadFault as RunFault, TooLarge, Limit as RunLimit, Refused as RunRefused, WriteFailed, NoMemory as RunMemory, Cut as RunCut, CutRead, CutLarge, CutRefused}
use Rattle.pj_crew_runs.specs.Limits.{ComesBeyond}
use Rattle.pj_crew_runs.specs.Runs.{IsFrontHistory}
use Rattle.pj_parallel.specs.Parallel.{CutTells, LimitTells}
use Rattle.pj_parallel_files.specs.Causes.{WorkersCause}
use Rattle.pj_parallel_files.specs.Histories.{AllOf, ArrivedUntil, ComesTo, FilesLeave, LeavesFront, PartOf}
use Rattle.pj_prepare.specs.Calls.{Call, file_names, first_file, job_of, operand, stream_files, IsTold}
use Rattle.pj_alone.specs.Endings.{ending_of, limit_name, stop_name}
use Rattle.pj_alone.proofs.CallLaws.{CauseBy}
use Rattle.pj_alone.proofs.RunLaws.{earlier_rose, later_rose, same_after}
use Rattle.pj_alone.proofs.StaysLaws.{IsReady, SpellsRight, early_note, limit_name_no_feed, part_right, whole_right}
use Rattle.pj_together.specs.Runs.{FaultLeft, RunLeft, StayOf, StopLeft, Stopped}
use Rattle.pj_together.proofs.Lines.{FrontLines, front_due}

-- ---- why it stopped

-- more elements come to the node than may, where the files are told
abbrev pub comes_more : Job → List (List ℕ) → FolderState → ℕ → Type 0
comes_more job names folder node = AreTold names folder → ComesBeyond job (files_named names folder) node

pub by_workers : (stop : FilesStop) (job : Job) (names : List (List ℕ)) (before after : FolderState) (old new : SinkState) → WorkersCause stop job names before after old new → CauseBy (comes_more job names before) stop names before after old new
by_workers (Opening (Fault stream)) job names before after old new cause = cause
by_workers (Opening OpeningMemory) job names before after old new cause = tt
by_workers (Run (RunFault stream)) job names before after old new cause = cause
by_workers (Run (TooLarge stream)) job names before after old new cause = cause
by_workers (Run (RunLimit node)) job names before after old new cause = cause
by_workers (Run (RunRefused line)) job names before after old new cause = absurd cause
by_workers (Run WriteFailed) job names before after old new cause = cause
by_workers (Run RunMemory) job names before after old new cause = tt
by_workers (Run (RunCut (CoreLimit node))) job names before after old new cause = cause
by_workers (Run (RunCut CoreMemory)) job names before after old new cause = (cause.0, tt)
by_workers (Run (CutRead stream)) job names before after old new cause = cause
by_workers (Run (CutLarge stream)) job names before after old new cause = cause
by_workers (Run (CutRefused line)) job names before after old new cause = absurd cause

-- ---- what it left

-- all these bytes were written, and then the line was delivered
all_then : (bytes line : List ℕ) (first now after : SinkState) → now.written ≡ first.written ++ bytes → first.faults ≤ now.faults → Delivered line now after → Delivered (bytes ++ line) first after
all_then bytes line first now after e le delivered told = elim (delivered told) [
  | inl is ↦ inl (is ∙ (ap (λ (xs : List ℕ). xs ++ line) e ∙ append_assoc first.written bytes line))
  | inr cut ↦
      let rose = cut.0 in
      inr (
        omega (arith, rose, le),
        record {
          front = bytes ++ cut.1.front;
          others = cut.1.others;
          all = append_assoc bytes cut.1.front cut.1.others ∙ ap (λ (xs : List ℕ). bytes ++ xs) cut.1.all;
          written = cut.1.written ∙ (ap (λ (xs : List ℕ). xs ++ cut.1.front) e ∙ append_assoc first.written bytes cut.1.front);
        },
      )
]

-- a front of these bytes was written, and the output had failed
part_then : (bytes line : List ℕ) (first now after : SinkState) → FrontOf bytes first.written now.written → Rose first.faults after.faults → Delivered [] now after → Delivered (bytes ++ line) first after
part_then bytes line first now after f rose delivered told = inr (
  rose,
  record {
    front = f.front;
    others = f.others ++ line;
    all = sym (append_assoc f.front f.others line) ∙ ap (λ (xs : List ℕ). xs ++ line) f.all;
    written = same_after now after told delivered ∙ f.written;
  },
)

module _ (job : Job) (call : Call) (names : List (List ℕ)) (mid new : FolderState) (are : files_named names mid ≡ stream_files call) where
  abbrev F : ℕ
  F = first_file call

  abbrev fs : List (List ℕ)
  fs = files_named names mid

  all_stopped : (Holds : List Entry → Type 0) (Said : List Entry → Type 0) (line : List ℕ) (first now after : SinkState) → ((history : List Entry) → Holds history → Said history)
      → first.faults ≤ now.faults → LeavesFront job fs Holds (AllOf first.written now.written) → Delivered line now after → Stopped job call Said line first after
  all_stopped Holds Said line first now after said le l delivered = record {
    history = l.history;
    front = subst (λ (files : List (List ℕ)). IsFrontHistory job files l.history) are l.front;
    holds = said l.history l.holds;
    left = all_then (lines_until job l.history) line first now after l.left le delivered;
  }

  part_stopped : (Holds : List Entry → Type 0) (Said : List Entry → Type 0) (line : List ℕ) (first now after : SinkState) → ((history : List Entry) → Holds history → Said history)
      → Rose first.faults after.faults → LeavesFront job fs Holds (PartOf first.written now.written) → Delivered [] now after → Stopped job call Said line first after
  part_stopped Holds Said line first now after said rose l delivered = record {
    history = l.history;
    front = subst (λ (files : List (List ℕ)). IsFrontHistory job files l.history) are l.front;
    holds = said l.history l.holds;
    left = part_then (lines_until job l.history) line first now after l.left rose delivered;
  }

  comes_here : (lines : List (List ℕ)) → ComesTo job fs lines → ComesTo job (stream_files call) lines
  comes_here lines c = subst (λ (files : List (List ℕ)). ComesTo job files lines) are c

  module _ (at_operand : (stream : ℕ) → operand call.names (F + stream) ≡ slice_index_or names stream []) (named : names ≡ file_names call) where
    arrived_here : (stream : ℕ) (history : List Entry) → ArrivedUntil job names mid new stream history
        → IsAlone stream (file_names call) → ArrivedOf job (stream_files call) stream (new.last (operand call.names (F + stream))) history
    arrived_here stream history until alone =
        subst (λ (files : List (List ℕ)). ArrivedOf job files stream (new.last (operand call.names (F + stream))) history) are
        (subst (λ (n : List ℕ). ArrivedOf job fs stream (new.last n) history) (sym (at_operand stream)) (until (subst (IsAlone stream) (sym named) alone)))

    large_here : (stream : ℕ) (history : List Entry) → ArrivedOf job fs stream (2 ^ 40) history → ArrivedOf job (stream_files call) stream (2 ^ 40) history
    large_here stream history a = subst (λ (files : List (List ℕ)). ArrivedOf job files stream (2 ^ 40) history) are a

    module _ (first now after : SinkState) (told : IsTrue after.told) (le : first.faults ≤ now.faults) (more : now.faults ≤ after.faults) where
      -- the core stopped, and then the output failed
      cut_left : (stop : Stop) → Rose first.faults now.faults → FilesLeave (Run (RunCut stop)) job names mid new first.written now.written → Delivered [] now after → StopLeft (core_status stop) job call new first after
      cut_left (CoreLimit node) rose leaves line =
          part_stopped (λ history. LimitTells job history node) (λ history. LimitTells job history node) (status_line (limit_name job.nodes (Node node)) (Limit (Node node))) first now after (λ history h. h) (later_rose first now after rose more) leaves line
      cut_left CoreMemory rose leaves line = (
        shown job.form job.nodes (outs_by job leaves.history),
        comes_here (shown job.form job.nodes (outs_by job leaves.history)) (inl (leaves.history, leaves.front, refl)),
        inr (subst (FrontOf (flat (shown job.form job.nodes (outs_by job leaves.history))) first.written) (sym (same_after now after told line)) leaves.left, later_rose first now after rose more),
      )

      fault_left : (stream : ℕ) → Stopped job call (λ history. IsAlone stream (file_names call) → ArrivedOf job (stream_files call) stream (new.last (operand call.names (F + stream))) history) (status_line [] (ReadFault (F + stream))) first after
          → FaultLeft (F + stream) job call new first after
      fault_left stream stopped = record { stream = stream; is = refl; stopped = stopped }

      left_run : (stop : RunStop) (name : List ℕ) → name ≡ stop_name job.nodes (run_status F stop) → WorkersCause (Run stop) job names mid new first now
          → FilesLeave (Run stop) job names mid new first.written now.written → Delivered (run_line F stop name) now after → StopLeft (run_status F stop) job call new first after
      left_run (RunFault stream) name is_name cause leaves line =
          fault_left stream (all_stopped (ArrivedUntil job names mid new stream) _ (status_line [] (ReadFault (F + stream))) first now after (arrived_here stream) le leaves
          (subst (λ (x : List ℕ). Delivered (status_line x (ReadFault (F + stream))) now after) is_name line))
      left_run (TooLarge stream) name is_name cause leaves line =
          all_stopped (ArrivedOf job fs stream (2 ^ 40)) (ArrivedOf job (stream_files call) stream (2 ^ 40)) (status_line (limit_name job.nodes (File stream)) (Limit (File stream))) first now after (large_here stream) le leaves
          (subst (λ (x : List ℕ). Delivered (status_line x (Limit (File stream))) now after) is_name line)
      left_run (RunLimit node) name is_name cause leaves line =
          all_stopped (λ history. LimitTells job history node) (λ history. LimitTells job history node) (status_line (limit_name job.nodes (Node node)) (Limit (Node node))) first now after (λ history h. h) le leaves
          (subst (λ (x : List ℕ). Delivered (status_line x (Limit (Node node))) now after) is_name line)
      left_run (RunRefused at) name is_name cause leaves line = absurd cause
      left_run WriteFailed name is_name cause leaves line = (
        leaves.0,
        comes_here leaves.0 leaves.1,
        subst (FrontOf (flat leaves.0) first.written) (sym (same_after now after told line)) leaves.2,
      )
      left_run RunMemory name is_name cause leaves line = (
        leaves.0,
        comes_here leaves.0 leaves.1,
        inl (now.written, leaves.2, earlier_rose (status_line [] NoMemory) first now after le line),
      )
      left_run (RunCut stop) name is_name cause leaves line = cut_left stop cause.0 leaves line
      left_run (CutRead stream) name is_name cause leaves line =
          fault_left stream (part_stopped (ArrivedUntil job names mid new stream) _ (status_line [] (ReadFault (F + stream))) first now after (arrived_here stream) (later_rose first now after cause.0 more) leaves line)
      left_run (CutLarge stream) name is_name cause leaves line =
          part_stopped (ArrivedOf job fs stream (2 ^ 40)) (ArrivedOf job (stream_files call) stream (2 ^ 40)) (status_line (limit_name job.nodes (File stream)) (Limit (File stream))) first now after (large_here stream) (later_rose first now after cause.0 more) leaves line
      left_run (CutRefused at) name is_name cause leaves line = absurd cause

-- the same of a stop of a run over files
pub leaves_run : (stop : FilesStop) (job : Job) (call : Call) (names : List (List ℕ)) (mid new : FolderState) (name : List ℕ) (first now after : SinkState) → files_named names mid ≡ stream_files call
    → ((stream : ℕ) → operand call.names (first_file call + stream) ≡ slice_index_or names stream []) → names ≡ file_names call → (IsTold call → job_of call ≡ Some job) → name ≡ stop_name job.nodes (files_status (first_file call) stop)
    → WorkersCause stop job names mid new first now → (IsTold call → IsTrue after.told → FilesLeave stop job names mid new first.written now.written)
    → first.faults ≤ now.faults → now.faults ≤ after.faults → Delivered (stop_line (first_file call) stop name) now after
    → (r : RunStop) → stop ≡ Run r → RunLeft (ending_of call (run_status (first_file call) r) new first after)
leaves_run (Opening opening) job call names mid new name first now after are at named read is_name cause leaves le more line r is = absurd (cc)
leaves_run (Run stop) job call names mid new name first now after are at named read is_name cause leaves le more line r is = λ all t.
    let same : stop ≡ r = cc is in
    subst (λ (s : RunStop). (job : Job) × (job_of call ≡ Some job) × StopLeft (run_status (first_file call) s) job call new first after) same
    (job, read all, left_run job call names mid new are at named first now after t le more stop name is_name cause (leaves all t) line)

-- ---- what was written stays right

module _ (job : Job) (call : Call) (files : List (List ℕ)) (are : files ≡ stream_files call) (ready : IsReady job call) where
  -- first outputs of a front history of the files stay right
  stay_so : (history : List Entry) → IsFrontHistory job files history → (first : List Element) → StaysRight job history first → StayOf call first
  stay_so history front first stay = (job, ready.read, history, subst (λ (fs : List (List ℕ)). IsFrontHistory job fs history) are front, stay)

  -- whole first lines of those that a run came to, and then a front of a note
  noted_right : (lines : List (List ℕ)) (line before : List ℕ) (mid new : SinkState) → IsTrue new.told → ComesTo job files lines → IsNoteLine line → WholeLines lines before mid.written → Delivered line mid new
      → SpellsRight (StayOf call) before new.written
  noted_right lines line before mid new told comes note w delivered =
      let f : FrontLines job files lines = front_due job files lines ready.names comes in
      whole_right (StayOf call) job f.history lines line before mid new told ready.planned f.front.legal (stay_so f.history f.front) f.due note w delivered

  -- a front of their bytes
  cut_right : (lines : List (List ℕ)) (before : List ℕ) (mid new : SinkState) → IsTrue new.told → ComesTo job files lines → FrontOf (flat lines) before mid.written → Delivered [] mid new → SpellsRight (StayOf call) before new.written
  cut_right lines before mid new told comes left delivered =
      let f : FrontLines job files lines = front_due job files lines ready.names comes in
      part_right (StayOf call) job f.history lines before mid new told ready.planned f.front.legal (stay_so f.history f.front) f.due left delivered

  all_right : (Holds : List Entry → Type 0) (line before : List ℕ) (mid new : SinkState) → IsTrue new.told → IsNoteLine line → LeavesFront job files Holds (AllOf before mid.written) → Delivered line mid new → SpellsRight (StayOf call) before new.written
  all_right Holds line before mid new told note l delivered =
      let lines = shown job.form job.nodes (outs_by job l.history) in
      noted_right lines line before mid new told (inl (l.history, l.front, refl)) note (record { first = lines; others = []; all = append-nil lines; written = l.left }) delivered

  some_right : (Holds : List Entry → Type 0) (before : List ℕ) (mid new : SinkState) → IsTrue new.told → LeavesFront job files Holds (PartOf before mid.written) → Delivered [] mid new → SpellsRight (StayOf call) before new.written
  some_right Holds before mid new told l delivered = cut_right (shown job.form job.nodes (outs_by job l.history)) before mid new told (inl (l.history, l.front, refl)) l.left delivered

  -- nothing was written but a note
  note_right : (line before : List ℕ) (mid new : SinkState) → IsTrue new.told → IsNoteLine line → mid.written ≡ before → Delivered line mid new → SpellsRight (StayOf call) before new.written
  note_right line before mid new told note same delivered = subst (λ (bytes : List ℕ). SpellsRight (StayOf call) bytes new.written) same (early_note (StayOf call) line mid new told note delivered)

-- the run stopped, and then the line of its status was written
pub stopped_right : (operand : ℕ) (stop : FilesStop) (job : Job) (call : Call) (names : List (List ℕ)) (mid new : FolderState) (name : List ℕ) (first now after : SinkState) → files_named names mid ≡ stream_files call → IsReady job call → IsTrue after.told
    → name ≡ stop_name job.nodes (files_status operand stop) → FilesLeave stop job names mid new first.written now.written → Delivered (stop_line operand stop name) now after → SpellsRight (StayOf call) first.written after.written
stopped_right operand (Opening (Fault stream)) job call names mid new name first now after are ready told named leaves line =
    note_right job call (files_named names mid) are ready (status_line [] (OpenFault (operand + stream))) first.written now after told (open_fault_note (operand + stream)) leaves.0
    (subst (λ (x : List ℕ). Delivered (status_line x (OpenFault (operand + stream))) now after) named line)
stopped_right operand (Opening OpeningMemory) job call names mid new name first now after are ready told named leaves line =
    note_right job call (files_named names mid) are ready (status_line name NoMemory) first.written now after told (no_memory_note name) leaves line
stopped_right operand (Run (RunFault stream)) job call names mid new name first now after are ready told named leaves line =
    all_right job call (files_named names mid) are ready (ArrivedUntil job names mid new stream) (status_line [] (ReadFault (operand + stream))) first.written now after told (read_fault_note (operand + stream)) leaves
    (subst (λ (x : List ℕ). Delivered (status_line x (ReadFault (operand + stream))) now after) named line)
stopped_right operand (Run (TooLarge stream)) job call names mid new name first now after are ready told named leaves line =
    let what : LimitOf = File stream in
    all_right job call (files_named names mid) are ready (ArrivedOf job (files_named names mid) stream (2 ^ 40)) (status_line (limit_name job.nodes what) (Limit what)) first.written now after told
    (limit_note what (limit_name job.nodes what) (limit_name_no_feed job.nodes what ready.names)) leaves (subst (λ (x : List ℕ). Delivered (status_line x (Limit what)) now after) named line)
stopped_right operand (Run (RunLimit node)) job call names mid new name first now after are ready told named leaves line =
    let what : LimitOf = Node node in
    all_right job call (files_named names mid) are ready (λ history. LimitTells job history node) (status_line (limit_name job.nodes what) (Limit what)) first.written now after told
    (limit_note what (limit_name job.nodes what) (limit_name_no_feed job.nodes what ready.names)) leaves (subst (λ (x : List ℕ). Delivered (status_line x (Limit what)) now after) named line)
stopped_right operand (Run (RunRefused at)) job call names mid new name first now after are ready told named leaves line = absurd leaves
stopped_right operand (Run WriteFailed) job call names mid new name first now after are ready told named leaves line = cut_right job call (files_named names mid) are ready leaves.0 first.written now after told leaves.1 leaves.2 line
stopped_right operand (Run RunMemory) job call names mid new name first now after are ready told named leaves line =
    noted_right job call (files_named names mid) are ready leaves.0 (status_line name NoMemory) first.written now after told leaves.1 (no_memory_note name) leaves.2 line
stopped_right operand (Run (RunCut stop)) job call names mid new name first now after are ready told named leaves line = some_right job call (files_named names mid) are ready (CutTells stop job) first.written now after told leaves line
stopped_right operand (Run (CutRead stream)) job call names mid new name first now after are ready told named leaves line = some_right job call (files_named names mid) are ready (ArrivedUntil job names mid new stream) first.written now after told leaves line
stopped_right operand (Run (CutLarge stream)) job call names mid new name first now after are ready told named leaves line =
    some_right job call (files_named names mid) are ready (ArrivedOf job (files_named names mid) stream (2 ^ 40)) first.written now after told leaves line
stopped_right operand (Run (CutRefused at)) job call names mid new name first now after are ready told named leaves line = absurd leaves
