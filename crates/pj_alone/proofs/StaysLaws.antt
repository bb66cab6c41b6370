-- What was written spells outputs that stay right.
use Rattle.pj_run.specs.Jobs.{Job}
use Rattle.pj_plan.specs.declared.node.PlanNode.{PlanNode}
use Rattle.pj_plan.specs.Nodes.{streams_in}
use Rattle.std.proofs.Common.{◌≡◌, ◌≤◌, ◌+◌, ◌==◌, ℕ, true, false, ◌⊎◌, inl, inr, List, [], ◌∷◌, ◌++◌, length, map, Some, IsTrue, refl, ap, sym, ◌∙◌, subst, append_assoc, append-nil, arith, Option, None}
use Rattle.std.specs.Prelude.{codes}
use Rattle.std.specs.List.{list_any}
use Rattle.std.proofs.lemmas.Bool.{false≢true, or_parts}
use Rattle.std.proofs.lemmas.Bool.Decides.{eqb_tells}
use Rattle.pj_value.specs.Lists.{In}
use Rattle.pj_io.specs.States.{SinkState}
use Rattle.pj_pattern.specs.declared.element.Element.{Element}
use Rattle.pj_pattern.specs.Elements.{IsLawful}
use Rattle.pj_line.specs.Lines.{HasNo}
use Rattle.pj_element.specs.Runs.{element_line}
use Rattle.pj_line.proofs.Feeds.{has_no_both}
use Rattle.pj_plan.specs.Canonical.{node_name}
use Rattle.pj_judge.specs.Judgments.{IsNote}
use Rattle.pj_report.specs.declared.status.Status.{Status}
use Rattle.pj_report.specs.declared.status.LimitOf.{LimitOf}
use Rattle.pj_report.specs.declared.status.LimitOf.TheVariants.{Plan, Script, Node, File}
use Rattle.pj_report.specs.declared.status.Status.TheVariants.{Done, Usage, OpenFault, ReadFault, PlanRefused, FileCount, Unsafe, ScriptRefused, WriteFault, NoMemory, Limit}
use Rattle.pj_run.specs.declared.stops.FilesStop.{FilesStop}
use Rattle.pj_run.specs.declared.stops.FilesStop.TheVariants.{Opening, Run}
use Rattle.pj_feed.specs.declared.stops.OpeningStop.TheVariants.{Fault, NoMemory as OpeningMemory}
use Rattle.pj_prepare.specs.declared.stops.PlanStop.{PlanStop}
use Rattle.pj_prepare.specs.declared.stops.PlanStop.TheVariants.{File as PlanFile, Refused, FileCount as OtherCount, Unsafe as Stuck, NoMemory as PlanMemory}
use Rattle.pj_prepare.specs.declared.stops.FileStop.TheVariants.{OpenFault as NotOpened, ReadFault as NotRead, TooLong, NoMemory as FileMemory}
use Rattle.pj_run.specs.declared.stops.RunStop.TheVariants.{ReadFault as RunFault, TooLarge, Limit as RunLimit, Refused as RunRefused, WriteFailed, NoMemory as RunMemory, Cut as RunCut, CutRead, CutLarge, CutRefused}
use Rattle.pj_prepare.specs.Calls.{Call, job_of, stream_files}
use Rattle.pj_run.specs.PlanNames.{HasShortNames, are_short}
use Rattle.pj_report.specs.Report.{status_line}
use Rattle.pj_report.specs.declared.writer.Form.{Form}
use Rattle.pj_report.specs.declared.writer.Form.TheVariants.{AsTheyCome, Sorted, Summed}
use Rattle.pj_report.specs.Forms.{form_lines, in_form, shown}
use Rattle.pj_report.specs.Results.{out_lines}
use Rattle.pj_events.specs.declared.events.Out.{Out}
use Rattle.pj_events.specs.declared.events.Out.TheVariants.{Tuple as RowOut, Punct as PunctOut, Purged}
use Rattle.pj_events.specs.Outcomes.{elements_out}
use Rattle.pj_pattern.specs.declared.element.Element.TheVariants.{Tuple, Punct}
use Rattle.pj_run.specs.Runs.{due_lines, due_where, history_of, outs_by, outs_of, outputs_of, refused_line, report_of, run_lines, run_nodes}
use Rattle.pj_prepare.specs.Refusals.{HasLines}
use Rattle.pj_prepare.specs.declared.stops.StepsStop.{StepsStop}
use Rattle.pj_prepare.specs.declared.stops.StepsStop.TheVariants.{File as ScriptFile, Refused as LineRefused, NoMemory as StepsMemory}
use Rattle.pj_prepare.specs.Stops.{refusal_text, steps_status}
use Rattle.pj_run.specs.Stops.{files_status, stop_line}
use Rattle.pj_alone.specs.Endings.{limit_name, stop_name}
use Rattle.pj_files.specs.Staying.{StaysRight}
use Rattle.pj_run.specs.Cuts.{files_cut}
use Rattle.pj_report.specs.Written.{flat, FrontOf, WholeLines, Delivered, Leaves, Spells}
use Rattle.pj_files.proofs.Staying.{stays}
use Rattle.pj_report.proofs.Forms.{formed_lawful, sorted_elements}
use Rattle.pj_report.proofs.Fronts.{IsNoteLine, AreNotes, AreLinesOf, elements_are, notes_are, lines-append, FrontSpells, front_spells, FirstLines, first_lines}
use Rattle.pj_report.proofs.LinesWritten.{flat-append}
use Rattle.pj_run.proofs.OutputLaws.{legal_run}
use Rattle.pj_laws.proofs.HistoryAnswers.{hands_out-lawfully}
use Rattle.pj_events.specs.declared.events.Entry.{Entry}
use Rattle.pj_events.specs.History.{IsLegal}
use Rattle.pj_run.proofs.Planned.{IsPlanned}
use Rattle.pj_run.proofs.Notes.{name_no_feed, name_plain, no_feeds, purge_note, report_notes, streams_plain}
use Rattle.pj_files.proofs.StatusNotes.{file_count_note, limit_note, no_memory_note, open_fault_note, plan_refused_note, read_fault_note, script_refused_note, usage_note}
use Rattle.pj_alone.proofs.RunLaws.{name_short, same_after}
use Rattle.pj_pattern.proofs.Lawful.{lawful_front}

-- the plan's bytes spell this plan, whose names are plain
pub record IsReady (job : Job) (call : Call) : Type 0 where
  pub read : job_of call ≡ Some job
  pub planned : IsPlanned job
  pub names : HasShortNames job.nodes

-- what was written behind these bytes spells lawful outputs, and there are none or this is so of them
abbrev pub SpellsRight : (List Element → Type 0) → List ℕ → List ℕ → Type 0
SpellsRight Right before after =
    (bytes : List ℕ) × (after ≡ before ++ bytes) × (outputs : List Element) × Spells bytes outputs × IsLawful outputs × ((outputs ≡ []) ⊎ Right outputs)

-- they stay right
abbrev pub StayInCall : Call → List Element → Type 0
StayInCall call outputs = (job : Job) × (job_of call ≡ Some job) × StaysRight job (history_of job (stream_files call)) outputs

abbrev pub NoneRetracted : Call → List ℕ → List ℕ → Type 0
NoneRetracted call before after = SpellsRight (StayInCall call) before after

or_right : (Right : List Element → Type 0) (job : Job) (history : List Entry) (first : List Element) → (StaysRight job history first → Right first) → (first ≡ []) ⊎ StaysRight job history first → (first ≡ []) ⊎ Right first
or_right Right job history first stays_so (inl none) = inl none
or_right Right job history first stays_so (inr stay) = inr (stays_so stay)

-- the lines of what is handed out
out_lines_are : (nodes : List PlanNode) (outs : List Out) → HasShortNames nodes → AreLinesOf (out_lines nodes outs) (elements_out outs)
out_lines_are nodes [] plain = tt
out_lines_are nodes (RowOut row ∷ outs) plain = inr (Tuple row, elements_out outs, refl, refl, out_lines_are nodes outs plain)
out_lines_are nodes (PunctOut punct ∷ outs) plain = inr (Punct punct, elements_out outs, refl, refl, out_lines_are nodes outs plain)
out_lines_are nodes (Purged join input row ∷ outs) plain = inl (purge_note nodes join input row plain, out_lines_are nodes outs plain)

-- in each form they are the lines of elements in its order
pub form_lines_are : (form : Form) (nodes : List PlanNode) (outs : List Out) → HasShortNames nodes → AreLinesOf (form_lines form nodes outs) (in_form form (elements_out outs))
form_lines_are AsTheyCome nodes outs plain = out_lines_are nodes outs plain
form_lines_are Sorted nodes outs plain =
    subst (λ (ls : List (List ℕ)). AreLinesOf ls (in_form Sorted (elements_out outs))) (sorted_elements (elements_out outs)) (elements_are (in_form Sorted (elements_out outs)))
form_lines_are Summed nodes outs plain = tt

-- the outputs in the order in which the run writes them
abbrev written_outputs : Job → List (List ℕ) → List Element
written_outputs job files = in_form job.form (outputs_of job files)

-- all lines of a run are those of its outputs, with notes among them
run_lines_are : (job : Job) (files : List (List ℕ)) → HasShortNames job.nodes → AreLinesOf (run_lines job files) (written_outputs job files)
run_lines_are job files plain =
    subst (AreLinesOf (run_lines job files)) (append-nil (written_outputs job files))
    (lines-append (form_lines job.form job.nodes (outs_of job files)) (report_of job files (outputs_of job files)) (written_outputs job files) [] (form_lines_are job.form job.nodes (outs_of job files) plain)
    (notes_are (report_of job files (outputs_of job files)) (report_notes job files (outputs_of job files) plain)))

-- first outputs of a history, in the order in which a run writes them, whose lines are these, with notes among them
pub record DueLines (job : Job) (history : List Entry) (lines : List (List ℕ)) : Type 0 where
  pub outputs : List Element
  pub more : List Element
  pub all : outputs ++ more ≡ in_form job.form (elements_out (outs_by job history))
  pub are : AreLinesOf lines outputs

pub shown_are : (form : Form) (nodes : List PlanNode) (outs : List Out) → HasShortNames nodes → (first : List Element) × (more : List Element) × (first ++ more ≡ in_form form (elements_out outs)) × AreLinesOf (shown form nodes outs) first
shown_are AsTheyCome nodes outs plain = (elements_out outs, [], append-nil (elements_out outs), out_lines_are nodes outs plain)
shown_are Sorted nodes outs plain = ([], in_form Sorted (elements_out outs), refl, tt)
shown_are Summed nodes outs plain = ([], in_form Summed (elements_out outs), refl, tt)

due_are : (job : Job) (files : List (List ℕ)) → HasShortNames job.nodes → (refused : Option ℕ) → DueLines job (history_of job files) (due_where refused job files)
due_are job files plain None = record { outputs = written_outputs job files; more = []; all = append-nil (written_outputs job files); are = run_lines_are job files plain }
due_are job files plain (Some line) =
    let s = shown_are job.form job.nodes (outs_of job files) plain in
    record { outputs = s.0; more = s.1; all = s.2; are = s.3 }

-- a front of the lines of first outputs of a legal history, with notes among them
pub front_right : (Right : List Element → Type 0) (job : Job) (history : List Entry) (outputs more : List Element) (lines : List (List ℕ)) (front others before after : List ℕ) → IsPlanned job → IsLegal (run_nodes job) history
    → ((first : List Element) → StaysRight job history first → Right first) → outputs ++ more ≡ in_form job.form (elements_out (outs_by job history)) → AreLinesOf lines outputs → front ++ others ≡ flat lines → after ≡ before ++ front
    → SpellsRight Right before after
front_right Right job history outputs more lines front others before after planned legal stays_so all are is written =
    let f : FrontSpells outputs front = front_spells lines outputs front others are is in
    let given : List Element = elements_out (outs_by job history) in
    let whole : f.first ++ (f.others ++ more) ≡ in_form job.form given = sym (append_assoc f.first f.others more) ∙ (ap (λ (xs : List Element). xs ++ more) f.all ∙ all) in (
      front,
      written,
      f.first,
      f.spells,
      lawful_front f.first (f.others ++ more)
          (subst IsLawful (sym whole) (formed_lawful job.form given (hands_out-lawfully (run_nodes job) planned.well_made planned.some job.trace history legal))),
      or_right Right job history f.first (stays_so f.first) (stays job history f.first (f.others ++ more) planned legal whole),
    )

-- the same of a call's own history
front_never : (job : Job) (call : Call) (outputs more : List Element) (lines : List (List ℕ)) (front others before after : List ℕ) → IsReady job call
    → outputs ++ more ≡ written_outputs job (stream_files call) → AreLinesOf lines outputs → front ++ others ≡ flat lines → after ≡ before ++ front → NoneRetracted call before after
front_never job call outputs more lines front others before after ready all are is written =
    let files : List (List ℕ) = stream_files call in
    front_right (StayInCall call) job (history_of job files) outputs more lines front others before after ready.planned (legal_run job files ready.planned) (λ first stay. (job, ready.read, stay)) all are is written

none_of : (first others : List Element) → first ++ others ≡ [] → first ≡ []
none_of [] others e = refl
none_of (o ∷ first) others e = absurd (cc)

-- nothing, and a front of notes
notes_never : (Right : List Element → Type 0) (lines : List (List ℕ)) (front others before after : List ℕ) → AreNotes lines → front ++ others ≡ flat lines → after ≡ before ++ front → SpellsRight Right before after
notes_never Right lines front others before after notes is written =
    let f : FrontSpells [] front = front_spells lines [] front others (notes_are lines notes) is in
    (front, written, [], f.spells ∙ ap (map element_line) (none_of f.first f.others f.all), tt, inl refl)

-- ---- the lines of the statuses

name_at_no_feed : (nodes : List PlanNode) (n : ℕ) → are_short nodes ≡ true → HasNo 10 (node_name nodes n)
name_at_no_feed nodes n plain = name_no_feed (node_name nodes n) (name_plain nodes n plain)

pub limit_name_no_feed : (nodes : List PlanNode) (what : LimitOf) → HasShortNames nodes → HasNo 10 (limit_name nodes what)
limit_name_no_feed nodes Plan plain = tt
limit_name_no_feed nodes Script plain = tt
limit_name_no_feed nodes (Node node) plain = name_at_no_feed nodes node plain
limit_name_no_feed nodes (File stream) plain = name_at_no_feed (streams_in nodes) stream (streams_plain nodes plain)

-- the lines of an unsafe plan
feeds_none : (xs : List ℕ) → list_any (λ b. b == 10) xs ≡ false → HasNo 10 xs
feeds_none [] e = tt
feeds_none (x ∷ xs) e =
    let p = or_parts (x == 10) (list_any (λ b. b == 10) xs) e in
    (elim (eqb_tells x 10) [ inl same ↦ absurd (false≢true (sym p.0 ∙ same.0)) | inr other ↦ other.1 ], feeds_none xs p.1)

note_line : (line : List ℕ) → IsNote line → IsNoteLine line
note_line line n = record {
  words = codes "#" ++ n.text;
  is = n.form;
  note = refl;
  whole = has_no_both 10 (codes "#") n.text (no_feeds (codes "#") refl) (feeds_none n.text n.no_feed);
}

note_lines : (lines : List (List ℕ)) → ((line : List ℕ) → In line lines → IsNote line) → AreNotes lines
note_lines [] each = tt
note_lines (line ∷ lines) each = (note_line line (each line (inl refl)), note_lines lines (λ l there. each l (inr there)))

-- the name of a status' line is short
name_at_short : (nodes : List PlanNode) (n : ℕ) → are_short nodes ≡ true → length (node_name nodes n) ≤ 32
name_at_short nodes n plain = name_short (node_name nodes n) (name_plain nodes n plain)

pub stop_name_short : (nodes : List PlanNode) (status : Status) → HasShortNames nodes → length (stop_name nodes status) ≤ 32
stop_name_short nodes Done plain = omega arith
stop_name_short nodes Usage plain = omega arith
stop_name_short nodes (PlanRefused line why) plain = omega arith
stop_name_short nodes (FileCount want got) plain = omega arith
stop_name_short nodes (Unsafe node risk) plain = omega arith
stop_name_short nodes (ScriptRefused line) plain = omega arith
stop_name_short nodes (OpenFault n) plain = omega arith
stop_name_short nodes (ReadFault n) plain = omega arith
stop_name_short nodes WriteFault plain = omega arith
stop_name_short nodes NoMemory plain = omega arith
stop_name_short nodes (Limit Plan) plain = omega arith
stop_name_short nodes (Limit Script) plain = omega arith
stop_name_short nodes (Limit (Node node)) plain = name_at_short nodes node plain
stop_name_short nodes (Limit (File stream)) plain = name_at_short (streams_in nodes) stream (streams_plain nodes plain)

-- it is the same of equal nodes
pub stop_name_by : (nodes others : List PlanNode) (status : Status) → nodes ≡ others → stop_name nodes status ≡ stop_name others status
stop_name_by nodes others status same = ap (λ (ns : List PlanNode). stop_name ns status) same

-- what was delivered of a line
record Part (line before after : List ℕ) : Type 0 where
  front : List ℕ
  others : List ℕ
  all : front ++ others ≡ line
  written : after ≡ before ++ front

part_of : (line : List ℕ) (old new : SinkState) → IsTrue new.told → Delivered line old new → Part line old.written new.written
part_of line old new told delivered = elim (delivered told) [
  | inl e ↦ record { front = line; others = []; all = append-nil line; written = e }
  | inr cut ↦ record { front = cut.1.front; others = cut.1.others; all = cut.1.all; written = cut.1.written }
]

pub early_note : (Right : List Element → Type 0) (line : List ℕ) (old new : SinkState) → IsTrue new.told → IsNoteLine line → Delivered line old new → SpellsRight Right old.written new.written
early_note Right line old new told note delivered =
    let p : Part line old.written new.written = part_of line old new told delivered in
    notes_never Right (line ∷ []) p.front p.others old.written new.written (note, tt) (p.all ∙ sym (append-nil line)) p.written

early_notes : (Right : List Element → Type 0) (lines : List (List ℕ)) (old new : SinkState) → IsTrue new.told → AreNotes lines → Delivered (flat lines) old new → SpellsRight Right old.written new.written
early_notes Right lines old new told notes delivered =
    let p : Part (flat lines) old.written new.written = part_of (flat lines) old new told delivered in
    notes_never Right lines p.front p.others old.written new.written notes p.all p.written

-- the run never began, and the lines of the status were written
pub never_early : (Right : List Element → Type 0) (stop : PlanStop) (old new : SinkState) → IsTrue new.told → HasLines stop → Delivered (refusal_text stop) old new → SpellsRight Right old.written new.written
never_early Right (PlanFile NotOpened) old new told lines delivered = early_note Right (status_line [] (OpenFault 1)) old new told (open_fault_note 1) delivered
never_early Right (PlanFile NotRead) old new told lines delivered = early_note Right (status_line [] (ReadFault 1)) old new told (read_fault_note 1) delivered
never_early Right (PlanFile TooLong) old new told lines delivered = early_note Right (status_line [] (Limit Plan)) old new told (limit_note Plan [] tt) delivered
never_early Right (PlanFile FileMemory) old new told lines delivered = early_note Right (status_line [] NoMemory) old new told (no_memory_note []) delivered
never_early Right (Refused fault) old new told lines delivered = early_note Right (status_line [] (PlanRefused fault.line fault.why)) old new told (plan_refused_note fault.line fault.why) delivered
never_early Right (OtherCount want got) old new told lines delivered = early_note Right (status_line [] (FileCount want got)) old new told (file_count_note want got) delivered
never_early Right (Stuck found) old new told lines delivered = early_notes Right found.lines old new told (note_lines found.lines lines) delivered
never_early Right PlanMemory old new told lines delivered = early_note Right (status_line [] NoMemory) old new told (no_memory_note []) delivered

-- whole first ones of such lines, and then a front of a note
pub whole_right : (Right : List Element → Type 0) (job : Job) (history : List Entry) (lines : List (List ℕ)) (line before : List ℕ) (mid new : SinkState) → IsTrue new.told → IsPlanned job → IsLegal (run_nodes job) history
    → ((first : List Element) → StaysRight job history first → Right first) → DueLines job history lines → IsNoteLine line → WholeLines lines before mid.written → Delivered line mid new → SpellsRight Right before new.written
whole_right Right job history lines line before mid new told planned legal stays_so due note w delivered =
    let p : Part line mid.written new.written = part_of line mid new told delivered in
    let f : FirstLines due.outputs w.first = first_lines w.first w.others lines due.outputs due.are w.all in
    front_right Right job history f.first (f.others ++ due.more) (w.first ++ line ∷ []) (flat w.first ++ p.front) p.others before new.written planned legal stays_so
    (sym (append_assoc f.first f.others due.more) ∙ (ap (λ (xs : List Element). xs ++ due.more) f.all ∙ due.all))
    (subst (AreLinesOf (w.first ++ line ∷ [])) (append-nil f.first) (lines-append w.first (line ∷ []) f.first [] f.are (inl (note, tt))))
    (append_assoc (flat w.first) p.front p.others
    ∙ (ap (λ (xs : List ℕ). flat w.first ++ xs) (p.all ∙ sym (append-nil line))
    ∙ sym (flat-append w.first (line ∷ []))))
    (p.written ∙ (ap (λ (xs : List ℕ). xs ++ p.front) w.written ∙ append_assoc before (flat w.first) p.front))

-- a front of their bytes, and no more
pub part_right : (Right : List Element → Type 0) (job : Job) (history : List Entry) (lines : List (List ℕ)) (before : List ℕ) (mid new : SinkState) → IsTrue new.told → IsPlanned job → IsLegal (run_nodes job) history
    → ((first : List Element) → StaysRight job history first → Right first) → DueLines job history lines → FrontOf (flat lines) before mid.written → Delivered [] mid new → SpellsRight Right before new.written
part_right Right job history lines before mid new told planned legal stays_so due left delivered =
    front_right Right job history due.outputs due.more lines left.front left.others before new.written planned legal stays_so due.all due.are left.all (same_after mid new told delivered ∙ left.written)

-- whole first lines of the run, and then a front of the line of the status
whole_never : (job : Job) (call : Call) (line before : List ℕ) (mid new : SinkState) → IsTrue new.told → IsReady job call → IsNoteLine line
    → WholeLines (due_lines job (stream_files call)) before mid.written → Delivered line mid new → NoneRetracted call before new.written
whole_never job call line before mid new told ready note w delivered =
    let files : List (List ℕ) = stream_files call in
    whole_right (StayInCall call) job (history_of job files) (due_lines job files) line before mid new told ready.planned (legal_run job files ready.planned) (λ first stay. (job, ready.read, stay))
    (due_are job files ready.names (refused_line job files)) note w delivered

-- the run is done
pub never_done : (job : Job) (call : Call) (before after : List ℕ) → IsReady job call → after ≡ before ++ flat (run_lines job (stream_files call)) → NoneRetracted call before after
never_done job call before after ready written =
    let files : List (List ℕ) = stream_files call in
    let outputs : List Element = written_outputs job files in
    front_never job call outputs [] (run_lines job files) (flat (run_lines job files)) [] before after ready (append-nil outputs) (run_lines_are job files ready.names) (append-nil (flat (run_lines job files))) written

-- the output failed
front_stopped : (job : Job) (call : Call) (before : List ℕ) (mid new : SinkState) → IsTrue new.told → IsReady job call → FrontOf (flat (due_lines job (stream_files call))) before mid.written → Delivered [] mid new
    → NoneRetracted call before new.written
front_stopped job call before mid new told ready left delivered =
    let files : List (List ℕ) = stream_files call in
    part_right (StayInCall call) job (history_of job files) (due_lines job files) before mid new told ready.planned (legal_run job files ready.planned) (λ first stay. (job, ready.read, stay))
    (due_are job files ready.names (refused_line job files)) left delivered

-- the run stopped, and then the line of its status was written
pub never_stopped : (operand : ℕ) (stop : FilesStop) (job : Job) (call : Call) (name before : List ℕ) (mid new : SinkState) → IsTrue new.told → IsReady job call
    → name ≡ stop_name job.nodes (files_status operand stop) → Leaves (files_cut stop) (due_lines job (stream_files call)) before mid.written → Delivered (stop_line operand stop name) mid new → NoneRetracted call before new.written
never_stopped operand (Opening (Fault stream)) job call name before mid new told ready named left delivered =
    whole_never job call (status_line [] (OpenFault (operand + stream))) before mid new told ready (open_fault_note (operand + stream)) left (subst (λ (x : List ℕ). Delivered (status_line x (OpenFault (operand + stream))) mid new) named delivered)
never_stopped operand (Opening OpeningMemory) job call name before mid new told ready named left delivered = whole_never job call (status_line name NoMemory) before mid new told ready (no_memory_note name) left delivered
never_stopped operand (Run (RunFault stream)) job call name before mid new told ready named left delivered =
    whole_never job call (status_line [] (ReadFault (operand + stream))) before mid new told ready (read_fault_note (operand + stream)) left (subst (λ (x : List ℕ). Delivered (status_line x (ReadFault (operand + stream))) mid new) named delivered)
never_stopped operand (Run (TooLarge stream)) job call name before mid new told ready named left delivered =
    let what : LimitOf = File stream in
    whole_never job call (status_line (limit_name job.nodes what) (Limit what)) before mid new told ready (limit_note what (limit_name job.nodes what) (limit_name_no_feed job.nodes what ready.names)) left
    (subst (λ (x : List ℕ). Delivered (status_line x (Limit what)) mid new) named delivered)
never_stopped operand (Run (RunLimit node)) job call name before mid new told ready named left delivered =
    let what : LimitOf = Node node in
    whole_never job call (status_line (limit_name job.nodes what) (Limit what)) before mid new told ready (limit_note what (limit_name job.nodes what) (limit_name_no_feed job.nodes what ready.names)) left
    (subst (λ (x : List ℕ). Delivered (status_line x (Limit what)) mid new) named delivered)
never_stopped operand (Run (RunRefused line)) job call name before mid new told ready named left delivered = whole_never job call (status_line name (ScriptRefused line)) before mid new told ready (script_refused_note name line) left delivered
never_stopped operand (Run WriteFailed) job call name before mid new told ready named left delivered = front_stopped job call before mid new told ready left delivered
never_stopped operand (Run (RunCut stop)) job call name before mid new told ready named left delivered = front_stopped job call before mid new told ready left delivered
never_stopped operand (Run (CutRead stream)) job call name before mid new told ready named left delivered = front_stopped job call before mid new told ready left delivered
never_stopped operand (Run (CutLarge stream)) job call name before mid new told ready named left delivered = front_stopped job call before mid new told ready left delivered
never_stopped operand (Run (CutRefused line)) job call name before mid new told ready named left delivered = front_stopped job call before mid new told ready left delivered
never_stopped operand (Run RunMemory) job call name before mid new told ready named left delivered = whole_never job call (status_line name NoMemory) before mid new told ready (no_memory_note name) left delivered

-- the words asked for nothing that there is
pub never_usage : (call : Call) (old new : SinkState) → IsTrue new.told → Delivered (status_line [] Usage) old new → NoneRetracted call old.written new.written
never_usage call old new told delivered = early_note (StayInCall call) (status_line [] Usage) old new told usage_note delivered

-- the script was not had
pub never_scripted : (stop : StepsStop) (call : Call) (old new : SinkState) → IsTrue new.told → Delivered (status_line [] (steps_status stop)) old new → NoneRetracted call old.written new.written
never_scripted (ScriptFile NotOpened) call old new told delivered = early_note (StayInCall call) (status_line [] (OpenFault 2)) old new told (open_fault_note 2) delivered
never_scripted (ScriptFile NotRead) call old new told delivered = early_note (StayInCall call) (status_line [] (ReadFault 2)) old new told (read_fault_note 2) delivered
never_scripted (ScriptFile TooLong) call old new told delivered = early_note (StayInCall call) (status_line [] (Limit Script)) old new told (limit_note Script [] tt) delivered
never_scripted (ScriptFile FileMemory) call old new told delivered = early_note (StayInCall call) (status_line [] NoMemory) old new told (no_memory_note []) delivered
never_scripted (LineRefused at) call old new told delivered = early_note (StayInCall call) (status_line [] (ScriptRefused at)) old new told (script_refused_note [] at) delivered
never_scripted StepsMemory call old new told delivered = early_note (StayInCall call) (status_line [] NoMemory) old new told (no_memory_note []) delivered
