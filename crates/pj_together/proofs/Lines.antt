-- The lines of a history, and the outputs that they spell.
use Rattle.std.proofs.Common.{◌≡◌, ℕ, ℤ, inl, inr, List, [], ◌∷◌, ◌++◌, length, refl, ap, sym, ◌∙◌, subst, append-nil}
use Rattle.pj_plan.specs.declared.node.PlanNode.{PlanNode}
use Rattle.pj_plan.specs.Nodes.{joins_of, streams_in}
use Rattle.pj_core.specs.Plans.{RunPlan}
use Rattle.pj_pattern.specs.declared.element.Element.{Element}
use Rattle.pj_pattern.specs.Elements.{puncts_of, rows_of}
use Rattle.pj_element.specs.Accepted.{fates_of, tally_of}
use Rattle.pj_events.specs.declared.events.Entry.{Entry}
use Rattle.pj_events.specs.Outcomes.{elements_out}
use Rattle.pj_feed.specs.Feeds.{tallies_of}
use Rattle.pj_report.specs.declared.writer.Form.{Form}
use Rattle.pj_report.specs.declared.writer.Form.TheVariants.{AsTheyCome, Sorted, Summed}
use Rattle.pj_report.specs.Forms.{form_lines, in_form, total_in}
use Rattle.pj_report.specs.Report.{counted_to, results_line, stream_lines, total_line}
use Rattle.pj_report.proofs.Fronts.{AreLinesOf, AreNotes, lines-append, notes-append, notes_are}
use Rattle.pj_run.specs.Jobs.{Job}
use Rattle.pj_run.specs.Outcome.{tally_lines}
use Rattle.pj_run.specs.PlanNames.{HasShortNames}
use Rattle.pj_run.specs.Runs.{accepted_rows, form_report, lines_by, outs_by, peaks_report, plan_run, report_by, streams_report}
use Rattle.pj_run.proofs.Notes.{check_in_note, peaks_note, results_note, streams_plain, tallies_note, total_note}
use Rattle.pj_whole_laws.specs.Whole.{IsWholeHistory}
use Rattle.pj_crew_runs.specs.Runs.{IsFrontHistory}
use Rattle.pj_parallel_files.specs.Histories.{ComesTo}
use Rattle.pj_alone.proofs.StaysLaws.{DueLines, form_lines_are, shown_are}

-- ---- the report of a history

streams-counted : (streams : List PlanNode) (files : List (List ℕ)) → streams_report streams files ≡ tally_lines streams (tallies_of streams files)
streams-counted [] files = refl
streams-counted (s ∷ streams) [] = refl
streams-counted (s ∷ streams) (f ∷ files) = ap (λ (ls : List (List ℕ)). stream_lines s.name (tally_of (fates_of s.schema f)) ++ ls) (streams-counted streams files)

peaks_are_notes : (plan : RunPlan) → HasShortNames plan.nodes → (history : List Entry) (form : Form) (total : ℤ) → AreNotes (form_report form total plan history)
peaks_are_notes plan plain history AsTheyCome total = peaks_note plan history (joins_of plan.nodes) plain
peaks_are_notes plan plain history Sorted total = tt
peaks_are_notes plan plain history Summed total = notes-append (peaks_report plan history) (total_line total ∷ []) (peaks_note plan history (joins_of plan.nodes) plain) (total_note total, tt)

-- its lines are notes
report_is_notes : (job : Job) (files : List (List ℕ)) (history : List Entry) (outputs : List Element) → HasShortNames job.nodes → AreNotes (report_by job files history outputs)
report_is_notes job files history outputs plain =
    let streams = streams_report (streams_in job.nodes) files in
    let results = results_line outputs ∷ [] in
    let total : ℤ = total_in job.form outputs in
    let counted = subst AreNotes (sym (streams-counted (streams_in job.nodes) files)) (tallies_note (streams_in job.nodes) (tallies_of (streams_in job.nodes) files) (streams_plain job.nodes plain)) in
    notes-append (streams ++ results ++ form_report job.form total (plan_run job) history) _
    (notes-append (streams ++ results) _ (notes-append streams results counted (results_note (counted_to (length (rows_of outputs))) (counted_to (length (puncts_of outputs))), tt))
    (peaks_are_notes (plan_run job) plain history job.form total))
    (check_in_note job.check job.nodes (accepted_rows job files))

-- ---- the outputs of lines

-- all lines of a whole history are those of all its outputs, with notes among them
pub whole_due : (job : Job) (files : List (List ℕ)) (history : List Entry) → HasShortNames job.nodes → DueLines job history (lines_by job files history)
whole_due job files history plain =
    let outputs : List Element = elements_out (outs_by job history) in
    record {
      outputs = in_form job.form outputs;
      more = [];
      all = append-nil (in_form job.form outputs);
      are = subst (AreLinesOf (lines_by job files history)) (append-nil (in_form job.form outputs))
          (lines-append (form_lines job.form job.nodes (outs_by job history)) (report_by job files history outputs) (in_form job.form outputs) []
          (form_lines_are job.form job.nodes (outs_by job history) plain)
          (notes_are (report_by job files history outputs) (report_is_notes job files history outputs plain)));
    }

-- ---- fronts

pub whole_is_front : (job : Job) (files : List (List ℕ)) (history : List Entry) → IsWholeHistory job files history → IsFrontHistory job files history
whole_is_front job files history w = record {
  legal = w.legal;
  within = w.within;
  arrived = λ stream there. ([], append-nil _ ∙ w.whole.arrived stream there);
}

-- lines that a run came to write are those of first outputs of a front history
pub record FrontLines (job : Job) (files lines : List (List ℕ)) : Type 0 where
  pub history : List Entry
  pub front : IsFrontHistory job files history
  pub due : DueLines job history lines

pub front_due : (job : Job) (files lines : List (List ℕ)) → HasShortNames job.nodes → ComesTo job files lines → FrontLines job files lines
front_due job files lines plain (inl front) =
    let s = shown_are job.form job.nodes (outs_by job front.0) plain in
    record { history = front.0; front = front.1; due = subst (DueLines job front.0) (sym front.2) (record { outputs = s.0; more = s.1; all = s.2; are = s.3 }) }
front_due job files lines plain (inr whole) = record {
  history = whole.0;
  front = whole_is_front job files whole.0 whole.1;
  due = subst (DueLines job whole.0) (sym whole.2) (whole_due job files whole.0 plain);
}
