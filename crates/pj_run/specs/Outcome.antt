-- What a run that was made to its end leaves for its report.
use Rattle.std.specs.Prelude.{◌≡◌, ℕ, ℤ, true, List, [], ◌∷◌, ◌++◌, Result, IsTrue, IfOk}
use Rattle.pj_run.specs.Jobs.{Job}
use Rattle.pj_plan.specs.declared.node.PlanNode.{PlanNode}
use Rattle.pj_value.specs.declared.values.Value.{Value}
use Rattle.pj_pattern.specs.declared.element.Element.{Element}
use Rattle.pj_core.specs.Plans.{RunPlan}
use Rattle.pj_plan.specs.Nodes.{streams_in}
use Rattle.pj_io.specs.States.{SinkState}
use Rattle.pj_element.specs.declared.tally.Tally.{Tally}
use Rattle.pj_core.specs.Cores.{CoreState, StandsFor}
use Rattle.pj_report.specs.declared.stops.WriteStop.{WriteStop}
use Rattle.pj_report.specs.Written.{WritesBy, write_cut}
use Rattle.pj_events.specs.declared.events.Entry.{Entry}
use Rattle.pj_run.specs.declared.checking.AcceptedRows.{AcceptedRows}
use Rattle.pj_run.specs.declared.run.Gathered.{Gathered}
use Rattle.pj_feed.specs.Feeds.{tallies_of, FeedState, AllTold, files_of, tallies_in}
use Rattle.pj_report.specs.declared.writer.Form.{Form}
use Rattle.pj_report.specs.declared.writer.Form.TheVariants.{Summed}
use Rattle.pj_report.specs.Forms.{taken_so_far, withheld}
use Rattle.pj_report.specs.Report.{stream_lines, results_text}
use Rattle.pj_run.specs.Runs.{accepted_rows, check_in, outputs_of, form_report, peaks_report}
use Rattle.pj_run.specs.declared.stops.RunStop.{RunStop}

-- the rows of each stream, where they are kept for a check
abbrev pub AreAccepted : List (List (List Value)) → AcceptedRows → Type 0
AreAccepted lists accepted = accepted.asked ≡ true → accepted.lists.items ≡ lists

-- the counts of each stream, a writer that has taken all outputs, and the rows of each stream
pub record IsOutcome (job : Job) (files : List (List ℕ)) (tallies : List Tally) (gathered : Gathered) : Type 0 where
  pub each : tallies ≡ tallies_of (streams_in job.nodes) files
  pub results : gathered.results ≡ taken_so_far job.form (outputs_of job files)
  pub asked : gathered.accepted.asked ≡ job.check
  pub rows : AreAccepted (accepted_rows job files) gathered.accepted

-- where the files are told: what was gathered in turns that were made to their end
abbrev pub TurnsGather : Job → List FeedState → List FeedState → Result Gathered RunStop → Type 0
TurnsGather job olds news result = AllTold olds → IfOk result (λ gathered. IsOutcome job (files_of olds) (tallies_in news) gathered)

-- the lines of streams with these counts
abbrev pub tally_lines : List PlanNode → List Tally → List (List ℕ)
tally_lines [] tallies = []
tally_lines (stream ∷ streams) [] = []
tally_lines (stream ∷ streams) (tally ∷ tallies) = stream_lines stream.name tally ++ tally_lines streams tallies

-- the lines of a report of what was gathered, after a history
abbrev pub report_lines : RunPlan → List Tally → Gathered → List Entry → List (List ℕ)
report_lines plan tallies gathered history =
    tally_lines (streams_in plan.nodes) tallies ++ results_text gathered.results.counts.rows gathered.results.counts.puncts ∷ []
    ++ form_report gathered.results.form gathered.results.total plan history ++ check_in gathered.accepted.asked plan.nodes gathered.accepted.lists.items

-- where the sink is told: these lines were written, which depend on a history for which the core stands, or as much of them as the stop
-- leaves
abbrev pub WritesOf : {T : Type 0} → (List Entry → List (List ℕ)) → CoreState → SinkState → SinkState → Result T WriteStop → Type 0
WritesOf lines core old new result = IsTrue new.told → (history : List Entry) → StandsFor core history → WritesBy write_cut (lines history) old new result

-- the lines of a report
abbrev pub Reports : {T : Type 0} → CoreState → List Tally → Gathered → SinkState → SinkState → Result T WriteStop → Type 0
Reports core tallies gathered old new result = WritesOf (report_lines core.plan tallies gathered) core old new result

-- the lines of the joins' peaks
abbrev pub ReportsPeaks : {T : Type 0} → CoreState → SinkState → SinkState → Result T WriteStop → Type 0
ReportsPeaks core old new result = WritesOf (peaks_report core.plan) core old new result

-- those, and behind them the total
abbrev pub ReportsTotal : {T : Type 0} → ℤ → CoreState → SinkState → SinkState → Result T WriteStop → Type 0
ReportsTotal total core old new result = WritesOf (form_report Summed total core.plan) core old new result

-- the lines that a report has where results have this form
abbrev pub ReportsForm : {T : Type 0} → Form → ℤ → CoreState → SinkState → SinkState → Result T WriteStop → Type 0
ReportsForm form total core old new result = WritesOf (form_report form total core.plan) core old new result

-- where the sink is told: what is written once the turns are made, the lines that were withheld of these outputs and the report
abbrev pub Finishes : {T : Type 0} → List Element → CoreState → List Tally → Gathered → SinkState → SinkState → Result T WriteStop → Type 0
Finishes outputs core tallies gathered old new result =
    let form = gathered.results.form in
    gathered.results ≡ taken_so_far form outputs → WritesOf (λ history. withheld form outputs ++ report_lines core.plan tallies gathered history) core old new result
