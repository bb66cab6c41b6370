-- What is written behind the work of a run that was made to its end.
use Rattle.std.proofs.Common.{◌≡◌, ◌∙◌, ℕ, Bool, true, false, List, [], ◌∷◌, ◌++◌, Result, Ok, Err, IsTrue, refl, ap, sym, subst, append_assoc}
use Rattle.pj_core.specs.Plans.{RunPlan}
use Rattle.pj_element.specs.Accepted.{fates_of, tally_of}
use Rattle.pj_events.specs.declared.events.Entry.{Entry}
use Rattle.pj_events.specs.Outcomes.{elements_out}
use Rattle.pj_feed.specs.Feeds.{FeedState, files_of, tallies_in, tallies_of}
use Rattle.pj_io.specs.States.{SinkState}
use Rattle.pj_pattern.specs.declared.element.Element.{Element}
use Rattle.pj_plan.specs.declared.node.PlanNode.{PlanNode}
use Rattle.pj_plan.specs.Nodes.{streams_in}
use Rattle.pj_report.specs.declared.stops.WriteStop.{WriteStop}
use Rattle.pj_report.specs.declared.stops.WriteStop.TheVariants.{NoMemory as WriteMemory}
use Rattle.pj_report.specs.declared.writer.ResultWriter.{ResultWriter}
use Rattle.pj_report.specs.Forms.{shown, total_in, withheld}
use Rattle.pj_report.specs.Report.{results_line, results_text, stream_lines}
use Rattle.pj_report.specs.Written.{between, flat, Leaves, WritesBy, write_cut}
use Rattle.pj_report.proofs.Forms.{all_shown}
use Rattle.pj_report.proofs.LinesWritten.{first_written, stop_then, written_then}
use Rattle.pj_run.specs.declared.checking.AcceptedRows.{AcceptedRows}
use Rattle.pj_run.specs.Jobs.{Job}
use Rattle.pj_run.specs.Outcome.{AreAccepted, Finishes, report_lines, tally_lines}
use Rattle.pj_run.specs.Runs.{accepted_rows, check_in, form_report, lines_by, outs_by, plan_run, report_by, streams_report}
use Rattle.pj_run.specs.Stops.{of_turn, of_write}
use Rattle.pj_run.specs.declared.stops.RunStop.TheVariants.{NoMemory}
use Rattle.pj_run.proofs.Tallies.{finished}
use Rattle.pj_parallel.specs.declared.run.Settled.{Settled}
use Rattle.pj_parallel.specs.Concluding.{Gathers}
use Rattle.pj_parallel_files.specs.Feeds.{FailsToReport}
use Rattle.pj_parallel_files.specs.Histories.{MadeWhole}

-- ---- the report of what was gathered

-- the lines of the streams are those of their counts
counts-report : (nodes : List PlanNode) (contents : List (List ℕ)) → streams_report nodes contents ≡ tally_lines nodes (tallies_of nodes contents)
counts-report [] contents = refl
counts-report (s ∷ nodes) [] = refl
counts-report (s ∷ nodes) (bytes ∷ contents) = ap (λ (ls : List (List ℕ)). stream_lines s.name (tally_of (fates_of s.schema bytes)) ++ ls) (counts-report nodes contents)

-- the check is that of the rows which were accepted
check-is : (job : Job) (files : List (List ℕ)) (accepted : AcceptedRows) → accepted.asked ≡ job.check → AreAccepted (accepted_rows job files) accepted
    → check_in accepted.asked job.nodes accepted.lists.items ≡ check_in job.check job.nodes (accepted_rows job files)
check-is job files accepted asked rows = go accepted.asked refl ∙ ap (λ (b : Bool). check_in b job.nodes (accepted_rows job files)) asked
  where
    go : (b : Bool) → accepted.asked ≡ b → check_in b job.nodes accepted.lists.items ≡ check_in b job.nodes (accepted_rows job files)
    go true is = ap (check_in true job.nodes) (rows is)
    go false is = refl

gathered-report : (job : Job) (feeds news : List FeedState) (old mid : SinkState) (settled : Settled) (g : Gathers job feeds news old mid settled)
    → report_lines (plan_run job) (tallies_in news) settled.gathered g.done.history ≡ report_by job (files_of feeds) g.done.history (elements_out (outs_by job g.done.history))
gathered-report job feeds news old mid settled g =
    let gathered = settled.gathered in
    let plan : RunPlan = plan_run job in
    let history : List Entry = g.done.history in
    let streams = streams_in job.nodes in
    let outputs = elements_out (outs_by job history) in
    ap (λ (ls : List (List ℕ)). ls ++ results_text gathered.results.counts.rows gathered.results.counts.puncts ∷ [] ++ form_report gathered.results.form gathered.results.total plan history
    ++ check_in gathered.accepted.asked job.nodes gathered.accepted.lists.items) (ap (tally_lines streams) g.tallies ∙ sym (counts-report streams (files_of feeds)))
    ∙ (ap (λ (w : ResultWriter). streams_report streams (files_of feeds) ++ results_text w.counts.rows w.counts.puncts ∷ [] ++ form_report w.form w.total plan history
    ++ check_in gathered.accepted.asked job.nodes gathered.accepted.lists.items) g.done.results_are
    ∙ ap (λ (ls : List (List ℕ)). streams_report streams (files_of feeds) ++ results_line outputs ∷ [] ++ form_report job.form (total_in job.form outputs) plan history ++ ls)
    (check-is job (files_of feeds) gathered.accepted g.asked g.rows))

-- ---- all lines

-- those that are written before its end, and behind them those that were withheld and the report
ends-with : (job : Job) (files : List (List ℕ)) (history : List Entry)
    → shown job.form job.nodes (outs_by job history) ++ (withheld job.form (elements_out (outs_by job history)) ++ report_by job files history (elements_out (outs_by job history))) ≡ lines_by job files history
ends-with job files history =
    let outs = outs_by job history in
    let report = report_by job files history (elements_out outs) in
    sym (append_assoc (shown job.form job.nodes outs) (withheld job.form (elements_out outs)) report) ∙ ap (λ (ls : List (List ℕ)). ls ++ report) (all_shown job.form job.nodes outs)

-- these lines were written, and then those, or as much of them as the stop leaves
writes-then : (xs ys zs : List (List ℕ)) (old mid new : SinkState) (result : Result (Unit {0}) WriteStop) → xs ++ ys ≡ zs → mid.written ≡ old.written ++ flat xs → WritesBy write_cut ys mid new result → WritesBy write_cut zs old new result
writes-then xs ys zs old mid new (Ok u) parts first then =
    subst (λ (lines : List (List ℕ)). new.written ≡ old.written ++ flat lines) parts (written_then xs ys old.written mid.written new.written first then)
writes-then xs ys zs old mid new (Err why) parts first then =
    subst (λ (lines : List (List ℕ)). Leaves (write_cut why) lines old.written new.written) parts (stop_then (write_cut why) xs ys old.written mid.written new.written first then)

-- behind what was written before its end, the withheld results and the report are the rest of all lines of the history
reported : (job : Job) (feeds news : List FeedState) (old mid new : SinkState) (settled : Settled) (result : Result (Unit {0}) WriteStop) (g : Gathers job feeds news old mid settled) → settled.core.plan ≡ plan_run job
    → ((outputs : List Element) → Finishes outputs settled.core (tallies_in news) settled.gathered mid new result) → IsTrue mid.told → IsTrue new.told → WritesBy write_cut (lines_by job (files_of feeds) g.done.history) old new result
reported job feeds news old mid new settled result g plan finishes first told =
    let history = g.done.history in
    let outs = outs_by job history in
    let outputs = elements_out outs in
    writes-then (shown job.form job.nodes outs) (withheld job.form outputs ++ report_by job (files_of feeds) history outputs) (lines_by job (files_of feeds) history) old mid new result (ends-with job (files_of feeds) history) (g.done.written first)
    (subst (λ (lines : List (List ℕ)). WritesBy write_cut (withheld job.form outputs ++ lines) mid new result) (gathered-report job feeds news old mid settled g)
    (subst (λ (p : RunPlan). WritesBy write_cut (withheld job.form outputs ++ report_lines p (tallies_in news) settled.gathered history) mid new result) plan
    (finished job.form outputs settled.core (tallies_in news) settled.gathered mid new result g.done.results_are (finishes outputs) told history g.done.stands)))

-- the run is made to its end
pub made_whole : (job : Job) (feeds news : List FeedState) (old mid new : SinkState) (settled : Settled) → Gathers job feeds news old mid settled → settled.core.plan ≡ plan_run job
    → ((outputs : List Element) → Finishes {T = Unit {0}} outputs settled.core (tallies_in news) settled.gathered mid new (Ok tt)) → (IsTrue new.told → IsTrue mid.told) → MadeWhole job (files_of feeds) old new
made_whole job feeds news old mid new settled g plan finishes first = record {
  history = g.done.history;
  whole = g.done.whole;
  written = λ told. reported job feeds news old mid new settled (Ok tt) g plan finishes (first told) told;
}

-- or the report is not written to its end
pub not_reported : (job : Job) (feeds news : List FeedState) (old mid new : SinkState) (settled : Settled) (why : WriteStop) → Gathers job feeds news old mid settled → settled.core.plan ≡ plan_run job
    → ((outputs : List Element) → Finishes {T = Unit {0}} outputs settled.core (tallies_in news) settled.gathered mid new (Err why)) → (IsTrue new.told → IsTrue mid.told) → FailsToReport job (files_of feeds) (of_turn (of_write why)) old new
not_reported job feeds news old mid new settled why g plan finishes first = record {
  history = g.done.history;
  whole = g.done.whole;
  why = why;
  stop_is = refl;
  written = λ told. reported job feeds news old mid new settled (Err why) g plan finishes (first told) told;
}

-- or not begun, where memory for the counts is wanting
pub not_counted : (job : Job) (feeds news : List FeedState) (old mid : SinkState) (settled : Settled) → Gathers job feeds news old mid settled → FailsToReport job (files_of feeds) NoMemory old mid
not_counted job feeds news old mid settled g =
    let history = g.done.history in
    let outs = outs_by job history in
    record {
      history = history;
      whole = g.done.whole;
      why = WriteMemory;
      stop_is = refl;
      written = λ told. first_written between (shown job.form job.nodes outs) (withheld job.form (elements_out outs) ++ report_by job (files_of feeds) history (elements_out outs)) (lines_by job (files_of feeds) history)
          old.written mid.written (g.done.written told) (ends-with job (files_of feeds) history);
    }
