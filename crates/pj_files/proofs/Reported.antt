-- What is written behind the turns of a run that were made.
use Rattle.std.proofs.Common.{◌≡◌, ℕ, List, ◌++◌, Result, Ok, Err, IsTrue, subst}
use Rattle.pj_core.specs.Cores.{CoreState, StandsFor}
use Rattle.pj_core.specs.Plans.{RunPlan}
use Rattle.pj_element.specs.declared.tally.Tally.{Tally}
use Rattle.pj_io.specs.States.{SinkState}
use Rattle.pj_pattern.specs.declared.element.Element.{Element}
use Rattle.pj_report.specs.declared.stops.WriteStop.{WriteStop}
use Rattle.pj_report.specs.Forms.{shown, withheld}
use Rattle.pj_report.specs.Written.{flat, Leaves, WritesBy, write_cut}
use Rattle.pj_report.proofs.LinesWritten.{stop_then, written_then}
use Rattle.pj_run.specs.declared.run.Gathered.{Gathered}
use Rattle.pj_run.specs.Jobs.{Job}
use Rattle.pj_run.specs.Outcome.{Finishes, IsOutcome, report_lines}
use Rattle.pj_run.specs.Runs.{due_lines, history_of, outputs_of, outs_of, plan_run, run_lines, IsEnabled}
use Rattle.pj_run.proofs.Tallies.{due_enabled, end_lines, finished, report_is, run_parts}

-- these lines of the run, and then those
ends : (job : Job) (files : List (List ℕ)) (old mid new : SinkState) (result : Result (Unit {0}) WriteStop) → mid.written ≡ old.written ++ flat (shown job.form job.nodes (outs_of job files))
    → WritesBy write_cut (end_lines job files) mid new result → WritesBy write_cut (run_lines job files) old new result
ends job files old mid new (Ok u) first then =
    subst (λ (lines : List (List ℕ)). new.written ≡ old.written ++ flat lines) (run_parts job files) (written_then (shown job.form job.nodes (outs_of job files)) (end_lines job files) old.written mid.written new.written first then)
ends job files old mid new (Err why) first then =
    subst (λ (lines : List (List ℕ)). Leaves (write_cut why) lines old.written new.written) (run_parts job files) (stop_then (write_cut why) (shown job.form job.nodes (outs_of job files)) (end_lines job files) old.written mid.written new.written first then)

-- behind the lines of the turns, the withheld results and the report are the rest of the lines that are due
pub reported : (job : Job) (files : List (List ℕ)) (core : CoreState) (tallies : List Tally) (gathered : Gathered) (old mid new : SinkState) (result : Result (Unit {0}) WriteStop) → core.plan ≡ plan_run job → IsOutcome job files tallies gathered
    → IsEnabled job files → StandsFor core (history_of job files) → mid.written ≡ old.written ++ flat (shown job.form job.nodes (outs_of job files)) → ((outputs : List Element) → Finishes outputs core tallies gathered mid new result) → IsTrue new.told
    → WritesBy write_cut (due_lines job files) old new result
reported job files core tallies gathered old mid new result plan outcome enabled stands first finishes told =
    subst (λ (lines : List (List ℕ)). WritesBy write_cut lines old new result) (due_enabled job files enabled)
    (ends job files old mid new result first
    (subst (λ (lines : List (List ℕ)). WritesBy write_cut (withheld job.form (outputs_of job files) ++ lines) mid new result) (report_is job files tallies gathered outcome)
    (subst (λ (p : RunPlan). WritesBy write_cut (withheld job.form (outputs_of job files) ++ report_lines p tallies gathered (history_of job files)) mid new result) plan
    (finished job.form (outputs_of job files) core tallies gathered mid new result outcome.results (finishes (outputs_of job files)) told (history_of job files) stands))))
