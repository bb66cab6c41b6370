-- The lines of the streams of a report, one stream after the other.
use Rattle.pj_run.specs.Jobs.{Job}
use Rattle.pj_plan.specs.declared.node.PlanNode.{PlanNode}
use Rattle.pj_plan.specs.Nodes.{streams_of, streams_in}
use Rattle.std.proofs.Common.{◌≡◌, ℕ, Bool, true, false, zero, suc, ◌+◌, ◌≤◌, ◌<◌, List, [], ◌∷◌, ◌++◌, length, take, drop, get_or, refl, ap, ap₂, sym, ◌∙◌, append_assoc, append-nil, subst, Option, None, Some, Result, arith}
use Rattle.std.proofs.lemmas.List.{take_all}
use Rattle.pj_element.specs.declared.tally.Tally.{Tally}
use Rattle.pj_element.specs.Accepted.{tally_of, fates_of}
use Rattle.pj_report.specs.declared.writer.ResultWriter.{ResultWriter}
use Rattle.pj_run.specs.declared.run.Gathered.{Gathered}
use Rattle.pj_value.specs.declared.values.Value.{Value}
use Rattle.pj_events.specs.declared.events.Entry.{Entry}
use Rattle.pj_core.specs.Plans.{RunPlan}
use Rattle.pj_feed.specs.Feeds.{tallies_of}
use Rattle.pj_run.specs.Outcome.{tally_lines, report_lines, Finishes, IsOutcome, WritesOf}
use Rattle.pj_report.specs.Report.{stream_lines, results_line, results_text}
use Rattle.pj_run.specs.Runs.{accepted_rows, check_in, streams_report, form_report, report_of, run_lines, due_lines, due_where, refused_line, history_of, outs_of, outputs_of, plan_run, IsEnabled}
use Rattle.pj_report.specs.Forms.{shown, taken_so_far, total_in, withheld}
use Rattle.pj_report.specs.Written.{WritesBy, write_cut}
use Rattle.pj_report.specs.declared.stops.WriteStop.{WriteStop}
use Rattle.pj_report.specs.declared.writer.Form.{Form}
use Rattle.pj_core.specs.Cores.{CoreState}
use Rattle.pj_io.specs.States.{SinkState}
use Rattle.pj_pattern.specs.declared.element.Element.{Element}
use Rattle.pj_report.proofs.Forms.{all_shown}
use Rattle.pj_feed.proofs.StreamNodes.{count_numbers}

pub tally_rest : (i : ℕ) (streams : List PlanNode) (tallies : List Tally) → length tallies ≡ length streams → tally_lines (take i streams) (take i tallies) ++ tally_lines (drop i streams) (drop i tallies) ≡ tally_lines streams tallies
tally_rest zero streams tallies same = refl
tally_rest (suc i) [] tallies same = refl
tally_rest (suc i) (s ∷ streams) [] same = absurd (omega arith)
tally_rest (suc i) (s ∷ streams) (t ∷ tallies) same =
    append_assoc (stream_lines s.name t) (tally_lines (take i streams) (take i tallies)) (tally_lines (drop i streams) (drop i tallies))
    ∙ ap (λ (ls : List (List ℕ)). stream_lines s.name t ++ ls) (tally_rest i streams tallies (omega arith))

tally-suc : (i : ℕ) (streams : List PlanNode) (tallies : List Tally) (s : PlanNode) (t : Tally) → i < length streams → length tallies ≡ length streams
    → tally_lines (take i streams) (take i tallies) ++ stream_lines (get_or streams i s).name (get_or tallies i t) ≡ tally_lines (take (suc i) streams) (take (suc i) tallies)
tally-suc i [] tallies s t lt same = absurd (omega arith)
tally-suc i (x ∷ streams) [] s t lt same = absurd (omega arith)
tally-suc zero (x ∷ streams) (y ∷ tallies) s t lt same = sym (append-nil (stream_lines x.name y))
tally-suc (suc i) (x ∷ streams) (y ∷ tallies) s t lt same =
    append_assoc (stream_lines x.name y) (tally_lines (take i streams) (take i tallies)) (stream_lines (get_or streams i s).name (get_or tallies i t))
    ∙ ap (λ (ls : List (List ℕ)). stream_lines x.name y ++ ls) (tally-suc i streams tallies s t (omega arith) (omega arith))

pub tally_more : (i : ℕ) (streams : List PlanNode) (tallies : List Tally) (s : PlanNode) (t : Tally) → i < length streams → length tallies ≡ length streams
    → tally_lines (take i streams) (take i tallies) ++ stream_lines (get_or streams i s).name (get_or tallies i t) ≡ tally_lines (take (i + 1) streams) (take (i + 1) tallies)
tally_more i streams tallies s t lt same =
    let z : suc i ≡ i + 1 = omega arith in
    tally-suc i streams tallies s t lt same ∙ ap (λ (n : ℕ). tally_lines (take n streams) (take n tallies)) z

-- once all streams were met
pub all-taken : (nodes : List PlanNode) (numbers : List ℕ) (tallies : List Tally) (i : ℕ) → numbers ≡ streams_of nodes → length tallies ≡ length (streams_in nodes) → length numbers ≤ i
    → tally_lines (take i (streams_in nodes)) (take i tallies) ≡ tally_lines (streams_in nodes) tallies
all-taken nodes numbers tallies i are each le =
    let count = ap length are ∙ count_numbers nodes in
    ap₂ tally_lines (take_all i (streams_in nodes) (omega (arith, count, le))) (take_all i tallies (omega (arith, count, each, le)))

streams-lines : (streams : List PlanNode) (files : List (List ℕ)) → tally_lines streams (tallies_of streams files) ≡ streams_report streams files
streams-lines [] files = refl
streams-lines (s ∷ streams) [] = refl
streams-lines (s ∷ streams) (f ∷ files) = ap (λ (ls : List (List ℕ)). stream_lines s.name (tally_of (fates_of s.schema f)) ++ ls) (streams-lines streams files)

-- the line of a check of the rows that were kept, where they were
checked : (asked check : Bool) (nodes : List PlanNode) (lists rows : List (List (List Value))) → asked ≡ check → (asked ≡ true → lists ≡ rows) → check_in asked nodes lists ≡ check_in check nodes rows
checked true check nodes lists rows is same = ap (check_in true nodes) (same refl) ∙ ap (λ (b : Bool). check_in b nodes rows) is
checked false check nodes lists rows is same = ap (λ (b : Bool). check_in b nodes rows) is

-- the report of a run that was made to its end
pub report_is : (job : Job) (files : List (List ℕ)) (tallies : List Tally) (gathered : Gathered) → IsOutcome job files tallies gathered
    → report_lines (plan_run job) tallies gathered (history_of job files) ≡ report_of job files (outputs_of job files)
report_is job files tallies gathered o =
    let plan : RunPlan = plan_run job in
    let history : List Entry = history_of job files in
    ap (λ (ls : List (List ℕ)). ls ++ results_text gathered.results.counts.rows gathered.results.counts.puncts ∷ [] ++ form_report gathered.results.form gathered.results.total plan history
    ++ check_in gathered.accepted.asked job.nodes gathered.accepted.lists.items) (ap (tally_lines (streams_in job.nodes)) o.each ∙ streams-lines (streams_in job.nodes) files)
    ∙ (ap (λ (w : ResultWriter). streams_report (streams_in job.nodes) files ++ results_text w.counts.rows w.counts.puncts ∷ [] ++ form_report w.form w.total plan history
    ++ check_in gathered.accepted.asked job.nodes gathered.accepted.lists.items) o.results
    ∙ ap (λ (ls : List (List ℕ)). streams_report (streams_in job.nodes) files ++ results_line (outputs_of job files) ∷ [] ++ form_report job.form (total_in job.form (outputs_of job files)) plan history ++ ls)
    (checked gathered.accepted.asked job.check job.nodes gathered.accepted.lists.items (accepted_rows job files) o.asked o.rows))

-- in whatever form the writer has taken these outputs
pub finished : {T : Type 0} (form : Form) (outputs : List Element) (core : CoreState) (tallies : List Tally) (gathered : Gathered) (old new : SinkState) (result : Result T WriteStop) → gathered.results ≡ taken_so_far form outputs
    → Finishes outputs core tallies gathered old new result → WritesOf (λ history. withheld form outputs ++ report_lines core.plan tallies gathered history) core old new result
finished form outputs core tallies gathered old new result is finishes told history stands =
    let same : gathered.results.form ≡ form = ap (λ (w : ResultWriter). w.form) is in
    subst (λ (f : Form). WritesBy write_cut (withheld f outputs ++ report_lines core.plan tallies gathered history) old new result) same
    (finishes (subst (λ (f : Form). gathered.results ≡ taken_so_far f outputs) (sym same) is) told history stands)

-- what is written once all turns are made: the results that were withheld, and the report
abbrev pub end_lines : Job → List (List ℕ) → List (List ℕ)
end_lines job files = withheld job.form (outputs_of job files) ++ report_of job files (outputs_of job files)

pub run_parts : (job : Job) (files : List (List ℕ)) → shown job.form job.nodes (outs_of job files) ++ end_lines job files ≡ run_lines job files
run_parts job files =
    sym (append_assoc (shown job.form job.nodes (outs_of job files)) (withheld job.form (outputs_of job files)) (report_of job files (outputs_of job files)))
    ∙ ap (λ (ls : List (List ℕ)). ls ++ report_of job files (outputs_of job files)) (all_shown job.form job.nodes (outs_of job files))

-- the lines of the turns are the first that are due
pub due_parts : (job : Job) (files : List (List ℕ)) → (more : List (List ℕ)) × (shown job.form job.nodes (outs_of job files) ++ more ≡ due_lines job files)
due_parts job files = go (refused_line job files)
  where
    go : (line : Option ℕ) → (more : List (List ℕ)) × (shown job.form job.nodes (outs_of job files) ++ more ≡ due_where line job files)
    go None = (end_lines job files, run_parts job files)
    go (Some line) = ([], append-nil (shown job.form job.nodes (outs_of job files)))

-- where every step is enabled, all lines of the run are due
pub due_enabled : (job : Job) (files : List (List ℕ)) → IsEnabled job files → run_lines job files ≡ due_lines job files
due_enabled job files enabled = ap (λ (line : Option ℕ). due_where line job files) (sym enabled)

pub four_parts : (xs ys zs ws : List (List ℕ)) → xs ++ (ys ++ (zs ++ ws)) ≡ xs ++ ys ++ zs ++ ws
four_parts xs ys zs ws = sym (append_assoc xs ys (zs ++ ws)) ∙ sym (append_assoc (xs ++ ys) zs ws)
