-- What a plan's run over files hands out, and the lines that it writes. There is one file for each stream.
use Rattle.std.specs.Prelude.{◌≡◌, ◌<◌, true, false, Bool, ℕ, ℤ, List, [], ◌∷◌, ◌++◌, map, length, ⊤, Option, Some, None}
use Rattle.pj_run.specs.Jobs.{Job}
use Rattle.pj_plan.specs.declared.node.PlanNode.{PlanNode}
use Rattle.pj_plan.specs.Nodes.{joins_of, streams_in}
use Rattle.pj_plan.specs.Canonical.{node_name}
use Rattle.pj_algebra.specs.Answers.{answer_of, elements_to as coming_to, punctuations_of, IsCounted}
use Rattle.pj_core.specs.Plans.{RunPlan, nodes_of, run_plan}
use Rattle.pj_value.specs.Bags.{SameBag}
use Rattle.pj_pattern.specs.declared.element.Element.{Element}
use Rattle.pj_pattern.specs.declared.element.Element.TheVariants.{Punct}
use Rattle.pj_element.specs.Runs.{rows_of, puncts_of, IsLawful, closing}
use Rattle.pj_element.specs.Accepted.{fates_of, tally_of}
use Rattle.pj_events.specs.Plan.{Node}
use Rattle.pj_laws.specs.HistoryLaws.{AllAreCertified}
use Rattle.pj_events.specs.declared.events.Entry.{Entry}
use Rattle.pj_events.specs.declared.events.Out.{Out}
use Rattle.pj_events.specs.Limits.{ReachesLimit, StaysWithin}
use Rattle.pj_events.specs.Outcomes.{elements_out, peak_of, outputs_of as handed_out}
use Rattle.pj_events.specs.OneThread.{one_thread_of}
use Rattle.pj_script.specs.declared.step.ScriptStep.{ScriptStep}
use Rattle.pj_script.specs.Playing.{played_of, scripted_of}
use Rattle.pj_script.specs.Reading.{AreStepsOf}
use Rattle.pj_core.specs.Cores.{CoreState}
use Rattle.pj_core.specs.Calls.{IsFresh}
use Rattle.pj_plan.specs.Sound.{IsSoundPlan}
use Rattle.pj_safety.specs.Certificates.{certificates_of}
use Rattle.pj_run.specs.PlanNames.{HasShortNames}
use Rattle.pj_run.specs.declared.run.Writing.{Writing}
use Rattle.pj_value.specs.declared.values.Value.{Value}
use Rattle.pj_report.specs.declared.writer.Form.{Form}
use Rattle.pj_report.specs.declared.writer.Form.TheVariants.{AsTheyCome, Sorted, Summed}
use Rattle.pj_report.specs.Forms.{form_lines, shown, total_in}
use Rattle.pj_report.specs.Report.{check_line, stream_lines, results_line, peak_line, total_line}
use Rattle.pj_feed.specs.Feeds.{accepted_of}

-- ---- the plan as it is run

-- with the certificates that the checker finds for the inputs of its joins
abbrev pub plan_run : Job → RunPlan
plan_run job = run_plan job.nodes (certificates_of job.nodes) job.trace

-- its nodes at their starts
abbrev pub run_nodes : Job → List Node
run_nodes job = nodes_of (plan_run job)

-- ---- what is handed out

-- these elements of streams, each stream's with its closing behind them
abbrev pub with_closings : List PlanNode → List (List Element) → List (List Element)
with_closings [] lists = []
with_closings (stream ∷ streams) [] = (Punct (closing stream.schema) ∷ []) ∷ with_closings streams []
with_closings (stream ∷ streams) (es ∷ lists) = (es ++ Punct (closing stream.schema) ∷ []) ∷ with_closings streams lists

-- the accepted elements of each stream, with the closing punctuation
abbrev pub elements_of : Job → List (List ℕ) → List (List Element)
elements_of job files = with_closings (streams_in job.nodes) (accepted_of (streams_in job.nodes) files)

-- the steps of the script, if there is one, are steps over these nodes
abbrev pub IsScriptOf : List PlanNode → Option (List (ℕ × ScriptStep)) → Type 0
IsScriptOf nodes None = ⊤
IsScriptOf nodes (Some steps) = AreStepsOf nodes steps

-- the history over these elements of each stream: that of the run on one thread, with sweeps; or that of a script
abbrev pub history_by : Option (List (ℕ × ScriptStep)) → List Node → List (List Element) → List Entry
history_by None nodes lists = one_thread_of true nodes lists
history_by (Some steps) nodes lists = scripted_of nodes lists steps

-- the line of the first step of the script that is not enabled as the run comes to it, if there is one
abbrev pub refused_by : Option (List (ℕ × ScriptStep)) → List Node → List (List Element) → Option ℕ
refused_by None nodes lists = None
refused_by (Some steps) nodes lists = (played_of nodes lists steps).refused

-- the history of the run. Where a step of its script is not enabled, it ends before that step
abbrev pub history_of : Job → List (List ℕ) → List Entry
history_of job files = history_by job.script (run_nodes job) (accepted_of (streams_in job.nodes) files)

abbrev pub refused_line : Job → List (List ℕ) → Option ℕ
refused_line job files = refused_by job.script (run_nodes job) (accepted_of (streams_in job.nodes) files)

-- every step of its script is enabled, if there is a script
abbrev pub IsEnabled : Job → List (List ℕ) → Type 0
IsEnabled job files = refused_line job files ≡ None

-- no entry of its history brings an element beyond its limit
abbrev pub StaysInLimit : Job → List (List ℕ) → Type 0
StaysInLimit job files = StaysWithin job.limit (run_nodes job) [] (history_of job files)

-- what a history of the plan hands out
abbrev pub outs_by : Job → List Entry → List Out
outs_by job history = handed_out job.trace (run_nodes job) history

-- what the run hands out
abbrev pub outs_of : Job → List (List ℕ) → List Out
outs_of job files = outs_by job (history_of job files)

-- its outputs
abbrev pub outputs_of : Job → List (List ℕ) → List Element
outputs_of job files = elements_out (outs_of job files)

-- ---- the report

-- the lines of each stream
abbrev pub streams_report : List PlanNode → List (List ℕ) → List (List ℕ)
streams_report [] files = []
streams_report (stream ∷ streams) [] = []
streams_report (stream ∷ streams) (bytes ∷ files) = stream_lines stream.name (tally_of (fates_of stream.schema bytes)) ++ streams_report streams files

-- the line of a join's peak after a history
abbrev pub peak_report : RunPlan → List Entry → ℕ → List ℕ
peak_report plan history join = peak_line (node_name plan.nodes join) (peak_of (nodes_of plan) history join)

-- the lines of the joins' peaks after a history, in order of declaration
abbrev pub peaks_report : RunPlan → List Entry → List (List ℕ)
peaks_report plan history = map (peak_report plan history) (joins_of plan.nodes)

-- the lines that a report has where results have this form: those of the peaks, unless results are sorted, and behind them their total,
-- where they are summed
abbrev pub form_report : Form → ℤ → RunPlan → List Entry → List (List ℕ)
form_report AsTheyCome total plan history = peaks_report plan history
form_report Sorted total plan history = []
form_report Summed total plan history = peaks_report plan history ++ total_line total ∷ []

-- the rows that were accepted of each stream
abbrev pub accepted_rows : Job → List (List ℕ) → List (List (List Value))
accepted_rows job files = map rows_of (accepted_of (streams_in job.nodes) files)

-- the line of a check, where there is one: the number of rows of the plan's answer over these
abbrev pub check_in : Bool → List PlanNode → List (List (List Value)) → List (List ℕ)
check_in false nodes lists = []
check_in true nodes lists = check_line (length (answer_of nodes lists)) ∷ []

-- the report after a history: the lines of each stream, the counts of results, the peaks of the joins, the total, and the check
abbrev pub report_by : Job → List (List ℕ) → List Entry → List Element → List (List ℕ)
report_by job files history outputs =
    streams_report (streams_in job.nodes) files ++ results_line outputs ∷ [] ++ form_report job.form (total_in job.form outputs) (plan_run job) history
    ++ check_in job.check job.nodes (accepted_rows job files)

-- that of the run
abbrev pub report_of : Job → List (List ℕ) → List Element → List (List ℕ)
report_of job files outputs = report_by job files (history_of job files) outputs

-- all lines that a history makes
abbrev pub lines_by : Job → List (List ℕ) → List Entry → List (List ℕ)
lines_by job files history = form_lines job.form job.nodes (outs_by job history) ++ report_by job files history (elements_out (outs_by job history))

-- all lines of the run
abbrev pub run_lines : Job → List (List ℕ) → List (List ℕ)
run_lines job files = lines_by job files (history_of job files)

-- the lines that are due: all lines of the run; where a step of its script is not enabled, those alone that are written as outputs come
abbrev pub due_where : Option ℕ → Job → List (List ℕ) → List (List ℕ)
due_where None job files = run_lines job files
due_where (Some line) job files = shown job.form job.nodes (outs_of job files)

abbrev pub due_lines : Job → List (List ℕ) → List (List ℕ)
due_lines job files = due_where (refused_line job files) job files

-- ---- what holds of the outputs of a run that is done

-- the rows are the plan's answer over exactly the accepted rows, as a bag
abbrev pub IsAnswer : Job → List (List ℕ) → List Element → List (List ℕ) → Type 0
IsAnswer job files outputs report = SameBag (rows_of outputs) (answer_of job.nodes (accepted_rows job files))

-- the punctuations are the plan's over those that were accepted and the closings, as a bag
abbrev pub ArePunctuations : Job → List (List ℕ) → List Element → List (List ℕ) → Type 0
ArePunctuations job files outputs report = SameBag (puncts_of outputs) (punctuations_of job.nodes (map puncts_of (elements_of job files)))

-- no row matches a punctuation before it
abbrev pub AreLawful : Job → List (List ℕ) → List Element → List (List ℕ) → Type 0
AreLawful job files outputs report = IsLawful outputs

-- the counts, the listed rejects, the peaks and the check are those of the files, and the counts of results those of the outputs
abbrev pub AreTallies : Job → List (List ℕ) → List Element → List (List ℕ) → Type 0
AreTallies job files outputs report = report ≡ report_of job files outputs

-- ---- limits

-- what a core runs, where this script is played first, if there is one, and this is to be written
abbrev pub job_by : Option (List (ℕ × ScriptStep)) → Writing → CoreState → Job
job_by script writing core = record {
  nodes = core.plan.nodes;
  trace = core.plan.trace;
  limit = core.limit;
  script = script;
  form = writing.form;
  check = writing.check;
}

-- the same without a script
abbrev pub job_in : Writing → CoreState → Job
job_in writing core = job_by None writing core

-- the plan of a core, with the certificates that the checker finds
abbrev pub plan_in : CoreState → RunPlan
plan_in core = run_plan core.plan.nodes (certificates_of core.plan.nodes) core.plan.trace

-- a new core of a sound plan as it is run, whose certificates hold and at each of whose joins and groups so many may arrive
pub record IsNewCore (core : CoreState) : Type 0 where
  pub fresh : IsFresh core (plan_in core) core.limit
  pub certified : AllAreCertified (nodes_of (plan_in core))
  pub names : HasShortNames core.plan.nodes
  pub sound : IsSoundPlan core.plan.nodes

-- how many elements come to a node in all: the rows of its inputs' answers over the accepted rows, and its inputs' punctuations
abbrev pub elements_to : Job → List (List ℕ) → ℕ → ℕ
elements_to job files node =
    coming_to job.nodes (accepted_rows job files) (map puncts_of (elements_of job files)) node

-- a step of the run is the first that brings an element beyond the limit, and this is its node: a join or a group,
-- to which more elements come in all than may
pub record GoesBeyond (job : Job) (files : List (List ℕ)) (node : ℕ) : Type 0 where
  pub reaches : ReachesLimit job.limit (run_nodes job) (history_of job files) node
  pub counted : IsCounted job.nodes node
  pub many : job.limit < elements_to job files node
