-- Whole histories of a job, whoever made them: what they hand out, and the lines that they make.
use Rattle.std.specs.Prelude.{◌≡◌, ℕ, List, []}
use Rattle.pj_events.specs.declared.events.Entry.{Entry}
use Rattle.pj_events.specs.History.{IsLegal}
use Rattle.pj_events.specs.Limits.{StaysWithin}
use Rattle.pj_events.specs.Outcomes.{elements_out}
use Rattle.pj_feed.specs.Feeds.{accepted_of}
use Rattle.pj_laws.specs.HistoryLaws.{AllAreCertified}
use Rattle.pj_pattern.specs.Elements.{IsLawful}
use Rattle.pj_plan.specs.Nodes.{streams_in}
use Rattle.pj_plan.specs.Sound.{IsSoundPlan}
use Rattle.pj_report.specs.declared.writer.Form.TheVariants.{Sorted}
use Rattle.pj_run.specs.Jobs.{Job}
use Rattle.pj_run.specs.Runs.{lines_by, outs_by, run_nodes, ArePunctuations, IsAnswer}
use Rattle.pj_script_laws.specs.Laws.{IsWholeOf}

-- The history is legal, complete and within the limit of the job, and to each stream all that is accepted of its file arrives, and its
-- closing
pub record IsWholeHistory (job : Job) (files : List (List ℕ)) (history : List Entry) : Type 0 where
  pub legal : IsLegal (run_nodes job) history
  pub whole : IsWholeOf (run_nodes job) (accepted_of (streams_in job.nodes) files) history
  pub within : StaysWithin job.limit (run_nodes job) [] history

-- for each whole history of a job over a sound plan each of whose joins has certificates
abbrev pub OfWhole : (Job → List (List ℕ) → List Entry → Type 0) → Type 0
OfWhole Holds =
    (job : Job) → IsSoundPlan job.nodes → AllAreCertified (run_nodes job) → (files : List (List ℕ)) (history : List Entry)
    → IsWholeHistory job files history → Holds job files history

-- the rows that it hands out are the plan's answer over exactly the accepted rows, as a bag
abbrev pub WholeAnswers : Job → List (List ℕ) → List Entry → Type 0
WholeAnswers job files history = (report : List (List ℕ)) → IsAnswer job files (elements_out (outs_by job history)) report

-- its punctuations are the plan's over those that were accepted and the closings, as a bag
abbrev pub WholePunctuates : Job → List (List ℕ) → List Entry → Type 0
WholePunctuates job files history = (report : List (List ℕ)) → ArePunctuations job files (elements_out (outs_by job history)) report

-- no row that it hands out matches a punctuation before it
abbrev pub WholeIsLawful : Job → List (List ℕ) → List Entry → Type 0
WholeIsLawful job files history = IsLawful (elements_out (outs_by job history))

-- where results are sorted, the lines are those of any other whole history: one function of plan and files
abbrev pub SortedIsOne : Job → List (List ℕ) → List Entry → Type 0
SortedIsOne job files history =
    job.form ≡ Sorted → (other : List Entry) → IsWholeHistory job files other → lines_by job files history ≡ lines_by job files other
