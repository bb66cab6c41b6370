-- Where a run that stopped ends: which front of the history's outputs it has written.
use Rattle.std.specs.Prelude.{◌≡◌, ◌^◌, ℕ, take, List, [], ◌∷◌, ◌++◌, slice_index_or}
use Rattle.pj_run.specs.Jobs.{Job}
use Rattle.pj_plan.specs.Nodes.{stream_columns, streams_in}
use Rattle.pj_pattern.specs.declared.element.Element.{Element}
use Rattle.pj_events.specs.declared.events.Entry.{Entry}
use Rattle.pj_events.specs.declared.events.Event.TheVariants.{Arrive}
use Rattle.pj_events.specs.Limits.{ReachesLimit, StaysWithin}
use Rattle.pj_events.specs.Outcomes.{outputs_of as handed_out, elements_of as arrived_at}
use Rattle.pj_feed.specs.Feeds.{fed_elements}
use Rattle.pj_run.specs.Runs.{history_of, run_nodes, StaysInLimit}
use Rattle.pj_report.specs.Forms.{shown}
use Rattle.pj_report.specs.Written.{flat, FrontOf}

-- the lines that are written of what a history hands out before the run's end: none where results are sorted
abbrev pub lines_until : Job → List Entry → List ℕ
lines_until job front = flat (shown job.form job.nodes (handed_out job.trace (run_nodes job) front))

-- the lines are those of the outputs of a front of the run's history, which ends before a turn of this stream and goes beyond no limit
pub record EndsBefore (job : Job) (files : List (List ℕ)) (stream : ℕ) (before lines : List ℕ) : Type 0 where
  pub front : List Entry
  pub next : Entry
  pub back : List Entry
  pub run : front ++ next ∷ back ≡ history_of job files
  pub element : Element
  pub turn : next.event ≡ Arrive stream element
  pub within : StaysWithin job.limit (run_nodes job) [] front
  pub written : lines ≡ before ++ lines_until job front

-- the lines are those of the outputs of the front of the run's history that ends before the first step which brings an element
-- beyond the limit, at this node
pub record EndsAtLimit (job : Job) (files : List (List ℕ)) (node : ℕ) (before lines : List ℕ) : Type 0 where
  pub reaches : ReachesLimit job.limit (run_nodes job) (history_of job files) node
  pub written : lines ≡ before ++ lines_until job reaches.front

-- such a front's lines were to be written, and a front of their bytes was
pub record EndsCut (job : Job) (files : List (List ℕ)) (node : ℕ) (before lines : List ℕ) : Type 0 where
  pub reaches : ReachesLimit job.limit (run_nodes job) (history_of job files) node
  pub written : FrontOf (lines_until job reaches.front) before lines

-- a step of the script is not enabled, and the lines are those of all that the history hands out, which ends before it and goes beyond no
-- limit
abbrev pub EndsRefused : Job → List (List ℕ) → List ℕ → List ℕ → Type 0
EndsRefused job files before lines = StaysInLimit job files × (lines ≡ before ++ lines_until job (history_of job files))

-- the lines of a front of the run's outputs that ends before a turn of this stream were to be written, and a front of their bytes was
pub record EndsCutBefore (job : Job) (files : List (List ℕ)) (stream : ℕ) (before lines : List ℕ) : Type 0 where
  pub front : List Entry
  pub next : Entry
  pub back : List Entry
  pub run : front ++ next ∷ back ≡ history_of job files
  pub element : Element
  pub turn : next.event ≡ Arrive stream element
  pub within : StaysWithin job.limit (run_nodes job) [] front
  pub written : FrontOf (lines_until job front) before lines

-- a step of the script is not enabled, the lines of all that the history hands out were to be written, and a front of their bytes was
abbrev pub EndsCutRefused : Job → List (List ℕ) → List ℕ → List ℕ → Type 0
EndsCutRefused job files before lines = StaysInLimit job files × FrontOf (lines_until job (history_of job files)) before lines

-- in this history exactly the elements arrived at the stream that are accepted of the lines that end with a line feed in so many
-- bytes of its file
abbrev pub ArrivedOf : Job → List (List ℕ) → ℕ → ℕ → List Entry → Type 0
ArrivedOf job files stream taken front =
    arrived_at stream front ≡ fed_elements (stream_columns (streams_in job.nodes) stream) (take taken (slice_index_or files stream []))

-- a front of the run's outputs that ends before a turn of this stream, at which exactly the elements had arrived that are accepted of the
-- lines which end with a line feed in the first 2 ^ 40 bytes of its file
abbrev pub EndsAtBytes : Job → List (List ℕ) → ℕ → List ℕ → List ℕ → Type 0
EndsAtBytes job files stream before lines = (ends : EndsBefore job files stream before lines) × ArrivedOf job files stream (2 ^ 40) ends.front

-- such a front's lines were to be written, and a front of their bytes was
abbrev pub EndsCutAtBytes : Job → List (List ℕ) → ℕ → List ℕ → List ℕ → Type 0
EndsCutAtBytes job files stream before lines = (ends : EndsCutBefore job files stream before lines) × ArrivedOf job files stream (2 ^ 40) ends.front
