-- What was written of a history stays right, however its streams go on.
use Rattle.std.specs.Prelude.{◌≡◌, ◌<◌, ℕ, ◌⊎◌, ⊤, List, [], ◌∷◌, ◌++◌, map, length}
use Rattle.pj_plan.specs.declared.node.PlanNode.{PlanNode}
use Rattle.pj_plan.specs.Nodes.{streams_in}
use Rattle.pj_algebra.specs.Answers.{answer_of}
use Rattle.pj_pattern.specs.declared.element.Element.{Element}
use Rattle.pj_pattern.specs.Elements.{rows_of, IsLawful}
use Rattle.pj_value.specs.Bags.{SubBag}
use Rattle.pj_value.specs.Lists.{In}
use Rattle.pj_value.specs.declared.values.Value.{Value}
use Rattle.pj_events.specs.declared.events.Entry.{Entry}
use Rattle.pj_events.specs.Outcomes.{elements_out, outputs_of as handed_out, elements_of as arrived_at}
use Rattle.pj_events.specs.Join.{upto_from}
use Rattle.pj_report.specs.declared.writer.Form.{Form}
use Rattle.pj_report.specs.declared.writer.Form.TheVariants.{AsTheyCome, Sorted, Summed}
use Rattle.pj_report.specs.Forms.{in_form}
use Rattle.pj_run.specs.Jobs.{Job}
use Rattle.pj_run.specs.Runs.{run_nodes}

-- the elements that a history brought to each of so many streams
abbrev pub arrived_in : ℕ → List Entry → List (List Element)
arrived_in streams history = map (λ stream. arrived_at stream history) (upto_from 0 streams)

-- each stream goes on with more elements
abbrev pub gone_on : List (List Element) → List (List Element) → List (List Element)
gone_on [] more = []
gone_on (f ∷ fs) [] = f ∷ gone_on fs []
gone_on (f ∷ fs) (m ∷ ms) = (f ++ m) ∷ gone_on fs ms

-- the elements that a front of a history brought to the plan's streams, each going on with more
abbrev pub streams_after : Job → List Entry → List (List Element) → List (List Element)
streams_after job front more = gone_on (arrived_in (length (streams_in job.nodes)) front) more

-- each of these rows has so many values
abbrev pub AreOfWidth : ℕ → List (List Value) → Type 0
AreOfWidth width rows = (row : List Value) → In row rows → length row ≡ width

-- the elements of each of these streams are lawful, and its rows have a value for each of its columns
abbrev pub AllLawful : List PlanNode → List (List Element) → Type 0
AllLawful [] lists = ⊤
AllLawful (stream ∷ streams) [] = ⊤
AllLawful (stream ∷ streams) (es ∷ lists) = IsLawful es × AreOfWidth (length stream.schema) (rows_of es) × AllLawful streams lists

-- the rows of the plan's answer, where its streams go on with more elements
abbrev pub answer_after : Job → List Entry → List (List Element) → List (List Value)
answer_after job front more = answer_of job.nodes (map rows_of (streams_after job front more))

-- the history is as long as it must be to hand out this many elements: with one entry less it hands out fewer
abbrev pub IsShortest : Job → List Entry → ℕ → Type 0
IsShortest job history count =
    (history ≡ []) ⊎ ((front : List Entry) × (last : Entry) × (history ≡ front ++ last ∷ []) × (length (elements_out (handed_out job.trace (run_nodes job) front)) < count))

-- the front is no longer than it must be for so many outputs, where they are written as they come; it is the whole history, where
-- they are sorted, or only summed
abbrev pub ReachesSo : Form → Job → List Entry → List Entry → ℕ → Type 0
ReachesSo AsTheyCome job front back count = IsShortest job front count
ReachesSo Sorted job front back count = back ≡ []
ReachesSo Summed job front back count = back ≡ []

-- These outputs are first ones, in the order of their form, of what a front of a history of the plan hands out; and however the
-- streams lawfully go on from there, their rows are among those of the answer, as bags
pub record StaysRight (job : Job) (history : List Entry) (outputs : List Element) : Type 0 where
  pub front : List Entry
  pub back : List Entry
  pub run : front ++ back ≡ history
  pub others : List Element
  pub among : outputs ++ others ≡ in_form job.form (elements_out (handed_out job.trace (run_nodes job) front))
  pub reaches : ReachesSo job.form job front back (length outputs)
  pub right : (more : List (List Element)) → AllLawful (streams_in job.nodes) (streams_after job front more) → SubBag (rows_of outputs) (answer_after job front more)
