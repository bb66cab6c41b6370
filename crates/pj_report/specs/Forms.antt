-- What is written of what is handed out, and when: as it comes, or in order at the end.
use Rattle.std.specs.Prelude.{◌≡◌, ℕ, ⊤, ℤ, pos, IsTrue, Result, List, [], ◌∷◌, ◌++◌, map, if◌then◌else◌}
use Rattle.pj_pattern.specs.declared.element.Element.{Element}
use Rattle.pj_pattern.specs.declared.element.Element.TheVariants.{Tuple, Punct}
use Rattle.pj_element.specs.Runs.{rows_of, puncts_of}
use Rattle.pj_events.specs.declared.events.Out.{Out}
use Rattle.pj_events.specs.Outcomes.{elements_out}
use Rattle.pj_io.specs.States.{SinkState}
use Rattle.pj_plan.specs.declared.node.PlanNode.{PlanNode}
use Rattle.pj_report.specs.declared.kept.KeptLines.{KeptLines}
use Rattle.pj_report.specs.declared.writer.Form.{Form}
use Rattle.pj_report.specs.declared.writer.Form.TheVariants.{AsTheyCome, Sorted, Summed}
use Rattle.pj_report.specs.declared.writer.ResultWriter.{ResultWriter}
use Rattle.pj_report.specs.declared.stops.WriteStop.{WriteStop}
use Rattle.pj_report.specs.Results.{counts_of, out_lines}
use Rattle.pj_report.specs.Sorted.{fed_punct, fed_row, is_below, punct_lines, row_lines, sorted_form}
use Rattle.pj_report.specs.Sums.{total_of}
use Rattle.pj_report.specs.Written.{WritesBy, write_cut}

-- the lines of what is handed out that are written as it comes
abbrev pub shown : Form → List PlanNode → List Out → List (List ℕ)
shown AsTheyCome nodes outs = out_lines nodes outs
shown Sorted nodes outs = []
shown Summed nodes outs = []

-- the lines of elements that are written once all were handed out
abbrev pub withheld : Form → List Element → List (List ℕ)
withheld AsTheyCome es = []
withheld Sorted es = sorted_form es
withheld Summed es = []

-- all lines of what is handed out
abbrev pub form_lines : Form → List PlanNode → List Out → List (List ℕ)
form_lines AsTheyCome nodes outs = out_lines nodes outs
form_lines Sorted nodes outs = sorted_form (elements_out outs)
form_lines Summed nodes outs = []

-- the form writes results
abbrev pub WritesResults : Form → Type 0
WritesResults AsTheyCome = ⊤
WritesResults Sorted = ⊤
WritesResults Summed = ⊥

-- ---- the elements in the order of their lines

-- an element put behind those of these whose lines are below its own
abbrev pub put_by : {A : Type 0} → (A → List ℕ) → A → List A → List A
put_by line x [] = x ∷ []
put_by line x (y ∷ ys) = if is_below (line y) (line x) then y ∷ put_by line x ys else x ∷ y ∷ ys

-- these in order of their lines
abbrev pub sort_by : {A : Type 0} → (A → List ℕ) → List A → List A
sort_by line [] = []
sort_by line (x ∷ xs) = put_by line x (sort_by line xs)

-- elements in the order in which the form writes them
abbrev pub in_form : Form → List Element → List Element
in_form AsTheyCome es = es
in_form Sorted es = map Tuple (sort_by fed_row (rows_of es)) ++ map Punct (sort_by fed_punct (puncts_of es))
in_form Summed es = []

-- ---- a writer

-- the lines that are kept of elements
abbrev pub kept_of : Form → List Element → KeptLines
kept_of AsTheyCome es = record { rows = []; puncts = [] }
kept_of Sorted es = record { rows = row_lines es; puncts = punct_lines es }
kept_of Summed es = record { rows = []; puncts = [] }

-- the sum of the last column of their rows, where the form sums it
abbrev pub total_in : Form → List Element → ℤ
total_in AsTheyCome es = pos 0
total_in Sorted es = pos 0
total_in Summed es = total_of es

-- the writer that has taken these elements
abbrev pub taken_so_far : Form → List Element → ResultWriter
taken_so_far form es = record { form = form; counts = counts_of es; kept = kept_of form es; total = total_in form es }

-- a writer that had taken some elements has taken these behind them
abbrev pub TakesMore : ResultWriter → ResultWriter → List Element → Type 0
TakesMore old new more = (form : Form) (before : List Element) → old ≡ taken_so_far form before → new ≡ taken_so_far form (before ++ more)

-- where the sink is told: the lines that were withheld of what the writer has taken were written, or as much of them as the stop leaves
abbrev pub WritesWithheld : {T : Type 0} → ResultWriter → SinkState → SinkState → Result T WriteStop → Type 0
WritesWithheld writer old new result =
    (form : Form) (all : List Element) → writer ≡ taken_so_far form all → IsTrue new.told → WritesBy write_cut (withheld form all) old new result
