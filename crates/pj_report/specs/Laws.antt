-- Laws of the lines of what is handed out.
use Rattle.std.specs.Prelude.{◌≡◌, ◌≤◌, ◌^◌, ℕ, pos, List, length, not, filter}
use Rattle.std.specs.List.Sorted.{IsSortedBy}
use Rattle.pj_value.specs.declared.values.Value.{Value}
use Rattle.pj_value.specs.Bags.{SameBag}
use Rattle.pj_pattern.specs.declared.element.Element.{Element}
use Rattle.pj_element.specs.Runs.{rows_of, puncts_of, element_lines, IsLawful}
use Rattle.pj_events.specs.declared.events.Out.{Out}
use Rattle.pj_events.specs.Outcomes.{elements_out}
use Rattle.pj_plan.specs.declared.node.PlanNode.{PlanNode}
use Rattle.pj_report.specs.declared.writer.Form.{Form}
use Rattle.pj_report.specs.declared.writer.Form.TheVariants.{Sorted}
use Rattle.pj_report.specs.Forms.{in_form, WritesResults}
use Rattle.pj_report.specs.Results.{out_lines, NoneNoted}
use Rattle.pj_report.specs.Sorted.{is_below, sorted_lines, sorted_form}
use Rattle.pj_report.specs.Sums.{exact_sum, HasSmallEnds, sum_behind}
use Rattle.pj_report.specs.Written.{is_note}

-- without notes, the lines are those of the elements
abbrev pub UnnotedAreElements : Type 0
UnnotedAreElements = (nodes : List PlanNode) (outs : List Out) → NoneNoted outs → out_lines nodes outs ≡ element_lines (elements_out outs)

-- with notes, the lines that are no notes are those of the elements
abbrev pub ResultsAreElements : Type 0
ResultsAreElements = (nodes : List PlanNode) (outs : List Out) → filter (λ line. not (is_note line)) (out_lines nodes outs) ≡ element_lines (elements_out outs)

-- ---- sorted lines

-- they are the same lines, each as often
abbrev pub SortedAreSame : Type 0
SortedAreSame = (lines : List (List ℕ)) → SameBag lines (sorted_lines lines)

-- none is below one before it
abbrev pub SortedAreInOrder : Type 0
SortedAreInOrder = (lines : List (List ℕ)) → IsSortedBy is_below (sorted_lines lines)

-- they depend on how often each line is there, and on nothing else
abbrev pub SortedByBag : Type 0
SortedByBag = (lines others : List (List ℕ)) → SameBag lines others → sorted_lines lines ≡ sorted_lines others

-- so does the sorted form on how often each row and each punctuation is there
abbrev pub FormByBags : Type 0
FormByBags = (es fs : List Element) → SameBag (rows_of es) (rows_of fs) → SameBag (puncts_of es) (puncts_of fs) → sorted_form es ≡ sorted_form fs

-- ---- forms

-- in each form that writes results the same rows are written, each as often, and the same punctuations
abbrev pub FormedRows : Type 0
FormedRows = (form : Form) (es : List Element) → WritesResults form → SameBag (rows_of (in_form form es)) (rows_of es)

abbrev pub FormedPuncts : Type 0
FormedPuncts = (form : Form) (es : List Element) → WritesResults form → SameBag (puncts_of (in_form form es)) (puncts_of es)

-- lawful elements are lawful in the order in which a form writes them
abbrev pub FormedAreLawful : Type 0
FormedAreLawful = (form : Form) (es : List Element) → IsLawful es → IsLawful (in_form form es)

-- the sorted form is that of the elements in this order
abbrev pub SortedAreElements : Type 0
SortedAreElements = (es : List Element) → element_lines (in_form Sorted es) ≡ sorted_form es

-- ---- sums

-- where the last column has numbers from 0 to 2^31 alone, and there are at most 2^31 rows, the sum that stops at 64 bits is exact
abbrev pub TotalsAreExact : Type 0
TotalsAreExact = (rows : List (List Value)) → HasSmallEnds rows → length rows ≤ 2 ^ 31 → sum_behind (pos 0) rows ≡ exact_sum rows

-- the exact sum depends on how often each row is there, and on nothing else
abbrev pub ExactSumsByBag : Type 0
ExactSumsByBag = (rows others : List (List Value)) → SameBag rows others → exact_sum rows ≡ exact_sum others
