-- The lines and the counts of what was handed out, one by one.
use Rattle.std.proofs.Common.{◌≡◌, ℕ, ◌+◌, ◌-◌, ◌<◌, ◌^◌, min, List, [], ◌∷◌, ◌++◌, length, map, take, get_or, drop, refl, ap, ap₂, sym, ◌∙◌, append_assoc, arith}
use Rattle.std.proofs.lemmas.List.{length-append, take_more, take-append-drop, map-append}
use Rattle.pj_pattern.specs.declared.element.Element.{Element}
use Rattle.pj_element.specs.Elements.{row_line, punct_line}
use Rattle.pj_element.specs.Runs.{rows_of, puncts_of, fed}
use Rattle.pj_events.specs.declared.events.Out.{Out}
use Rattle.pj_events.specs.declared.events.Out.TheVariants.{Tuple, Punct, Purged}
use Rattle.pj_events.specs.Outcomes.{elements_out}
use Rattle.pj_laws.proofs.Steps.{elements-append}
use Rattle.pj_plan.specs.declared.node.PlanNode.{PlanNode}
use Rattle.pj_report.specs.declared.results.Counts.{Counts}
use Rattle.pj_report.specs.Laws.{ResultsAreElements, UnnotedAreElements}
use Rattle.pj_report.specs.Report.{counted_to}
use Rattle.pj_report.specs.Results.{out_line, out_lines, counts_of}
use Rattle.pj_report.specs.Sorted.{fed_punct, fed_row, punct_lines, row_lines}
use Rattle.pj_pattern.proofs.Elements.{rows_of-append, puncts_of-append}

counted_sum : (a b : ℕ) → min (counted_to a + b) (2 ^ 64 - 1) ≡ counted_to (a + b)
counted_sum a b = omega arith

abbrev pub counts_at : ℕ → ℕ → Counts
counts_at rows puncts = record { rows = rows; puncts = puncts }

pub counted_more : (before es : List Element) (rows puncts : ℕ) (old : Counts) → old ≡ counts_of before → rows ≡ length (rows_of es) → puncts ≡ length (puncts_of es)
    → counts_at (min (old.rows + rows) (2 ^ 64 - 1)) (min (old.puncts + puncts) (2 ^ 64 - 1)) ≡ counts_of (before ++ es)
counted_more before es rows puncts old is r p =
    ap₂ counts_at
    (ap₂ (λ (a b : ℕ). min (a + b) (2 ^ 64 - 1)) (ap (λ (c : Counts). c.rows) is) r
    ∙ (counted_sum (length (rows_of before)) (length (rows_of es)) ∙ ap counted_to (sym (length-append (rows_of before) (rows_of es)) ∙ ap length (sym (rows_of-append before es)))))
    (ap₂ (λ (a b : ℕ). min (a + b) (2 ^ 64 - 1)) (ap (λ (c : Counts). c.puncts) is) p
    ∙ (counted_sum (length (puncts_of before)) (length (puncts_of es)) ∙ ap counted_to (sym (length-append (puncts_of before) (puncts_of es)) ∙ ap length (sym (puncts_of-append before es)))))

pub out_lines-append : (nodes : List PlanNode) (xs ys : List Out) → out_lines nodes (xs ++ ys) ≡ out_lines nodes xs ++ out_lines nodes ys
out_lines-append nodes xs ys = map-append (out_line nodes) xs ys

-- one more of these
pub outs_more : (outs : List Out) (i : ℕ) (o : Out) → i < length outs → o ≡ get_or outs i o → take (i + 1) outs ≡ take i outs ++ o ∷ []
outs_more outs i o lt is = take_more outs i o lt ∙ ap (λ (x : Out). take i outs ++ x ∷ []) (sym is)

pub lines_more : (nodes : List PlanNode) (outs : List Out) (i : ℕ) (o : Out) → i < length outs → o ≡ get_or outs i o → out_lines nodes (take i outs) ++ out_lines nodes (o ∷ []) ≡ out_lines nodes (take (i + 1) outs)
lines_more nodes outs i o lt is = sym (out_lines-append nodes (take i outs) (o ∷ [])) ∙ ap (out_lines nodes) (sym (outs_more outs i o lt is))

pub lines_rest : (nodes : List PlanNode) (outs : List Out) (i : ℕ) → out_lines nodes (take i outs) ++ out_lines nodes (drop i outs) ≡ out_lines nodes outs
lines_rest nodes outs i = sym (out_lines-append nodes (take i outs) (drop i outs)) ∙ ap (out_lines nodes) (take-append-drop i outs)

-- counted so far, and one more
pub counts_more : (outs : List Out) (i : ℕ) (o : Out) (before : List Element) (new : Counts) → i < length outs → o ≡ get_or outs i o → new ≡ counts_of ((before ++ elements_out (take i outs)) ++ elements_out (o ∷ []))
    → new ≡ counts_of (before ++ elements_out (take (i + 1) outs))
counts_more outs i o before new lt is counted =
    counted ∙ ap counts_of (append_assoc before (elements_out (take i outs)) (elements_out (o ∷ []))
    ∙ ap (λ (es : List Element). before ++ es) (sym (elements-append (take i outs) (o ∷ [])) ∙ ap elements_out (sym (outs_more outs i o lt is))))

-- ---- the lines of elements, and notes

pub unnoted_lines : UnnotedAreElements
unnoted_lines nodes [] none = refl
unnoted_lines nodes (Tuple row ∷ outs) none = ap (λ (ls : List (List ℕ)). fed (row_line row) ∷ ls) (unnoted_lines nodes outs none)
unnoted_lines nodes (Punct patterns ∷ outs) none = ap (λ (ls : List (List ℕ)). fed (punct_line patterns) ∷ ls) (unnoted_lines nodes outs none)
unnoted_lines nodes (Purged join input row ∷ outs) none = absurd none

pub lines_not_notes : ResultsAreElements
lines_not_notes nodes [] = refl
lines_not_notes nodes (Tuple row ∷ outs) = ap (λ (ls : List (List ℕ)). fed (row_line row) ∷ ls) (lines_not_notes nodes outs)
lines_not_notes nodes (Punct patterns ∷ outs) = ap (λ (ls : List (List ℕ)). fed (punct_line patterns) ∷ ls) (lines_not_notes nodes outs)
lines_not_notes nodes (Purged join input row ∷ outs) = lines_not_notes nodes outs

-- ---- kept lines

pub row_lines-append : (es fs : List Element) → row_lines (es ++ fs) ≡ row_lines es ++ row_lines fs
row_lines-append es fs = ap (map fed_row) (rows_of-append es fs) ∙ map-append fed_row (rows_of es) (rows_of fs)

pub punct_lines-append : (es fs : List Element) → punct_lines (es ++ fs) ≡ punct_lines es ++ punct_lines fs
punct_lines-append es fs = ap (map fed_punct) (puncts_of-append es fs) ∙ map-append fed_punct (puncts_of es) (puncts_of fs)

-- the lines of one more are behind those that are kept so far
pub kept_more : (lines : List Element → List (List ℕ)) → ((es fs : List Element) → lines (es ++ fs) ≡ lines es ++ lines fs) → (outs : List Out) (i : ℕ) (o : Out) (before mid new : List (List ℕ)) → i < length outs
    → o ≡ get_or outs i o → mid ≡ before ++ lines (elements_out (take i outs)) → new ≡ mid ++ lines (elements_out (o ∷ [])) → new ≡ before ++ lines (elements_out (take (i + 1) outs))
kept_more lines both outs i o before mid new lt is so_far then =
    then ∙ (ap (λ (ls : List (List ℕ)). ls ++ lines (elements_out (o ∷ []))) so_far
    ∙ (append_assoc before (lines (elements_out (take i outs))) (lines (elements_out (o ∷ [])))
    ∙ ap (λ (ls : List (List ℕ)). before ++ ls) (sym (both (elements_out (take i outs)) (elements_out (o ∷ [])))
    ∙ ap lines (sym (elements-append (take i outs) (o ∷ [])) ∙ ap elements_out (sym (outs_more outs i o lt is))))))
