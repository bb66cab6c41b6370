-- The sum of the last column, row by row.
use Rattle.std.proofs.Common.{◌≡◌, List, [], ◌∷◌, ◌++◌, refl, ap, sym, ◌∙◌, append-nil}
use Rattle.std.specs.Int.{saturate_signed, w64}
use Rattle.std.specs.Prelude.{ℕ, ℤ, pos, ◌+ℤ◌, take, length, ◌<◌, ◌+◌, get_or}
use Rattle.pj_value.specs.declared.values.Value.{Value}
use Rattle.pj_pattern.specs.Patterns.{Pattern}
use Rattle.pj_pattern.specs.declared.element.Element.{Element}
use Rattle.pj_pattern.specs.declared.element.Element.TheVariants.{Tuple, Punct}
use Rattle.pj_pattern.proofs.Elements.{rows_of-append}
use Rattle.pj_element.specs.Runs.{rows_of}
use Rattle.pj_events.specs.declared.events.Out.{Out}
use Rattle.pj_events.specs.Outcomes.{elements_out}
use Rattle.pj_laws.proofs.Steps.{elements-append}
use Rattle.std.proofs.Common.{append_assoc}
use Rattle.pj_report.specs.Sums.{last_number, sum_behind, sum_with, total_of}
use Rattle.pj_report.proofs.Counting.{outs_more}

sum-append : (total : ℤ) (rows more : List (List Value)) → sum_behind total (rows ++ more) ≡ sum_behind (sum_behind total rows) more
sum-append total [] more = refl
sum-append total (row ∷ rows) more = sum-append (sum_with total row) rows more

-- one row more
pub summed_row : (before : List Element) (row : List Value) (total number : ℤ) → total ≡ total_of before → number ≡ last_number row
    → saturate_signed w64 (total +ℤ number) ≡ total_of (before ++ Tuple row ∷ [])
summed_row before row total number is last =
    ap (λ (n : ℤ). saturate_signed w64 (total +ℤ n)) last
    ∙ (ap (λ (t : ℤ). sum_with t row) is
    ∙ (sym (sum-append (pos 0) (rows_of before) (row ∷ [])) ∙ ap (sum_behind (pos 0)) (sym (rows_of-append before (Tuple row ∷ [])))))

-- one punctuation more
pub summed_punct : (before : List Element) (patterns : List Pattern) (total : ℤ) → total ≡ total_of before → total ≡ total_of (before ++ Punct patterns ∷ [])
summed_punct before patterns total is = is ∙ ap (sum_behind (pos 0)) (sym (rows_of-append before (Punct patterns ∷ []) ∙ append-nil (rows_of before)))

-- nothing more
pub summed_none : (before : List Element) (total : ℤ) → total ≡ total_of before → total ≡ total_of (before ++ [])
summed_none before total is = is ∙ ap total_of (sym (append-nil before))

-- summed so far, and one more
pub total_more : (outs : List Out) (i : ℕ) (o : Out) (before : List Element) (new : ℤ) → i < length outs → o ≡ get_or outs i o → new ≡ total_of ((before ++ elements_out (take i outs)) ++ elements_out (o ∷ []))
    → new ≡ total_of (before ++ elements_out (take (i + 1) outs))
total_more outs i o before new lt is summed =
    summed ∙ ap total_of (append_assoc before (elements_out (take i outs)) (elements_out (o ∷ []))
    ∙ ap (λ (es : List Element). before ++ es) (sym (elements-append (take i outs) (o ∷ [])) ∙ ap elements_out (sym (outs_more outs i o lt is))))
