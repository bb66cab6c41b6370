-- The states of aggregates after one row more.
use Rattle.std.proofs.Common.{ℕ, zero, suc, Option, ◌+◌, ◌<◌, List, [], ◌∷◌, ◌++◌, ◌≡◌, map, length, get_or, take, refl, sym, ap, ap₂, ◌∙◌, arith, length-append, pos, negsuc, ◌+ℤ◌, ◌-ℤ◌}
use Rattle.std.proofs.lemmas.Int.{ints}
use Rattle.std.proofs.lemmas.List.{map-append}
use Rattle.pj_value.proofs.Bags.{weigh-append}
use Rattle.pj_value.specs.Bags.{weigh}
use Rattle.pj_value.specs.declared.values.Value.{Value}
use Rattle.pj_value.specs.declared.values.Value.TheVariants.{Int, Text}
use Rattle.pj_shape.specs.Joining.{value_at}
use Rattle.pj_events.specs.Operators.{Agg, Count, Sum, Min, Max, above_zero, below_zero, column_of, greater, greatest_from, least_from, lesser, sum_of}
use Rattle.pj_events.specs.Tables.{Greatest, Least, Rows, Tally, Total, tally}
use Rattle.pj_group.specs.Steps.{cell_of, first_tally, next_tallies, next_tally, number_of}

number_is : (v : Value) → pos (above_zero v) -ℤ pos (below_zero v) ≡ number_of v
number_is (Int (pos n)) = omega (arith, ints)
number_is (Int (negsuc n)) = omega (arith, ints)
number_is (Text bytes) = refl

parts : (a b m n : ℕ) (x y : ℕ) → x ≡ a + (m + 0) → y ≡ b + (n + 0) → pos x -ℤ pos y ≡ (pos a -ℤ pos b) +ℤ (pos m -ℤ pos n)
parts a b m n x y p q = omega (arith, ints)

sum_more : (v : Value) (vs : List Value) → sum_of (vs ++ v ∷ []) ≡ sum_of vs +ℤ number_of v
sum_more v vs =
    parts (weigh above_zero vs) (weigh below_zero vs) (above_zero v) (below_zero v) (weigh above_zero (vs ++ v ∷ [])) (weigh below_zero (vs ++ v ∷ [])) (weigh-append above_zero vs (v ∷ [])) (weigh-append below_zero vs (v ∷ []))
    ∙ ap (λ z. sum_of vs +ℤ z) (number_is v)

single : (a b : ℕ) → pos (a + 0) -ℤ pos (b + 0) ≡ pos a -ℤ pos b
single a b = omega (arith, ints)

least_more : (w v : Value) (vs : List Value) → least_from w (vs ++ v ∷ []) ≡ lesser (least_from w vs) v
least_more w v [] = refl
least_more w v (x ∷ vs) = least_more (lesser w x) v vs

greatest_more : (w v : Value) (vs : List Value) → greatest_from w (vs ++ v ∷ []) ≡ greater (greatest_from w vs) v
greatest_more w v [] = refl
greatest_more w v (x ∷ vs) = greatest_more (greater w x) v vs

column_more : (column : ℕ) (rows : List (List Value)) (row : List Value) → column_of column (rows ++ row ∷ []) ≡ column_of column rows ++ value_at row column ∷ []
column_more column rows row = map-append (λ r. value_at r column) rows (row ∷ [])

tally_first : (row : List Value) (agg : Agg) → tally (row ∷ []) agg ≡ first_tally row agg
tally_first row Count = refl
tally_first row (Sum column) = ap Total (single (above_zero (value_at row column)) (below_zero (value_at row column)) ∙ number_is (value_at row column))
tally_first row (Min column) = refl
tally_first row (Max column) = refl

tally_more : (first : List Value) (rows : List (List Value)) (row : List Value) (agg : Agg) → tally (first ∷ (rows ++ row ∷ [])) agg ≡ next_tally (tally (first ∷ rows) agg) (cell_of row agg)
tally_more first rows row Count = let n : suc (length (rows ++ row ∷ [])) ≡ suc (length rows) + 1 = omega (arith, length-append rows (row ∷ [])) in ap Rows n
tally_more first rows row (Sum column) = ap Total (ap sum_of (column_more column (first ∷ rows) row) ∙ sum_more (value_at row column) (column_of column (first ∷ rows)))
tally_more first rows row (Min column) = ap Least (ap (least_from (value_at first column)) (column_more column rows row) ∙ least_more (value_at first column) (value_at row column) (column_of column rows))
tally_more first rows row (Max column) = ap Greatest (ap (greatest_from (value_at first column)) (column_more column rows row) ∙ greatest_more (value_at first column) (value_at row column) (column_of column rows))

pub tallies_first : (row : List Value) (aggs : List Agg) → map (tally (row ∷ [])) aggs ≡ map (first_tally row) aggs
tallies_first row [] = refl
tallies_first row (agg ∷ aggs) = ap₂ (λ (t : Tally) (ts : List Tally). t ∷ ts) (tally_first row agg) (tallies_first row aggs)

pub tallies_more : (first : List Value) (rows : List (List Value)) (row : List Value) (aggs : List Agg) → map (tally (first ∷ (rows ++ row ∷ []))) aggs ≡ next_tallies row aggs (map (tally (first ∷ rows)) aggs)
tallies_more first rows row [] = refl
tallies_more first rows row (agg ∷ aggs) = ap₂ (λ (t : Tally) (ts : List Tally). t ∷ ts) (tally_more first rows row agg) (tallies_more first rows row aggs)

-- the states up to a place, and the one there
up_to : (row : List Value) (aggs : List Agg) (tallies : List Tally) (at : ℕ) (a : Agg) (t : Tally) → at < length aggs → at < length tallies
    → next_tallies row (take (suc at) aggs) (take (suc at) tallies) ≡ next_tallies row (take at aggs) (take at tallies) ++ next_tally (get_or tallies at t) (cell_of row (get_or aggs at a)) ∷ []
up_to row [] tallies at a t p q = absurd (omega arith)
up_to row (agg ∷ aggs) [] at a t p q = absurd (omega arith)
up_to row (agg ∷ aggs) (s ∷ tallies) zero a t p q = refl
up_to row (agg ∷ aggs) (s ∷ tallies) (suc at) a t p q = ap (λ (ts : List Tally). next_tally s (cell_of row agg) ∷ ts) (up_to row aggs tallies at a t (omega arith) (omega arith))

pub next_up_to : (row : List Value) (aggs : List Agg) (tallies : List Tally) (at : ℕ) (a : Agg) (t : Tally) → at < length aggs → at < length tallies
    → next_tallies row (take (at + 1) aggs) (take (at + 1) tallies) ≡ next_tallies row (take at aggs) (take at tallies) ++ next_tally (get_or tallies at t) (cell_of row (get_or aggs at a)) ∷ []
next_up_to row aggs tallies at a t p q = let n : at + 1 ≡ suc at = omega arith in ap (λ (k : ℕ). next_tallies row (take k aggs) (take k tallies)) n ∙ up_to row aggs tallies at a t p q

-- one state more
pub next_by : (row : List Value) (aggs : List Agg) (tallies made pushed : List Tally) (at : ℕ) (a : Agg) (t new : Tally) (cell : Option Value) → at < length aggs → length tallies ≡ length aggs
    → made ≡ next_tallies row (take at aggs) (take at tallies) → cell ≡ cell_of row (get_or aggs at a) → t ≡ get_or tallies at t → new ≡ next_tally t cell → pushed ≡ made ++ new ∷ []
    → pushed ≡ next_tallies row (take (at + 1) aggs) (take (at + 1) tallies)
next_by row aggs tallies made pushed at a t new cell lt long m c s n p =
    p ∙ (ap₂ (λ (ts : List Tally) (u : Tally). ts ++ u ∷ []) m (n ∙ ap₂ next_tally s c) ∙ sym (next_up_to row aggs tallies at a t lt (omega arith)))
