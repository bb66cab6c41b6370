-- What the lines of bids say, and how much those weigh that are accepted: of no item are more than two.
use Rattle.std.proofs.Common.{ℕ, zero, suc, ◌+◌, ◌-◌, ◌≤◌, ◌<◌, ◌≡◌, Bool, true, false, cond, nat_lt, List, [], ◌∷◌, ◌++◌, length, length-append, refl, ap, sym, ◌∙◌, subst, append_assoc, append-nil, arith}
use Rattle.std.specs.List.{All}
use Rattle.std.specs.Fmt.{decimal}
use Rattle.std.proofs.lemmas.Bool.{false_from_ne_true}
use Rattle.std.proofs.lemmas.Int.{ints}
use Rattle.std.proofs.lemmas.List.Elements.{All-append, All-cons}
use Rattle.pj_value.specs.declared.values.Value.{Value}
use Rattle.pj_value.specs.Bags.{weigh}
use Rattle.pj_value.specs.Laws.{IsPrintable}
use Rattle.pj_value.specs.Values.{value_eq}
use Rattle.pj_value.specs.Storable.{IsInBounds}
use Rattle.pj_value.proofs.Orders.{same_if_equal}
use Rattle.pj_value.proofs.Printable.{spelling_is}
use Rattle.pj_shape.specs.Joining.{value_at}
use Rattle.pj_pattern.specs.Patterns.{Pattern}
use Rattle.pj_pattern.specs.declared.pattern.Form.TheVariants.{Wild}
use Rattle.pj_pattern.specs.Elements.{rows_of}
use Rattle.pj_element.specs.declared.element.Read.TheVariants.{Tuple, Punct}
use Rattle.pj_element.specs.Accepted.{fates_of, taken_of}
use Rattle.pj_element.specs.Elements.{punct_line, reading_at, row_line}
use Rattle.pj_element.proofs.Feeds.{punct_no_feed, row_no_feed}
use Rattle.pj_element.proofs.LinesAgain.{punct_again, row_again}
use Rattle.pj_algebra.specs.Worked.{bid_columns, int, is}
use Rattle.pj_make.specs.Draws.{drawn, next_state, state_after}
use Rattle.pj_make.specs.Inputs.{bids_text, bids_up_to, closed_at, closed_up_to, closing_line, tuple_line, two_bids}
use Rattle.pj_make_laws.proofs.Lengths.{bid_length, closing_length, drawn_small}
use Rattle.pj_make_laws.proofs.Lines.{SayAtMost, accepted_among, all_said, both_said, line_said, nothing_said, read_whole}

-- ---- lines

abbrev pub bid_row : ℕ → ℕ → List Value
bid_row number price = int number ∷ int price ∷ []

abbrev closing : ℕ → List Pattern
closing number = is number ∷ Wild ∷ []

bid_line : (number price : ℕ) → tuple_line number (decimal price) ≡ row_line (bid_row number price) ++ 10 ∷ []
bid_line number price =
    ap (λ (cells : List ℕ). 116 ∷ 32 ∷ (cells ++ 10 ∷ []))
    (append_assoc (decimal number) (32 ∷ []) (decimal price) ∙ ap (λ (cell : List ℕ). decimal number ++ (32 ∷ cell)) (sym (append-nil (decimal price))))

closing_is : (number : ℕ) → closing_line number ≡ punct_line (closing number) ++ 10 ∷ []
closing_is number = ap (λ (bytes : List ℕ). 112 ∷ 32 ∷ bytes) (sym (append_assoc (decimal number) (32 ∷ 42 ∷ []) (10 ∷ [])))

in_bounds : (number : ℕ) → number ≤ 1000000 → IsInBounds (int number)
in_bounds number few = (omega (arith, ints), omega (arith, ints))

none : All IsPrintable []
none k d h = absurd (omega arith)

cell_printable : (cell more : List ℕ) → All IsPrintable cell → All IsPrintable more → All IsPrintable (32 ∷ (cell ++ more))
cell_printable cell more one others = All-cons IsPrintable 32 (cell ++ more) (omega arith, λ e. omega (arith, e)) (All-append IsPrintable cell more one others)

bid_printable : (number price : ℕ) → All IsPrintable (row_line (bid_row number price))
bid_printable number price =
    All-cons IsPrintable 116 (32 ∷ (decimal number ++ (32 ∷ (decimal price ++ [])))) (omega arith, λ e. omega (arith, e))
    (cell_printable (decimal number) (32 ∷ (decimal price ++ [])) (spelling_is (int number)) (cell_printable (decimal price) [] (spelling_is (int price)) none))

closing_printable : (number : ℕ) → All IsPrintable (punct_line (closing number))
closing_printable number =
    All-cons IsPrintable 112 (32 ∷ (decimal number ++ (32 ∷ 42 ∷ []))) (omega arith, λ e. omega (arith, e))
    (cell_printable (decimal number) (32 ∷ 42 ∷ []) (spelling_is (int number)) (cell_printable (42 ∷ []) [] (All-cons IsPrintable 42 [] (omega arith, λ e. omega (arith, e)) none) none))

bid_read : (number state : ℕ) → number ≤ 1000000 → reading_at bid_columns (row_line (bid_row number (drawn state))) ≡ Tuple (bid_row number (drawn state))
bid_read number state few =
    let long = ap length (bid_line number (drawn state)) in
    read_whole bid_columns (row_line (bid_row number (drawn state))) (bid_printable number (drawn state)) (omega (arith, bid_length number state few, long, length-append (row_line (bid_row number (drawn state))) (10 ∷ [])))
    ∙ row_again (bid_row number (drawn state)) (in_bounds number few, (in_bounds (drawn state) (omega (arith, drawn_small state)), tt)) bid_columns (omega arith) refl

closing_read : (number : ℕ) → number ≤ 1000000 → reading_at bid_columns (punct_line (closing number)) ≡ Punct (closing number)
closing_read number few =
    let long = ap length (closing_is number) in
    read_whole bid_columns (punct_line (closing number)) (closing_printable number) (omega (arith, closing_length number few, long, length-append (punct_line (closing number)) (10 ∷ [])))
    ∙ punct_again (closing number) (in_bounds number few, (tt, tt)) bid_columns (omega arith) refl

-- ---- how much the rows weigh that bids say

abbrev pub Say : (List Value → ℕ) → List ℕ → ℕ → Type 0
Say f bytes most = SayAtMost f bid_columns bytes most

-- the bids on the item of this number weigh so much each at most
abbrev pub BidsWeigh : (List Value → ℕ) → ℕ → ℕ → Type 0
BidsWeigh f number most = (state : ℕ) → f (bid_row number (drawn state)) ≤ most

bid_says : (f : List Value → ℕ) (number state : ℕ) → number ≤ 1000000 → Say f (tuple_line number (decimal (drawn state))) (f (bid_row number (drawn state)))
bid_says f number state few =
    subst (λ (bytes : List ℕ). Say f bytes (f (bid_row number (drawn state)))) (sym (bid_line number (drawn state)))
    (line_said f bid_columns (row_line (bid_row number (drawn state))) (Tuple (bid_row number (drawn state))) (row_no_feed (bid_row number (drawn state))) (bid_read number state few))

two_say : (f : List Value → ℕ) (state number n : ℕ) → number ≤ 1000000 → BidsWeigh f number n → Say f (two_bids state number) (n + n)
two_say f state number n few each =
    let first = next_state state in
    let second = next_state first in
    both_said f bid_columns (tuple_line number (decimal (drawn first))) (tuple_line number (decimal (drawn second))) (f (bid_row number (drawn first))) (f (bid_row number (drawn second))) (n + n) (omega (arith, each first, each second))
    (bid_says f number first few) (bid_says f number second few)

closing_says : (f : List Value → ℕ) (number : ℕ) → number ≤ 1000000 → Say f (closing_line number) 0
closing_says f number few =
    subst (λ (bytes : List ℕ). Say f bytes 0) (sym (closing_is number))
    (line_said f bid_columns (punct_line (closing number)) (Punct (closing number)) (punct_no_feed (closing number)) (closing_read number few))

closed_say : (f : List Value → ℕ) (b : Bool) (number : ℕ) → number ≤ 1000000 → Say f (cond b (closing_line number) []) 0
closed_say f true number few = closing_says f number few
closed_say f false number few = nothing_said f bid_columns

closings_say : (f : List Value → ℕ) (count upto : ℕ) → upto ≤ 1000000 → Say f (closed_up_to count upto) 0
closings_say f count zero few = nothing_said f bid_columns
closings_say f count (suc number) few =
    both_said f bid_columns (closed_up_to count number) (cond (nat_lt count (suc number + 10)) (closing_line (suc number)) []) 0 0 0 (omega arith) (closings_say f count number (omega (arith, few)))
    (closed_say f (nat_lt count (suc number + 10)) (suc number) few)

-- what the bids on one more item say
pub more_say : (f : List Value → ℕ) (seed count m n : ℕ) → suc count ≤ 1000000 → BidsWeigh f (suc count) n → Say f (bids_up_to seed count) m → Say f (bids_up_to seed (suc count)) (m + (n + n))
more_say f seed count m n few each before =
    let state = state_after seed (count + count) in
    both_said f bid_columns (bids_up_to seed count) (two_bids state (suc count) ++ closed_at (suc count)) m (n + n) (m + (n + n)) (omega arith) before
    (both_said f bid_columns (two_bids state (suc count)) (closed_at (suc count)) (n + n) 0 (n + n) (omega arith) (two_say f state (suc count) n few each) (closed_say f (nat_lt 10 (suc count)) (suc count - 10) (omega (arith, few))))

-- the rows that are accepted of the file of bids weigh no more than the bids say
pub accepted_bids : (f : List Value → ℕ) (seed count most : ℕ) → count ≤ 1000000 → Say f (bids_up_to seed count) most → weigh f (rows_of (taken_of (fates_of bid_columns (bids_text seed count)))) ≤ most
accepted_bids f seed count most few before =
    let say : Say f (bids_text seed count) most = both_said f bid_columns (bids_up_to seed count) (closed_up_to count count) most 0 most (omega arith) before (closings_say f count count few) in
    omega (arith, accepted_among f bid_columns (bids_text seed count), all_said f bid_columns (bids_text seed count) most say)

-- ---- how many rows are of one item

-- one where the row is of the item of this number
abbrev pub of_item : Value → List Value → ℕ
of_item item cells = cond (value_eq item (value_at cells 0)) 1 0

other_counts : (item : Value) (number : ℕ) → value_eq item (int number) ≡ false → BidsWeigh (of_item item) number 0
other_counts item number other state = let none : of_item item (bid_row number (drawn state)) ≡ 0 = ap (λ (b : Bool). cond b 1 0) other in omega (arith, none)

none_say : (item : Value) (seed count : ℕ) → count ≤ 1000000 → ((number : ℕ) → number ≤ count → value_eq item (int number) ≡ false) → Say (of_item item) (bids_up_to seed count) 0
none_say item seed zero few others = nothing_said (of_item item) bid_columns
none_say item seed (suc count) few others =
    more_say (of_item item) seed count 0 0 few (other_counts item (suc count) (others (suc count) (omega arith))) (none_say item seed count (omega (arith, few)) (λ number le. others number (omega (arith, le))))

-- an item has one number
other_number : (item : Value) (number other : ℕ) → value_eq item (int number) ≡ true → other < number → value_eq item (int other) ≡ false
other_number item number other is lt = false_from_ne_true (value_eq item (int other)) (λ t. differ (sym (same_if_equal item (int number) is) ∙ same_if_equal item (int other) t))
  where
    differ : int number ≡ int other → ⊥
    differ e = let same : number ≡ other = cc in omega (arith, same, lt)

one_counts : (item : Value) (number : ℕ) → BidsWeigh (of_item item) number 1
one_counts item number state = go (value_eq item (int number))
  where
    go : (b : Bool) → cond b 1 0 ≤ 1
    go true = omega arith
    go false = omega arith

few_say : (item : Value) (seed count : ℕ) → count ≤ 1000000 → Say (of_item item) (bids_up_to seed count) 2
few_say item seed zero few = λ more. omega arith
few_say item seed (suc count) few = go (value_eq item (int (suc count))) refl (few_say item seed count (omega (arith, few)))
  where
    go : (b : Bool) → value_eq item (int (suc count)) ≡ b → Say (of_item item) (bids_up_to seed count) 2 → Say (of_item item) (bids_up_to seed (suc count)) 2
    go true e before =
        more_say (of_item item) seed count 0 1 few (one_counts item (suc count))
        (none_say item seed count (omega (arith, few)) (λ number le. other_number item (suc count) number e (omega (arith, le))))
    go false e before = more_say (of_item item) seed count 2 0 few (other_counts item (suc count) e) before

-- whatever the item: at most two bids on it are accepted
pub few_bids : (item : Value) (seed count : ℕ) → count ≤ 1000000 → weigh (of_item item) (rows_of (taken_of (fates_of bid_columns (bids_text seed count)))) ≤ 2
few_bids item seed count few = accepted_bids (of_item item) seed count 2 few (few_say item seed count few)
