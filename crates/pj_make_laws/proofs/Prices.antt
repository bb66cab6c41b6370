-- The prices of bids are small, and so is a price in a row of the join.
use Rattle.std.proofs.Common.{ℕ, zero, suc, ◌≤◌, ◌≡◌, List, [], ◌∷◌, ◌++◌, Some, length, ap, ◌∙◌, sym, subst, append-nil, arith}
use Rattle.pj_value.specs.declared.values.Value.{Value}
use Rattle.pj_value.specs.Lists.{In}
use Rattle.pj_shape.specs.Joining.{join_answer, value_at}
use Rattle.pj_pattern.specs.Elements.{rows_of}
use Rattle.pj_element.specs.Accepted.{fates_of, taken_of}
use Rattle.pj_algebra.specs.Worked.{bid_columns}
use Rattle.pj_report.specs.Sums.{IsSmallNumber, number_in}
use Rattle.pj_report.proofs.Exact.{excess, small_without}
use Rattle.pj_make.specs.Inputs.{bids_text, bids_up_to}
use Rattle.pj_make_laws.proofs.Lengths.{drawn_small}
use Rattle.pj_make_laws.proofs.Lines.{nothing_said, weighs_within}
use Rattle.pj_make_laws.proofs.Bids.{Say, accepted_bids, more_say}
use Rattle.pj_make_laws.proofs.Joins.{answer_pair, classes}

-- the number in a cell is from 0 to 2^31; that of a text is 0
abbrev pub IsSmallCell : Value → Type 0
IsSmallCell v = IsSmallNumber (number_in (Some v))

-- nothing where the price of a bid is small
abbrev price_over : List Value → ℕ
price_over bid = excess (number_in (Some (value_at bid 1)))

none_over : (seed count : ℕ) → count ≤ 1000000 → Say price_over (bids_up_to seed count) 0
none_over seed zero few = nothing_said price_over bid_columns
none_over seed (suc count) few = more_say price_over seed count 0 0 few (λ state. omega (arith, drawn_small state)) (none_over seed count (omega (arith, few)))

pub small_price : (seed count : ℕ) → count ≤ 1000000 → (bid : List Value) → In bid (rows_of (taken_of (fates_of bid_columns (bids_text seed count)))) → IsSmallCell (value_at bid 1)
small_price seed count few bid h =
    let over : price_over bid ≤ 0 = omega (arith, weighs_within price_over bid (rows_of (taken_of (fates_of bid_columns (bids_text seed count)))) h, accepted_bids price_over seed count 0 few (none_over seed count few)) in
    small_without (number_in (Some (value_at bid 1))) (omega (arith, over))

-- behind an item of two cells the bid's second is the fourth
fourth : (item bid : List Value) → length item ≡ 2 → value_at (item ++ (bid ++ [])) 3 ≡ value_at bid 1
fourth [] bid two = absurd (omega (arith, two))
fourth (a ∷ []) bid two = absurd (omega (arith, two))
fourth (a ∷ b ∷ []) bid two = ap (λ (cells : List Value). value_at cells 1) (append-nil bid)
fourth (a ∷ b ∷ c ∷ more) bid two = absurd (omega (arith, two))

-- where items have two cells, and the prices of bids are small, so are those of the rows that join
pub joined_price : (items bids : List (List Value)) → ((item : List Value) → In item items → length item ≡ 2) → ((bid : List Value) → In bid bids → IsSmallCell (value_at bid 1))
    → (joined : List Value) → In joined (join_answer classes (items ∷ bids ∷ [])) → IsSmallCell (value_at joined 3)
joined_price items bids two small joined h =
    let pair = answer_pair items bids joined h in
    let same : value_at pair.1 1 ≡ value_at joined 3 = sym (fourth pair.0 pair.1 (two pair.0 pair.2)) ∙ ap (λ (cells : List Value). value_at cells 3) pair.4 in
    subst (λ (v : Value). IsSmallCell v) same (small pair.1 pair.3)
