-- The answer over a made input is small, so its total is an exact sum.
use Rattle.std.proofs.Common.{ℕ, ◌^◌, ◌≤◌, List, [], ◌∷◌, length, sym, arith}
use Rattle.pj_value.specs.declared.values.Value.{Value}
use Rattle.pj_value.specs.Bags.{SameBag}
use Rattle.pj_shape.specs.Joining.{join_answer}
use Rattle.pj_pattern.specs.Elements.{rows_of}
use Rattle.pj_element.specs.Accepted.{fates_of, taken_of}
use Rattle.pj_events.specs.Operators.{group_rows}
use Rattle.pj_algebra.specs.Worked.{bid_columns, item_columns}
use Rattle.pj_report.specs.Sums.{HasSmallEnds}
use Rattle.pj_report.proofs.Exact.{ends_by_bag, rows_by_bag, totals_exact}
use Rattle.pj_make.specs.Inputs.{bids_text, items_text}
use Rattle.pj_make_laws.specs.Made.{MadeAnswerIsSmall, MadeTotalIsExact, made_answer}
use Rattle.pj_make_laws.proofs.Lengths.{items_short}
use Rattle.pj_make_laws.proofs.Punctuations.{accepted_few}
use Rattle.pj_make_laws.proofs.Lines.{accepted_width}
use Rattle.pj_make_laws.proofs.Bids.{few_bids}
use Rattle.pj_make_laws.proofs.Joins.{answer_length, classes}
use Rattle.pj_make_laws.proofs.Prices.{joined_price, small_price}
use Rattle.pj_make_laws.proofs.Groups.{groups_few, tops, tops_small}

pub made_answer_is_small : (seed count : ℕ) → count ≤ 1000000 → MadeAnswerIsSmall seed count
made_answer_is_small seed count few = record { few = short; ends = small }
  where
    items : List (List Value)
    items = rows_of (taken_of (fates_of item_columns (items_text count)))

    bids : List (List Value)
    bids = rows_of (taken_of (fates_of bid_columns (bids_text seed count)))

    joined : List (List Value)
    joined = join_answer classes (items ∷ bids ∷ [])

    short : length (group_rows tops joined) ≤ 2 ^ 31
    short = omega (arith, groups_few tops joined, answer_length items bids (λ item. few_bids item seed count few), accepted_few item_columns (items_text count), items_short count few)

    small : HasSmallEnds (group_rows tops joined)
    small = tops_small joined (joined_price items bids (accepted_width item_columns (items_text count)) (small_price seed count few))

-- what is that answer as a bag has an exact total
pub made_total_is_exact : (seed count : ℕ) → count ≤ 1000000 → MadeTotalIsExact seed count
made_total_is_exact seed count few outputs same =
    let small = made_answer_is_small seed count few in
    let back : SameBag (made_answer seed count) (rows_of outputs) = λ f. sym (same f) in
    totals_exact (rows_of outputs) (ends_by_bag (made_answer seed count) (rows_of outputs) back small.ends) (omega (arith, small.few, rows_by_bag (made_answer seed count) (rows_of outputs) back))
