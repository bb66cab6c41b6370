-- How many elements come to the nodes of the plan of a made input.
use Rattle.std.proofs.Common.{ℕ, zero, suc, ◌+◌, ◌*◌, ◌^◌, ◌≤◌, ◌≡◌, List, [], ◌∷◌, ◌++◌, length, length-append, append-nil, ap, ◌∙◌, arith}
use Rattle.std.proofs.lemmas.List.{length-map}
use Rattle.pj_value.specs.declared.values.Value.{Value}
use Rattle.pj_value.specs.Bags.{weigh}
use Rattle.pj_shape.specs.Joining.{join_answer}
use Rattle.pj_pattern.specs.Patterns.{Pattern}
use Rattle.pj_pattern.specs.Elements.{rows_of}
use Rattle.pj_element.specs.Accepted.{fates_of, taken_of}
use Rattle.pj_algebra.specs.Answers.{elements_to, widened_from}
use Rattle.pj_algebra.specs.Worked.{bid_columns, item_columns}
use Rattle.pj_make.specs.Inputs.{bids_text, items_text}
use Rattle.pj_make_laws.specs.Made.{AreFewPuncts, MadeIsWithinLimits, made_nodes}
use Rattle.pj_make_laws.proofs.Lengths.{bids_short, items_short}
use Rattle.pj_make_laws.proofs.Punctuations.{accepted_few}
use Rattle.pj_make_laws.proofs.Bids.{few_bids, of_item}
use Rattle.pj_make_laws.proofs.Joins.{answer_length, classes}

widened_length : (widths : List ℕ) (first second : List (List Pattern)) → length (widened_from widths 0 (first ∷ second ∷ [])) ≡ length first + length second
widened_length widths first second = simp (length-append, length-map, append-nil)

-- where no item has more than two bids, and all these are few, few elements come to each node
module _ (items bids : List (List Value)) (first second : List (List Pattern)) (others : List (List (List Pattern))) where
  few_at_join : length items ≤ 60000000 → length bids ≤ 60000000 → length first ≤ 2 ^ 31 → length second ≤ 2 ^ 31 → elements_to made_nodes (items ∷ bids ∷ []) (first ∷ second ∷ others) 2 ≤ 2 ^ 40
  few_at_join i b f s = simp (length-append, append-nil) (omega (arith, i, b, f, s))

  few_at_group : length items ≤ 60000000 → ((item : Value) → weigh (of_item item) bids ≤ 2) → length first ≤ 2 ^ 31 → length second ≤ 2 ^ 31 → elements_to made_nodes (items ∷ bids ∷ []) (first ∷ second ∷ others) 3 ≤ 2 ^ 40
  few_at_group i two f s = most (length (answer ++ [])) (length (widened ++ [])) (ap length (append-nil answer)) (ap length (append-nil widened) ∙ widened_length (2 ∷ 2 ∷ []) first second) (answer_length items bids two)
    where
      answer : List (List Value)
      answer = join_answer classes (items ∷ bids ∷ [])

      widened : List (List Pattern)
      widened = widened_from (2 ∷ 2 ∷ []) 0 (first ∷ second ∷ [])

      most : (rows puncts : ℕ) → rows ≡ length answer → puncts ≡ length first + length second → length answer ≤ 2 * length items → rows + puncts ≤ 2 ^ 40
      most rows puncts r p le = omega (arith, r, p, le, i, f, s)

  few_come : length items ≤ 60000000 → length bids ≤ 60000000 → ((item : Value) → weigh (of_item item) bids ≤ 2) → length first ≤ 2 ^ 31 → length second ≤ 2 ^ 31
      → (node : ℕ) → elements_to made_nodes (items ∷ bids ∷ []) (first ∷ second ∷ others) node ≤ 2 ^ 40
  few_come i b two f s zero = omega arith
  few_come i b two f s (suc zero) = omega arith
  few_come i b two f s (suc (suc zero)) = few_at_join i b f s
  few_come i b two f s (suc (suc (suc zero))) = few_at_group i two f s
  few_come i b two f s (suc (suc (suc (suc node)))) = omega arith

pub made_is_within_limits : (seed count : ℕ) → count ≤ 1000000 → MadeIsWithinLimits seed count
made_is_within_limits seed count few puncts small = go puncts small
  where
    items : List (List Value)
    items = rows_of (taken_of (fates_of item_columns (items_text count)))

    bids : List (List Value)
    bids = rows_of (taken_of (fates_of bid_columns (bids_text seed count)))

    each : (first second : List (List Pattern)) (others : List (List (List Pattern))) → length first ≤ 2 ^ 31 → length second ≤ 2 ^ 31 → (node : ℕ) → elements_to made_nodes (items ∷ bids ∷ []) (first ∷ second ∷ others) node ≤ 2 ^ 40
    each first second others f s =
        few_come items bids first second others (omega (arith, accepted_few item_columns (items_text count), items_short count few)) (omega (arith, accepted_few bid_columns (bids_text seed count), bids_short seed count few))
        (λ item. few_bids item seed count few) f s

    go : (puncts : List (List (List Pattern))) → AreFewPuncts puncts → (node : ℕ) → elements_to made_nodes (items ∷ bids ∷ []) puncts node ≤ 2 ^ 40
    go [] small = each [] [] [] (omega arith) (omega arith)
    go (first ∷ []) small = each first [] [] small.0 (omega arith)
    go (first ∷ second ∷ others) small = each first second others small.0 small.1.0
