-- The answer of the join: each item joins with the bids on it, and a row is an item and a bid, end to end.
use Rattle.std.proofs.Common.{ℕ, ◌+◌, ◌*◌, ◌≤◌, ◌≡◌, Bool, true, false, cond, List, [], ◌∷◌, ◌++◌, map, filter, flat_map, length, refl, ap, ◌∙◌, inl, inr, arith}
use Rattle.std.proofs.lemmas.List.{length-map}
use Rattle.pj_value.specs.declared.values.Value.{Value}
use Rattle.pj_value.specs.Bags.{weigh}
use Rattle.pj_value.specs.Lists.{In}
use Rattle.pj_value.proofs.Bags.{weigh-flat_map, weigh-le, weigh-map}
use Rattle.pj_value.proofs.Members.{In-filter, In-flat_map, In-map}
use Rattle.pj_value.proofs.Orders.{equal_if_same}
use Rattle.pj_shape.specs.declared.joins.ClassCol.{ClassCol}
use Rattle.pj_shape.specs.Lists.{product}
use Rattle.pj_shape.specs.Joining.{Part, join_answer, joined_row, joins, parts_from, value_at}
use Rattle.pj_shape.proofs.Joining.{joins-at}
use Rattle.pj_algebra.specs.Worked.{at}
use Rattle.pj_make_laws.proofs.Bids.{of_item}

abbrev pub classes : List (List ClassCol)
classes = (at 0 0 ∷ at 1 0 ∷ []) ∷ []

abbrev of_items : List Value → Part
of_items row = record { input = 0; row = row }

abbrev of_bids : List Value → Part
of_bids row = record { input = 1; row = row }

-- one where an item and a bid join
abbrev pair : List Value → List Value → ℕ
pair item bid = cond (joins classes (of_items item ∷ of_bids bid ∷ [])) 1 0

kept_weigh : {A : Type 0} (p : A → Bool) (xs : List A) → length (filter p xs) ≡ weigh (λ x. cond (p x) 1 0) xs
kept_weigh p [] = refl
kept_weigh {A} p (x ∷ xs) = go (p x) (kept_weigh p xs)
  where
    go : (b : Bool) → length (filter p xs) ≡ weigh (λ (y : A). cond (p y) 1 0) xs → length (cond b (x ∷ filter p xs) (filter p xs)) ≡ cond b 1 0 + weigh (λ (y : A). cond (p y) 1 0) xs
    go true ih = omega (arith, ih)
    go false ih = omega (arith, ih)

-- each list weighs so much at most where each of its items does
weighs_most : {A : Type 0} (f : A → ℕ) (most : ℕ) (xs : List A) → ((x : A) → f x ≤ most) → weigh f xs ≤ most * length xs
weighs_most f most [] le = omega arith
weighs_most f most (x ∷ xs) le = omega (arith, le x, weighs_most f most xs le)

pair_counts : (item bid : List Value) → pair item bid ≤ of_item (value_at item 0) bid
pair_counts item bid = go (joins classes (of_items item ∷ of_bids bid ∷ [])) refl
  where
    go : (b : Bool) → joins classes (of_items item ∷ of_bids bid ∷ []) ≡ b → cond b 1 0 ≤ of_item (value_at item 0) bid
    go true e =
        let same : value_at item 0 ≡ value_at bid 0 = joins-at classes (of_items item ∷ of_bids bid ∷ []) e (at 0 0 ∷ at 1 0 ∷ []) (inl refl) (value_at item 0) (value_at bid 0) (inl refl) (inr (inl refl)) in
        let one : of_item (value_at item 0) bid ≡ 1 = ap (λ (t : Bool). cond t 1 0) (equal_if_same (value_at item 0) (value_at bid 0) same) in
        omega (arith, one)
    go false e = omega arith

-- the answer has a row for each pair that joins
answer_pairs : (items bids : List (List Value)) → length (join_answer classes (items ∷ bids ∷ [])) ≡ weigh (λ item. weigh (pair item) bids) items
answer_pairs items bids =
    length-map (filter (joins classes) (product (parts_from 0 (items ∷ bids ∷ [])))) joined_row
    ∙ (kept_weigh (joins classes) (product (parts_from 0 (items ∷ bids ∷ [])))
    ∙ (weigh-flat_map joined (λ (p : Part). map (λ (ps : List Part). p ∷ ps) others) (map of_items items)
    ∙ (weigh-map (λ (p : Part). weigh joined (map (λ (ps : List Part). p ∷ ps) others)) of_items items
    ∙ each items)))
  where
    joined : List Part → ℕ
    joined ps = cond (joins classes ps) 1 0

    others : List (List Part)
    others = flat_map (λ (p : Part). (p ∷ []) ∷ []) (map of_bids bids)

    one : (item : List Value) (bs : List (List Value)) → weigh joined (map (λ (ps : List Part). of_items item ∷ ps) (flat_map (λ (p : Part). (p ∷ []) ∷ []) (map of_bids bs))) ≡ weigh (pair item) bs
    one item [] = refl
    one item (b ∷ bs) = ap (λ (n : ℕ). pair item b + n) (one item bs)

    each : (is : List (List Value)) → weigh (λ item. weigh joined (map (λ (ps : List Part). of_items item ∷ ps) others)) is ≡ weigh (λ item. weigh (pair item) bids) is
    each [] = refl
    each (i ∷ is) = omega (arith, one i bids, each is)

-- where no item has more than two bids, the answer has no more than two rows for each item
pub answer_length : (items bids : List (List Value)) → ((item : Value) → weigh (of_item item) bids ≤ 2) → length (join_answer classes (items ∷ bids ∷ [])) ≤ 2 * length items
answer_length items bids few =
    omega (arith, answer_pairs items bids, weighs_most (λ item. weigh (pair item) bids) 2 items (λ item. pairs item))
  where
    pairs : (item : List Value) → weigh (pair item) bids ≤ 2
    pairs item = omega (arith, few (value_at item 0), weigh-le (pair item) (of_item (value_at item 0)) bids (λ bid h. pair_counts item bid))

-- ---- its rows

-- the row of an item and a bid
abbrev pub IsPair : List (List Value) → List (List Value) → List Value → Type 0
IsPair items bids row = (item : List Value) × (bid : List Value) × In item items × In bid bids × (item ++ (bid ++ []) ≡ row)

pub answer_pair : (items bids : List (List Value)) (row : List Value) → In row (join_answer classes (items ∷ bids ∷ [])) → IsPair items bids row
answer_pair items bids row h =
    let joined = In-map joined_row row (filter (joins classes) (product (parts_from 0 (items ∷ bids ∷ [])))) h in
    let first = In-flat_map (λ (p : Part). map (λ (ps : List Part). p ∷ ps) others) joined.0 (map of_items items) (In-filter (joins classes) joined.0 (product (parts_from 0 (items ∷ bids ∷ []))) joined.1).0 in
    let behind = In-map (λ (ps : List Part). first.0 ∷ ps) joined.0 others first.2 in
    let second = In-flat_map (λ (p : Part). (p ∷ []) ∷ []) behind.0 (map of_bids bids) behind.1 in
    let item = In-map of_items first.0 items first.1 in
    let bid = In-map of_bids second.0 bids second.1 in
    (item.0, bid.0, item.1, bid.1, ends item.0 bid.0 first.0 second.0 behind.0 joined.0 item.2 bid.2 (only second.0 behind.0 second.2) behind.2 joined.2)
  where
    others : List (List Part)
    others = flat_map (λ (p : Part). (p ∷ []) ∷ []) (map of_bids bids)

    only : (p : Part) (ps : List Part) → In ps ((p ∷ []) ∷ []) → p ∷ [] ≡ ps
    only p ps (inl e) = e
    only p ps (inr none) = absurd none

    ends : (item bid : List Value) (p q : Part) (ps all : List Part) → of_items item ≡ p → of_bids bid ≡ q → q ∷ [] ≡ ps → p ∷ ps ≡ all → joined_row all ≡ row → item ++ (bid ++ []) ≡ row
    ends item bid p q ps all e f g h is = let same : of_items item ∷ of_bids bid ∷ [] ≡ all = cc in ap joined_row same ∙ is
