-- The group of a made plan: it has no more rows than came, and the highest price of small ones is small.
use Rattle.std.proofs.Common.{suc, ◌≤◌, Bool, true, false, cond, List, [], ◌∷◌, filter, length, refl, subst, inl, inr, arith}
use Rattle.std.specs.List.{list_any}
use Rattle.std.specs.Ordering.{is_gt}
use Rattle.std.proofs.lemmas.List.{length-map}
use Rattle.pj_value.specs.declared.values.Value.{Value}
use Rattle.pj_value.specs.Lists.{In}
use Rattle.pj_value.specs.Values.{row_eq, value_cmp}
use Rattle.pj_value.proofs.Members.{In-filter, In-map}
use Rattle.pj_shape.specs.declared.groups.Agg.TheVariants.{Count, Max}
use Rattle.pj_shape.specs.declared.groups.GroupSpec.{GroupSpec}
use Rattle.pj_shape.specs.Joining.{value_at}
use Rattle.pj_events.specs.Operators.{column_of, greater, greatest_from, greatest_of, group_row, group_rows, keys_from, picked_cells}
use Rattle.pj_events.proofs.Keys.{key-from}
use Rattle.pj_report.specs.Sums.{HasSmallEnds, IsSmallNumber, last_number}
use Rattle.pj_report.proofs.Exact.{ends_where}
use Rattle.pj_make_laws.proofs.Prices.{IsSmallCell}

-- how many bids an item has, and the highest
abbrev pub tops : GroupSpec
tops = record { keys = 0 ∷ []; aggs = Count ∷ Max 3 ∷ [] }

-- ---- how many rows

keys_few : (seen : List (List Value)) (spec : GroupSpec) (rows : List (List Value)) → length (keys_from seen spec rows) ≤ length rows
keys_few seen spec [] = omega arith
keys_few seen spec (row ∷ rows) = go (list_any (row_eq key) seen) (keys_few seen spec rows) (keys_few (key ∷ seen) spec rows)
  where
    key : List Value
    key = picked_cells spec.keys row

    go : (b : Bool) → length (keys_from seen spec rows) ≤ length rows → length (keys_from (key ∷ seen) spec rows) ≤ length rows
        → length (cond b (keys_from seen spec rows) (key ∷ keys_from (key ∷ seen) spec rows)) ≤ suc (length rows)
    go true f g = omega (arith, f)
    go false f g = omega (arith, g)

pub groups_few : (spec : GroupSpec) (rows : List (List Value)) → length (group_rows spec rows) ≤ length rows
groups_few spec rows = omega (arith, length-map (keys_from [] spec rows) (group_row spec rows), keys_few [] spec rows)

-- ---- the highest price

either_small : (v w : Value) → IsSmallCell v → IsSmallCell w → IsSmallCell (greater v w)
either_small v w one other = go (is_gt (value_cmp v w))
  where
    go : (b : Bool) → IsSmallCell (cond b v w)
    go true = one
    go false = other

greatest_small : (v : Value) (vs : List Value) → IsSmallCell v → ((w : Value) → In w vs → IsSmallCell w) → IsSmallCell (greatest_from v vs)
greatest_small v [] one others = one
greatest_small v (w ∷ ws) one others = greatest_small (greater v w) ws (either_small v w one (others w (inl refl))) (λ x h. others x (inr h))

top_small : (vs : List Value) → ((v : Value) → In v vs → IsSmallCell v) → IsSmallCell (greatest_of vs)
top_small [] all = omega arith
top_small (v ∷ vs) all = greatest_small v vs (all v (inl refl)) (λ w h. all w (inr h))

-- where the prices of these rows are small, so are those in the last column of the answer
pub tops_small : (rows : List (List Value)) → ((cells : List Value) → In cells rows → IsSmallCell (value_at cells 3)) → HasSmallEnds (group_rows tops rows)
tops_small rows small = ends_where (group_rows tops rows) each
  where
    prices : List Value → List Value
    prices key = column_of 3 (filter (λ row. row_eq key (picked_cells (0 ∷ []) row)) rows)

    price : (key : List Value) (v : Value) → In v (prices key) → IsSmallCell v
    price key v h =
        let of = In-map (λ cells. value_at cells 3) v (filter (λ row. row_eq key (picked_cells (0 ∷ []) row)) rows) h in
        subst (λ (w : Value). IsSmallCell w) of.2 (small of.0 (In-filter (λ row. row_eq key (picked_cells (0 ∷ []) row)) of.0 rows of.1).0)

    each : (row : List Value) → In row (group_rows tops rows) → IsSmallNumber (last_number row)
    each row h =
        let of = In-map (group_row tops rows) row (keys_from [] tops rows) h in
        let first = key-from [] tops rows of.0 of.1 in
        let key = value_at first.0 0 ∷ [] in
        subst (λ (r : List Value). IsSmallNumber (last_number r)) of.2
        (subst (λ (k : List Value). IsSmallNumber (last_number (group_row tops rows k))) first.2 (top_small (prices key) (price key)))
