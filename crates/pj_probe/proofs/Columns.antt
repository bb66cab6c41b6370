-- The columns of rows end to end.
use Rattle.std.proofs.Common.{◌≡◌, ℕ, ◌+◌, ◌-◌, ◌<◌, ◌≤◌, List, Some, None, length, drop, get_or, ap, sym, ◌∙◌}
use Rattle.std.specs.List.{slice_get}
use Rattle.std.proofs.lemmas.List.{drop_all}
use Rattle.std.proofs.lemmas.Option.{get_or_from_slice_get, slice_get_within}
use Rattle.pj_events.specs.Join.{Value}
use Rattle.pj_probe.specs.Walks.{end_to_end, itself}
use Rattle.pj_value.proofs.Slices.{item_here, item_behind}

it-is : (rows : List (List Value)) (i : ℕ) (row : List Value) → slice_get rows i ≡ Some row → row ≡ get_or rows i row
it-is rows i row e = sym (get_or_from_slice_get rows i row row e)

-- the value stands in this row
pub value-here : (rows : List (List Value)) (i at left : ℕ) (row : List Value) (v : Value)
    → slice_get (end_to_end rows) at ≡ slice_get (end_to_end (drop i rows)) left → slice_get rows i ≡ Some row → left < length row → slice_get row left ≡ Some v
    → slice_get (end_to_end rows) at ≡ Some v
value-here rows i at left row v before is here there =
    item_here itself rows i at left row before (slice_get_within rows i row is) (it-is rows i row is) here ∙ there

-- it stands behind this row
pub value-behind : (rows : List (List Value)) (i at left : ℕ) (row : List Value)
    → slice_get (end_to_end rows) at ≡ slice_get (end_to_end (drop i rows)) left → slice_get rows i ≡ Some row → length row ≤ left
    → slice_get (end_to_end rows) at ≡ slice_get (end_to_end (drop (i + 1) rows)) (left - length row)
value-behind rows i at left row before is behind =
    item_behind itself rows i at left row before (slice_get_within rows i row is) (it-is rows i row is) behind

-- no value stands behind the last row
pub none-behind : (rows : List (List Value)) (i at left : ℕ) → slice_get (end_to_end rows) at ≡ slice_get (end_to_end (drop i rows)) left → length rows ≤ i → slice_get (end_to_end rows) at ≡ None
none-behind rows i at left before le = before ∙ ap (λ (rs : List (List Value)). slice_get (end_to_end rs) left) (drop_all i rows le)
