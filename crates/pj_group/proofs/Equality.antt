-- Equality of keys.
use Rattle.std.proofs.Common.{ℕ, suc, Bool, List, ◌≡◌, ◌↔◌, IsTrue, Some, ◌+◌, ap, ap₂, ◌∙◌, drop, drop-cons, arith}
use Rattle.std.specs.Bool.{one_answer}
use Rattle.std.specs.List.{slice_get}
use Rattle.std.proofs.lemmas.Option.{get_or_from_slice_get, slice_get_within}
use Rattle.pj_value.specs.declared.values.Value.{Value}
use Rattle.pj_value.specs.Values.{row_eq}
use Rattle.pj_value.proofs.Orders.{row_equal_if_same, row_same_if_equal}
use Rattle.pj_hash.specs.Hashes.{with_value, with_values}

pub same_is : (r : Bool) (x y : List Value) → IsTrue r ↔ (x ≡ y) → r ≡ row_eq x y
same_is r x y h = one_answer r (row_eq x y) h (row_same_if_equal x y, row_equal_if_same x y)

-- the hash of a row, one value further
pub hash_more : (row : List Value) (hash_value at : ℕ) (v : Value) → slice_get row at ≡ Some v → with_values hash_value (drop at row) ≡ with_values (with_value hash_value v) (drop (at + 1) row)
hash_more row hash_value at v e =
    let next : suc at ≡ at + 1 = omega arith in
    ap (with_values hash_value) (drop-cons row at v (slice_get_within row at v e))
    ∙ ap₂ (λ (w : Value) (k : ℕ). with_values (with_value hash_value w) (drop k row)) (get_or_from_slice_get row at v v e) next
