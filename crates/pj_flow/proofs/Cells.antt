-- The value of a column.
use Rattle.std.proofs.Common.{ℕ, List, ◌≡◌, Some}
use Rattle.std.specs.List.{slice_get}
use Rattle.std.proofs.lemmas.Option.{get_or_from_slice_get}
use Rattle.pj_value.specs.declared.values.Value.{Value}
use Rattle.pj_shape.specs.Joining.{no_value, value_at}

pub cell_is : (row : List Value) (column : ℕ) (v : Value) → slice_get row column ≡ Some v → value_at row column ≡ v
cell_is row column v e = get_or_from_slice_get row column v no_value e
