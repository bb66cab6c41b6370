-- The value in a column of a row.
use Rattle.std.proofs.Common.{◌≡◌, ℕ, zero, suc, List, [], ◌∷◌, Option, Some, None, sym, refl}
use Rattle.std.specs.List.{slice_get}
use Rattle.std.proofs.lemmas.Option.{get_or_from_slice_get}
use Rattle.pj_value.specs.declared.values.Value.{Value}
use Rattle.pj_shape.specs.Joining.{cell_value, no_value, value_at}

pub cell_there : (row : List Value) (column : ℕ) (v : Value) → Some v ≡ slice_get row column → value_at row column ≡ v
cell_there row column v e = get_or_from_slice_get row column v no_value (sym e)

pub cell_missing : (row : List Value) (column : ℕ) → None ≡ slice_get row column → value_at row column ≡ no_value
cell_missing [] column e = refl
cell_missing (v ∷ row) zero e = absurd (cc)
cell_missing (v ∷ row) (suc column) e = cell_missing row column e

-- what is read of a row is the value in its column
pub cell_read : (row : List Value) (column : ℕ) (cell : Option Value) → cell ≡ slice_get row column → cell_value cell ≡ value_at row column
cell_read row column None e = sym (cell_missing row column e)
cell_read row column (Some v) e = sym (cell_there row column v e)
