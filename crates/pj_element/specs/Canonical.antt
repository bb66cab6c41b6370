-- The canonical line of a row, place by place.
use Rattle.std.specs.Prelude.{ℕ, ◌≡◌, ◌≤◌, true, List, ◌++◌, length, take}
use Rattle.pj_value.specs.declared.values.Value.{Value}
use Rattle.pj_value.specs.Texts.{values_spelling}
use Rattle.pj_shape.specs.declared.columns.Column.{Column}
use Rattle.pj_shape.specs.Columns.{domains_of}
use Rattle.pj_pattern.specs.Fitting.{row_fits}

-- this piece stands in the bytes from one place to the other
pub record StandsAt (bytes : List ℕ) (from end : ℕ) (piece : List ℕ) : Type 0 where
  pub within : end ≤ length bytes
  pub front : take end bytes ≡ take from bytes ++ piece

-- the bytes are the canonical spellings of these values, which fit the columns, each behind a space
pub record AreSpelled (columns : List Column) (bytes : List ℕ) (values : List Value) : Type 0 where
  pub spelled : bytes ≡ values_spelling values
  pub fit : row_fits (domains_of columns) values ≡ true
