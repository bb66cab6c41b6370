-- The kinds of columns.
use Rattle.std.proofs.Common.{◌≡◌, suc, List, [], ◌∷◌, length, refl, ap}
use Rattle.pj_shape.specs.declared.columns.Column.{Column}
use Rattle.pj_shape.specs.Columns.{domains_of}

pub domains_length : (columns : List Column) → length (domains_of columns) ≡ length columns
domains_length [] = refl
domains_length (column ∷ columns) = ap suc (domains_length columns)
