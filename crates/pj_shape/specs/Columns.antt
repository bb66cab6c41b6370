-- Which values fit columns.
use Rattle.std.specs.Prelude.{List, [], ◌∷◌}
use Rattle.pj_value.specs.Values.{Domain}
use Rattle.pj_shape.specs.declared.columns.Column.{Column}

-- the values of a column are of its kind
abbrev pub domain_of : Column → Domain
domain_of column = column.kind

-- the same of each of these columns, in order
abbrev pub domains_of : List Column → List Domain
domains_of [] = []
domains_of (column ∷ columns) = domain_of column ∷ domains_of columns
