-- What a line says fits the columns.
use Rattle.std.specs.Prelude.{◌≡◌, ℕ, ⊤, true, List, length}
use Rattle.pj_shape.specs.declared.columns.Column.{Column}
use Rattle.pj_shape.specs.Columns.{domains_of}
use Rattle.pj_pattern.specs.Fitting.{row_fits, punct_fits}
use Rattle.pj_element.specs.declared.element.Read.{Read}
use Rattle.pj_element.specs.declared.element.Read.TheVariants.{Skip, Tuple, Punct, Bad}

-- a row has a value for each column and of its kind, and a punctuation such a pattern
abbrev pub FitsRead : List Column → Read → Type 0
FitsRead columns Skip = ⊤
FitsRead columns (Tuple row) = row_fits (domains_of columns) row ≡ true
FitsRead columns (Punct punct) = punct_fits (domains_of columns) punct ≡ true
FitsRead columns (Bad why) = ⊤

-- a punctuation has so many patterns
abbrev pub HasArity : ℕ → Read → Type 0
HasArity arity Skip = ⊤
HasArity arity (Tuple row) = ⊤
HasArity arity (Punct punct) = length punct ≡ arity
HasArity arity (Bad why) = ⊤
