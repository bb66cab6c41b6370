-- Rows that join, and the nested-loop answer of a join.
use Rattle.std.specs.Prelude.{ℕ, ◌+◌, ◌≡◌, Bool, ◌==◌, ◌&&◌, if◌then◌else◌, List, [], ◌∷◌, Option, Some, None, map, filter, flat_map, slice_index_or}
use Rattle.std.specs.List.{list_all, list_any}
use Rattle.pj_value.specs.declared.values.Value.{Value}
use Rattle.pj_value.specs.declared.values.Value.TheVariants.{Text}
use Rattle.pj_value.specs.Values.{value_eq}
use Rattle.pj_value.specs.Lists.{In}
use Rattle.pj_shape.specs.Lists.{product}
use Rattle.pj_shape.specs.declared.joins.ClassCol.{ClassCol}

-- stands for a value where a row has none
abbrev pub no_value : Value
no_value = Text []

-- the value in a column
abbrev pub value_at : List Value → ℕ → Value
value_at row column = slice_index_or row column no_value

-- a row, and the input that it is of
pub record Part : Type 0 where
  pub input : ℕ
  pub row : List Value

-- the values that those of these rows that are of its input have in a column
abbrev pub values_in : List Part → ClassCol → List Value
values_in parts at = flat_map (λ p. if p.input == at.input then (value_at p.row at.column ∷ []) else []) parts

-- the values that these rows have in a class of columns
abbrev pub values : List Part → List ClassCol → List Value
values parts class = flat_map (values_in parts) class

-- any two of these values are equal
abbrev pub all_equal : List Value → Bool
all_equal vs = list_all (λ v. list_all (value_eq v) vs) vs

-- whether in each class the values of its columns in these rows are all equal
abbrev pub joins : List (List ClassCol) → List Part → Bool
joins classes parts = list_all (λ class. all_equal (values parts class)) classes

-- in each class the values of its columns in these rows are all equal
abbrev pub Joins : List (List ClassCol) → List Part → Type 0
Joins classes parts = (class : List ClassCol) → In class classes → (v w : Value) → In v (values parts class) → In w (values parts class) → v ≡ w

-- the rows of these parts, end to end
abbrev pub joined_row : List Part → List Value
joined_row parts = flat_map (λ p. p.row) parts

-- lists of rows as parts of the inputs from this one on
abbrev pub parts_from : ℕ → List (List (List Value)) → List (List Part)
parts_from input [] = []
parts_from input (rows ∷ lists) = map (λ row. record { input = input; row = row }) rows ∷ parts_from (input + 1) lists

-- nested loops over the inputs' rows: each combination that joins, end to end
abbrev pub join_answer : List (List ClassCol) → List (List (List Value)) → List (List Value)
join_answer classes lists = map joined_row (filter (joins classes) (product (parts_from 0 lists)))

-- whether the class has the column
abbrev pub has_column : List ClassCol → ClassCol → Bool
has_column class at = list_any (λ c. (c.input == at.input) && (c.column == at.column)) class

-- the number of the first class from this number on that has the column
abbrev pub class_from : ℕ → List (List ClassCol) → ClassCol → Option ℕ
class_from n [] at = None
class_from n (class ∷ classes) at = if has_column class at then Some n else class_from (n + 1) classes at

-- the number of the first class that has the column
abbrev pub class_of : List (List ClassCol) → ClassCol → Option ℕ
class_of classes at = class_from 0 classes at

-- the value of a cell, where one that is not there has the empty text
abbrev pub cell_value : Option Value → Value
cell_value None = no_value
cell_value (Some v) = v

-- rows as parts of the inputs from this one on
abbrev pub parts_on : ℕ → List (List Value) → List Part
parts_on input [] = []
parts_on input (row ∷ rows) = record { input = input; row = row } ∷ parts_on (input + 1) rows
