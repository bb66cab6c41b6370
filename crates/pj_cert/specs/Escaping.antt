-- Rows that show why an input of a join is stuck: they join, and no row of an input that is not reached matches a listed instance.
use Rattle.std.specs.Prelude.{ℕ, ◌+◌, ◌≡◌, pos, Bool, true, false, ◌==◌, if◌then◌else◌, List, [], ◌∷◌, Option, Some, None, length, slice_index_or}
use Rattle.pj_value.specs.declared.values.Kind.{Kind}
use Rattle.pj_value.specs.declared.values.Kind.TheVariants.{Int as KInt, Text as KText}
use Rattle.pj_value.specs.declared.values.Value.{Value}
use Rattle.pj_value.specs.declared.values.Value.TheVariants.{Int, Text}
use Rattle.pj_value.specs.Lists.{In, has}
use Rattle.pj_shape.specs.declared.columns.Column.{Column}
use Rattle.pj_shape.specs.declared.columns.Instance.{Instance}
use Rattle.pj_shape.specs.declared.joins.ClassCol.{ClassCol}
use Rattle.pj_shape.specs.declared.joins.JoinSpec.{JoinSpec}
use Rattle.pj_shape.specs.Columns.{domains_of}
use Rattle.pj_shape.specs.Joining.{Joins, has_column, value_at, parts_on}
use Rattle.pj_pattern.specs.Fitting.{row_fits}
use Rattle.pj_shape.specs.Sets.{touches}
use Rattle.pj_shape.specs.Instances.{MatchesInstance}
use Rattle.pj_cert.specs.Fresh.{free_number, free_text}
use Rattle.pj_cert.specs.Instances.{blank, cells_of, constants_of}

-- what decides the values: the classes, the given row and its input, the inputs that are reached, a fresh number and a fresh text
pub record Case : Type 0 where
  pub classes : List (List ClassCol)
  pub input : ℕ
  pub row : List Value
  pub reached : List ℕ
  pub number : ℕ
  pub text : List ℕ

-- the fresh number and text are none of the listed constants
abbrev pub case_of : JoinSpec → ℕ → List ℕ → List Value → List Instance → Case
case_of spec input reached row listed = record {
  classes = spec.classes;
  input = input;
  row = row;
  reached = reached;
  number = free_number (constants_of listed);
  text = free_text (constants_of listed);
}

-- the fresh value of a kind
abbrev pub fresh : Case → Kind → Value
fresh case KInt = Int (pos case.number)
fresh case KText = Text case.text

-- the class's first column of the input
abbrev pub column_of : ℕ → List ClassCol → Option ℕ
column_of input [] = None
column_of input (c ∷ class) = if c.input == input then Some c.column else column_of input class

-- the row's value in a column, or another value where there is no column
abbrev pub value_or : List Value → Option ℕ → Value → Value
value_or row None other = other
value_or row (Some column) other = value_at row column

-- 0 or the empty text for a class with a column of a reached input, the fresh value for another
abbrev pub other_value : Case → Kind → List ClassCol → Value
other_value case kind class = if touches (has case.reached) class then blank kind else fresh case kind

-- the value of a class of columns: the given row's, where it has a column in the class
abbrev pub class_value : Case → Kind → List ClassCol → Value
class_value case kind class = value_or case.row (column_of case.input class) (other_value case kind class)

-- the class that has the column; a column outside all classes is a class of its own
abbrev pub class_with : List (List ClassCol) → ClassCol → List ClassCol
class_with [] at = at ∷ []
class_with (class ∷ classes) at = if has_column class at then class else class_with classes at

-- the value in a column of the kind
abbrev pub column_value : Case → ClassCol → Kind → Value
column_value case at kind = class_value case kind (class_with case.classes at)

-- the values in an input's columns, of which the first has this number
abbrev pub values_from : Case → ℕ → ℕ → List Column → List Value
values_from case input n [] = []
values_from case input n (column ∷ columns) =
    column_value case (record { input = input; column = n }) column.kind ∷ values_from case input (n + 1) columns

-- the row of an input: the given row, or one of these values
abbrev pub row_of : Case → ℕ → List Column → List Value
row_of case input schema = if input == case.input then case.row else values_from case input 0 schema

-- a row for each of these inputs, of which the first has this number
abbrev pub rows_from : Case → ℕ → List (List Column) → List (List Value)
rows_from case input [] = []
rows_from case input (schema ∷ schemas) = row_of case input schema ∷ rows_from case (input + 1) schemas

-- a row for each input: all columns of a class have its value
abbrev pub escape_rows : JoinSpec → ℕ → List ℕ → List Value → List Instance → List (List Value)
escape_rows spec input reached row listed = rows_from (case_of spec input reached row listed) 0 spec.inputs

-- ---- what such rows show

-- the row with this number
abbrev pub row_at : List (List Value) → ℕ → List Value
row_at rows input = slice_index_or rows input []

-- a row for each schema, with a value of its kind in each column
abbrev pub FitRows : List (List Column) → List (List Value) → Type 0
FitRows [] [] = Unit {0}
FitRows [] (row ∷ rows) = ⊥
FitRows (schema ∷ schemas) [] = ⊥
FitRows (schema ∷ schemas) (row ∷ rows) = (row_fits (domains_of schema) row ≡ true) × FitRows schemas rows

-- no row of an input that is not reached matches a listed instance
abbrev pub MatchNone : List (List (List Bool)) → List ℕ → List Instance → List (List Value) → Type 0
MatchNone schemes reached listed rows =
    (instance : Instance) → In instance listed → has reached instance.input ≡ false
    → ¬ MatchesInstance (row_at rows instance.input) (cells_of schemes instance)

-- one row for each input, the given one at its input; together they join, and none of an input that is not reached matches a
-- listed instance
pub record Escapes (spec : JoinSpec) (schemes : List (List (List Bool))) (input : ℕ) (reached : List ℕ)
    (row : List Value) (listed : List Instance) (rows : List (List Value)) : Type 0 where
  pub count : length rows ≡ length spec.inputs
  pub fits : FitRows spec.inputs rows
  pub own : row_at rows input ≡ row
  pub joins : Joins spec.classes (parts_on 0 rows)
  pub apart : MatchNone schemes reached listed rows
  pub values : rows ≡ escape_rows spec input reached row listed
