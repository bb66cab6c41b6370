-- The canonical spelling of statements and plans.
use Rattle.std.specs.Prelude.{ℕ, Bool, true, false, List, [], ◌∷◌, ◌++◌, map, if◌then◌else◌, codes}
use Rattle.std.specs.Fmt.{decimal}
use Rattle.std.specs.Str.{bytes_eq}
use Rattle.pj_value.specs.declared.values.Kind.{Kind}
use Rattle.pj_value.specs.declared.values.Kind.TheVariants.{Int, Text}
use Rattle.pj_element.specs.Elements.{pattern_spelling}
use Rattle.pj_plan.specs.declared.node.Outline.{Outline}
use Rattle.pj_plan.specs.declared.statement.Statement.{Statement}
use Rattle.pj_plan.specs.declared.statement.Statement.TheVariants.{Plan, Stream, Scheme, Select, Project, Union, Join, Group, Output, Bad}
use Rattle.pj_plan.specs.declared.statement.ColumnWord.{ColumnWord}
use Rattle.pj_plan.specs.declared.statement.Renamed.{Renamed}
use Rattle.pj_plan.specs.declared.statement.TestWord.{TestWord}
use Rattle.pj_plan.specs.declared.statement.Test.{Test}
use Rattle.pj_plan.specs.declared.statement.Test.TheVariants.{One, Mixed}
use Rattle.pj_plan.specs.declared.statement.AggWord.{AggWord}
use Rattle.pj_plan.specs.declared.statement.AggWord.TheVariants.{Count, Sum, Min, Max}
use Rattle.pj_plan.specs.declared.statement.NamedAgg.{NamedAgg}
use Rattle.pj_plan.specs.Canonical.{statements_of}

-- words, each behind this byte
abbrev pub each_behind : ℕ → List (List ℕ) → List ℕ
each_behind mark [] = []
each_behind mark (word ∷ words) = mark ∷ word ++ each_behind mark words

-- words, parted by this byte
abbrev pub parted : ℕ → List (List ℕ) → List ℕ
parted mark [] = []
parted mark (word ∷ words) = word ++ each_behind mark words

-- ---- cells

abbrev pub kind_word : Kind → List ℕ
kind_word Int = codes "int"
kind_word Text = codes "text"

-- `COL:KIND`
abbrev pub column_cell : ColumnWord → List ℕ
column_cell column = column.name ++ (codes ":" ++ kind_word column.kind)

-- `+` or `_`
abbrev pub mark_cell : Bool → List ℕ
mark_cell true = codes "+"
mark_cell false = codes "_"

abbrev pub test_cell : Test → List ℕ
test_cell (One pattern) = pattern_spelling pattern
test_cell Mixed = codes "{0|\"\"}"

-- `COL PATTERN`
abbrev pub test_cells : List TestWord → List (List ℕ)
test_cells [] = []
test_cells (word ∷ words) = word.column ∷ test_cell word.test ∷ test_cells words

-- `OLD` where the name stays, else `NEW=OLD`
abbrev pub renamed_cell : Renamed → List ℕ
renamed_cell word = if bytes_eq word.new word.old then word.old else word.new ++ (codes "=" ++ word.old)

-- names, parted by `=`
abbrev pub class_cell : List (List ℕ) → List ℕ
class_cell names = parted 61 names

abbrev pub agg_cell : AggWord → List ℕ
agg_cell Count = codes "count"
agg_cell (Sum column) = codes "sum:" ++ column
agg_cell (Min column) = codes "min:" ++ column
agg_cell (Max column) = codes "max:" ++ column

-- `NEW=AGG`
abbrev pub named_agg_cell : NamedAgg → List ℕ
named_agg_cell word = word.name ++ (codes "=" ++ agg_cell word.agg)

-- ---- lines

-- the cells of a statement's line; a bad statement has none
abbrev pub cells_in : Statement → List (List ℕ)
cells_in (Plan version) = codes "plan" ∷ decimal version ∷ []
cells_in (Stream name columns) = codes "stream" ∷ name ∷ map column_cell columns
cells_in (Scheme stream marks) = codes "scheme" ∷ stream ∷ map mark_cell marks
cells_in (Select name input tests) = codes "select" ∷ name ∷ input ∷ codes "where" ∷ test_cells tests
cells_in (Project name input columns) = codes "project" ∷ name ∷ input ∷ map renamed_cell columns
cells_in (Union name inputs) = codes "union" ∷ name ∷ inputs
cells_in (Join name inputs classes) = codes "join" ∷ name ∷ inputs ++ codes "on" ∷ map class_cell classes
cells_in (Group name input keys aggs) = codes "group" ∷ name ∷ input ∷ codes "by" ∷ keys ++ codes "of" ∷ map named_agg_cell aggs
cells_in (Output name) = codes "output" ∷ name ∷ []
cells_in (Bad why) = []

-- the line of a statement, its cells parted by one space, without its line feed
abbrev pub spell : Statement → List ℕ
spell statement = parted 32 (cells_in statement)

-- the line with its line feed
abbrev pub fed : Statement → List ℕ
fed statement = spell statement ++ codes "\n"

-- the lines of these statements
abbrev pub lines_of : List Statement → List ℕ
lines_of [] = []
lines_of (statement ∷ statements) = fed statement ++ lines_of statements

-- the canonical text of a plan
abbrev pub plan_spelling : Outline → List ℕ
plan_spelling plan = lines_of (statements_of plan)
