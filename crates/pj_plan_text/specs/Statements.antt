-- What the cells of a line of a plan state.
use Rattle.std.specs.Prelude.{ℕ, Bool, ◌&&◌, List, [], ◌∷◌, Option, Some, None, if◌then◌else◌, nat_le, length, codes}
use Rattle.std.specs.Str.{bytes_eq}
use Rattle.pj_value.specs.Options.{both}
use Rattle.pj_plan.specs.declared.fault.PlanWhy.TheVariants.{UnknownStatement, BadShape}
use Rattle.pj_plan.specs.declared.statement.Statement.{Statement}
use Rattle.pj_plan.specs.declared.statement.Statement.TheVariants.{Plan, Stream, Scheme, Select, Project, Union, Join, Group, Output, Bad}
use Rattle.pj_plan.specs.declared.statement.ColumnWord.{ColumnWord}
use Rattle.pj_plan.specs.declared.statement.Renamed.{Renamed}
use Rattle.pj_plan.specs.declared.statement.TestWord.{TestWord}
use Rattle.pj_plan.specs.declared.statement.NamedAgg.{NamedAgg}
use Rattle.pj_plan.specs.Names.{is_name}
use Rattle.pj_plan_text.specs.Cuts.{all_of, cut_at}
use Rattle.pj_plan_text.specs.CellWords.{name_of, column_name_of, column_of, mark_of, renamed_of, class_of, named_agg_of, test_of}

-- no statement of a known word
abbrev pub unknown : Statement
unknown = Bad UnknownStatement

-- the cells do not have the statement's form
abbrev pub misshapen : Statement
misshapen = Bad BadShape

-- the cell is this word
abbrev pub is_word : List ℕ → List ℕ → Bool
is_word word cell = bytes_eq cell word

-- what each of these says, if there is one and each says something
abbrev pub some_of : {B : Type 0} → (List ℕ → Option B) → List (List ℕ) → Option (List B)
some_of f [] = None
some_of f (cell ∷ cells) = all_of f (cell ∷ cells)

-- the names of two or more inputs
abbrev pub inputs_of : List (List ℕ) → Option (List (List ℕ))
inputs_of cells = if nat_le 2 (length cells) then all_of name_of cells else None

-- ---- statements, behind their first word

-- `1`
abbrev pub plan_stated : List (List ℕ) → Statement
plan_stated [] = unknown
plan_stated (version ∷ []) = if bytes_eq version (codes "1") then Plan 1 else unknown
plan_stated (version ∷ more ∷ cells) = unknown

abbrev pub with_columns : List ℕ → Option (List ColumnWord) → Statement
with_columns name None = misshapen
with_columns name (Some columns) = Stream name columns

-- `NAME COL:KIND ..`
abbrev pub stream_stated : List (List ℕ) → Statement
stream_stated [] = misshapen
stream_stated (name ∷ cells) = if is_name name then with_columns name (some_of column_of cells) else misshapen

abbrev pub with_marks : List ℕ → Option (List Bool) → Statement
with_marks stream None = misshapen
with_marks stream (Some marks) = Scheme stream marks

-- `STREAM MARK ..`
abbrev pub scheme_stated : List (List ℕ) → Statement
scheme_stated [] = misshapen
scheme_stated (stream ∷ cells) = if is_name stream then with_marks stream (some_of mark_of cells) else misshapen

-- one test for each pair of cells
abbrev pub pairs_of : List (List ℕ) → Option (List TestWord)
pairs_of [] = Some []
pairs_of (column ∷ []) = None
pairs_of (column ∷ cell ∷ cells) = both (test_of column cell) (pairs_of cells)

-- one or more
abbrev pub some_pairs_of : List (List ℕ) → Option (List TestWord)
some_pairs_of [] = None
some_pairs_of (cell ∷ cells) = pairs_of (cell ∷ cells)

abbrev pub with_tests : List ℕ → List ℕ → Option (List TestWord) → Statement
with_tests name input None = misshapen
with_tests name input (Some tests) = Select name input tests

-- `NAME INPUT where COL PATTERN ..`
abbrev pub select_stated : List (List ℕ) → Statement
select_stated (name ∷ input ∷ where_cell ∷ cells) =
    if (is_name name && is_name input) && is_word (codes "where") where_cell then with_tests name input (some_pairs_of cells) else misshapen
select_stated _ = misshapen

abbrev pub with_renamed : List ℕ → List ℕ → Option (List Renamed) → Statement
with_renamed name input None = misshapen
with_renamed name input (Some columns) = Project name input columns

-- `NAME INPUT COL ..`
abbrev pub project_stated : List (List ℕ) → Statement
project_stated (name ∷ input ∷ cells) = if is_name name && is_name input then with_renamed name input (some_of renamed_of cells) else misshapen
project_stated _ = misshapen

abbrev pub with_inputs : List ℕ → Option (List (List ℕ)) → Statement
with_inputs name None = misshapen
with_inputs name (Some inputs) = Union name inputs

-- `NAME INPUT INPUT ..`
abbrev pub union_stated : List (List ℕ) → Statement
union_stated [] = misshapen
union_stated (name ∷ cells) = if is_name name then with_inputs name (inputs_of cells) else misshapen

abbrev pub with_classes : List ℕ → Option (List (List ℕ)) → Option (List (List (List ℕ))) → Statement
with_classes name None classes = misshapen
with_classes name (Some inputs) None = misshapen
with_classes name (Some inputs) (Some classes) = Join name inputs classes

abbrev pub join_in : List ℕ → Option (List (List ℕ) × List (List ℕ)) → Statement
join_in name None = misshapen
join_in name (Some (inputs, classes)) = with_classes name (inputs_of inputs) (some_of class_of classes)

-- `NAME INPUT INPUT .. on CLASS ..`, cut at the first `on`
abbrev pub join_stated : List (List ℕ) → Statement
join_stated [] = misshapen
join_stated (name ∷ cells) = if is_name name then join_in name (cut_at (is_word (codes "on")) cells) else misshapen

abbrev pub with_aggs : List ℕ → List ℕ → Option (List (List ℕ)) → Option (List NamedAgg) → Statement
with_aggs name input None aggs = misshapen
with_aggs name input (Some keys) None = misshapen
with_aggs name input (Some keys) (Some aggs) = Group name input keys aggs

abbrev pub group_in : List ℕ → List ℕ → Option (List (List ℕ) × List (List ℕ)) → Statement
group_in name input None = misshapen
group_in name input (Some (keys, aggs)) = with_aggs name input (some_of column_name_of keys) (some_of named_agg_of aggs)

-- `NAME INPUT by COL .. of NEW=AGG ..`, cut at the first `of`
abbrev pub group_stated : List (List ℕ) → Statement
group_stated (name ∷ input ∷ by_cell ∷ cells) =
    if (is_name name && is_name input) && is_word (codes "by") by_cell then group_in name input (cut_at (is_word (codes "of")) cells) else misshapen
group_stated _ = misshapen

-- `NAME`
abbrev pub output_stated : List (List ℕ) → Statement
output_stated [] = misshapen
output_stated (name ∷ []) = if is_name name then Output name else misshapen
output_stated (name ∷ more ∷ cells) = misshapen

-- ---- statements

-- what the cells behind this word state
abbrev pub stated_by : List ℕ → List (List ℕ) → Statement
stated_by word cells =
    if bytes_eq word (codes "plan") then plan_stated cells
    else (if bytes_eq word (codes "stream") then stream_stated cells
    else (if bytes_eq word (codes "scheme") then scheme_stated cells
    else (if bytes_eq word (codes "select") then select_stated cells
    else (if bytes_eq word (codes "project") then project_stated cells
    else (if bytes_eq word (codes "union") then union_stated cells
    else (if bytes_eq word (codes "join") then join_stated cells
    else (if bytes_eq word (codes "group") then group_stated cells
    else (if bytes_eq word (codes "output") then output_stated cells
    else unknown))))))))

-- what the cells of a line state
abbrev pub statement_of : List (List ℕ) → Statement
statement_of [] = unknown
statement_of (word ∷ cells) = stated_by word cells
