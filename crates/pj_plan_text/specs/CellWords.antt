-- What a cell of a statement says.
use Rattle.std.specs.Prelude.{ℕ, Bool, true, false, ◌&&◌, List, Option, Some, None, if◌then◌else◌, nat_le, length, codes}
use Rattle.std.specs.Str.{bytes_eq}
use Rattle.pj_value.specs.declared.values.Kind.{Kind}
use Rattle.pj_value.specs.declared.values.Kind.TheVariants.{Int, Text}
use Rattle.pj_element.specs.declared.forms.Spelled.{Spelled}
use Rattle.pj_element.specs.declared.forms.Spelled.TheVariants.{Good, Mixed as MixedCell, Not}
use Rattle.pj_element.specs.Forms.{pattern_of}
use Rattle.pj_plan.specs.declared.statement.ColumnWord.{ColumnWord}
use Rattle.pj_plan.specs.declared.statement.Renamed.{Renamed}
use Rattle.pj_plan.specs.declared.statement.TestWord.{TestWord}
use Rattle.pj_plan.specs.declared.statement.Test.TheVariants.{One, Mixed}
use Rattle.pj_plan.specs.declared.statement.AggWord.{AggWord}
use Rattle.pj_plan.specs.declared.statement.AggWord.TheVariants.{Count, Sum, Min, Max}
use Rattle.pj_plan.specs.declared.statement.NamedAgg.{NamedAgg}
use Rattle.pj_plan.specs.Names.{is_name, is_column_name}
use Rattle.pj_plan_text.specs.Cuts.{all_of, cut_at, is_byte, parts_of}

-- NAME, STREAM or INPUT
abbrev pub name_of : List ℕ → Option (List ℕ)
name_of cell = if is_name cell then Some cell else None

-- COL, or a column in a CLASS
abbrev pub column_name_of : List ℕ → Option (List ℕ)
column_name_of cell = if is_column_name cell then Some cell else None

-- ---- `COL:KIND`

abbrev pub kind_of : List ℕ → Option Kind
kind_of word = if bytes_eq word (codes "int") then Some Int else (if bytes_eq word (codes "text") then Some Text else None)

abbrev pub of_kind : List ℕ → Option Kind → Option ColumnWord
of_kind name None = None
of_kind name (Some kind) = if is_column_name name then Some (record { name = name; kind = kind }) else None

abbrev pub column_in : Option (List ℕ × List ℕ) → Option ColumnWord
column_in None = None
column_in (Some (name, word)) = of_kind name (kind_of word)

-- cut at the first colon
abbrev pub column_of : List ℕ → Option ColumnWord
column_of cell = column_in (cut_at (is_byte 58) cell)

-- ---- `+` or `_`

abbrev pub mark_of : List ℕ → Option Bool
mark_of cell = if bytes_eq cell (codes "+") then Some true else (if bytes_eq cell (codes "_") then Some false else None)

-- ---- `COL`, or `NEW=OLD`

abbrev pub renamed : List ℕ → List ℕ → Option Renamed
renamed new old = if is_column_name new && is_column_name old then Some (record { new = new; old = old }) else None

abbrev pub renamed_in : List ℕ → Option (List ℕ × List ℕ) → Option Renamed
renamed_in cell None = renamed cell cell
renamed_in cell (Some (new, old)) = renamed new old

-- cut at the first `=`
abbrev pub renamed_of : List ℕ → Option Renamed
renamed_of cell = renamed_in cell (cut_at (is_byte 61) cell)

-- ---- `COL=COL..`

-- two or more column names
abbrev pub class_in : List (List ℕ) → Option (List (List ℕ))
class_in parts = if nat_le 2 (length parts) then all_of column_name_of parts else None

-- parted by each `=`
abbrev pub class_of : List ℕ → Option (List (List ℕ))
class_of cell = class_in (parts_of 61 cell)

-- ---- `NEW=AGG`

abbrev pub agg_named : List ℕ → List ℕ → Option AggWord
agg_named word column =
    if bytes_eq word (codes "sum") then Some (Sum column)
    else (if bytes_eq word (codes "min") then Some (Min column)
    else (if bytes_eq word (codes "max") then Some (Max column) else None))

abbrev pub agg_over : Option (List ℕ × List ℕ) → Option AggWord
agg_over None = None
agg_over (Some (word, column)) = if is_column_name column then agg_named word column else None

-- `count`, `sum:COL`, `min:COL` or `max:COL`
abbrev pub agg_of : List ℕ → Option AggWord
agg_of word = if bytes_eq word (codes "count") then Some Count else agg_over (cut_at (is_byte 58) word)

abbrev pub with_agg : List ℕ → Option AggWord → Option NamedAgg
with_agg name None = None
with_agg name (Some agg) = if is_column_name name then Some (record { name = name; agg = agg }) else None

abbrev pub named_agg_in : Option (List ℕ × List ℕ) → Option NamedAgg
named_agg_in None = None
named_agg_in (Some (name, word)) = with_agg name (agg_of word)

-- cut at the first `=`
abbrev pub named_agg_of : List ℕ → Option NamedAgg
named_agg_of cell = named_agg_in (cut_at (is_byte 61) cell)

-- ---- `COL PATTERN`

abbrev pub test_on : List ℕ → Spelled → Option TestWord
test_on column (Good pattern) = Some (record { column = column; test = One pattern })
test_on column MixedCell = Some (record { column = column; test = Mixed })
test_on column Not = None

-- a pattern whose values are of both kinds is one too
abbrev pub test_of : List ℕ → List ℕ → Option TestWord
test_of column cell = if is_column_name column then test_on column (pattern_of cell) else None
