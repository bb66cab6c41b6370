-- What a group keeps after one row more.
use Rattle.std.specs.Prelude.{ℕ, ◌+◌, ◌<◌, List, [], ◌∷◌, ◌++◌, not, if◌then◌else◌, Option, Some, None, map, filter, length, ℤ, pos, ◌+ℤ◌, All}
use Rattle.pj_value.specs.declared.values.Value.{Value}
use Rattle.pj_value.specs.declared.values.Value.TheVariants.{Int, Text}
use Rattle.pj_shape.specs.Joining.{value_at}
use Rattle.pj_events.specs.Operators.{Agg, Count, Sum, Min, Max, GroupSpec, greater, lesser}
use Rattle.pj_pattern.specs.declared.element.Element.{Element}
use Rattle.pj_pattern.specs.declared.element.Element.TheVariants.{Tuple, Punct}
use Rattle.pj_pattern.specs.Columns.{others_wild, picked_patterns}
use Rattle.pj_events.specs.Patterns.{Pattern, all_wild, matches_row}
use Rattle.pj_group.specs.Slots.{GroupSlot, open_groups}
use Rattle.pj_events.specs.Tables.{Greatest, GroupEntry, Least, Rows, Tally, Total, row_of}

-- the integer; a text counts as 0
abbrev pub number_of : Value → ℤ
number_of (Int n) = n
number_of (Text bytes) = pos 0

-- the value that an aggregate reads of a row
abbrev pub cell_of : List Value → Agg → Option Value
cell_of row Count = None
cell_of row (Sum column) = Some (value_at row column)
cell_of row (Min column) = Some (value_at row column)
cell_of row (Max column) = Some (value_at row column)

-- the state of an aggregate of one row
abbrev pub first_tally : List Value → Agg → Tally
first_tally row Count = Rows 1
first_tally row (Sum column) = Total (number_of (value_at row column))
first_tally row (Min column) = Least (value_at row column)
first_tally row (Max column) = Greatest (value_at row column)

-- a sum with the value that is read, where one is
abbrev pub sum_with : ℤ → Option Value → ℤ
sum_with n None = n
sum_with n (Some v) = n +ℤ number_of v

-- the lesser and the greater of a value and the one that is read
abbrev pub lesser_with : Value → Option Value → Value
lesser_with w None = w
lesser_with w (Some v) = lesser w v

abbrev pub greater_with : Value → Option Value → Value
greater_with w None = w
greater_with w (Some v) = greater w v

-- the state after one row more, of which this is read
abbrev pub next_tally : Tally → Option Value → Tally
next_tally (Rows n) cell = Rows (n + 1)
next_tally (Total n) cell = Total (sum_with n cell)
next_tally (Least w) cell = Least (lesser_with w cell)
next_tally (Greatest w) cell = Greatest (greater_with w cell)

abbrev pub next_tallies : List Value → List Agg → List Tally → List Tally
next_tallies row [] tallies = []
next_tallies row (agg ∷ aggs) [] = []
next_tallies row (agg ∷ aggs) (t ∷ tallies) = next_tally t (cell_of row agg) ∷ next_tallies row aggs tallies

-- the states after a row of a key, from those that stood there
abbrev pub tallies_after : List Value → List Agg → Option (List Tally) → List Tally
tallies_after row aggs None = map (first_tally row) aggs
tallies_after row aggs (Some tallies) = next_tallies row aggs tallies

-- the column that an aggregate reads is below the width
abbrev pub IsInRange : ℕ → Agg → Type 0
IsInRange width Count = Unit {0}
IsInRange width (Sum column) = column < width
IsInRange width (Min column) = column < width
IsInRange width (Max column) = column < width

-- so are all columns that the group reads
pub record Fits (spec : GroupSpec) (width : ℕ) : Type 0 where
  pub keys : All (λ column. column < width) spec.keys
  pub aggs : All (IsInRange width) spec.aggs

-- the row of a group, as an element
abbrev pub row_tuple : GroupEntry → Element
row_tuple entry = Tuple (row_of entry)

-- the rows of those keys that match
abbrev pub closed_rows : List Pattern → List GroupEntry → List Element
closed_rows patterns table = map row_tuple (filter (λ e. matches_row patterns e.0) table)

-- the row of a group, where there is one that is open and its key matches
abbrev pub closed_at : List Pattern → Option GroupSlot → List Element
closed_at patterns None = []
closed_at patterns (Some slot) = closed_rows patterns (open_groups (slot ∷ []))

-- what stays at a punctuation
abbrev pub table_after : GroupSpec → List GroupEntry → List Pattern → List GroupEntry
table_after spec table patterns =
    if others_wild spec.keys 0 patterns then filter (λ e. not (matches_row (picked_patterns spec.keys patterns) e.0)) table else table

-- what it makes of a table
abbrev pub table_hands : GroupSpec → List GroupEntry → List Pattern → List Element
table_hands spec table patterns =
    if others_wild spec.keys 0 patterns
    then (closed_rows (picked_patterns spec.keys patterns) table ++ Punct (picked_patterns spec.keys patterns ++ all_wild (length spec.aggs)) ∷ [])
    else []
