-- What a group keeps of its rows: for each key the state of its aggregates.
use Rattle.std.specs.Prelude.{ℕ, List, [], ◌++◌, map, filter, length, pos, ℤ}
use Rattle.std.specs.Int.{saturate_signed, w64}
use Rattle.pj_value.specs.declared.values.Value.{Value}
use Rattle.pj_value.specs.declared.values.Value.TheVariants.{Int}
use Rattle.pj_value.specs.Values.{row_eq}
use Rattle.pj_events.specs.Operators.{Agg, Count, Sum, Min, Max, GroupSpec, column_of, greatest_of, keys_from, least_of, picked_cells, sum_of}

-- the state of an aggregate: how many rows came, their exact sum, their least or their greatest value
pub data Tally : Type 0 where
  Rows : ℕ → Tally
  Total : ℤ → Tally
  Least : Value → Tally
  Greatest : Value → Tally

-- a key, and the state of each aggregate of its rows
abbrev pub GroupEntry : Type 0
GroupEntry = List Value × List Tally

-- an entry for each distinct key, in the order of their first rows
abbrev pub GroupTable : Type 0
GroupTable = List GroupEntry

-- the state of an aggregate of these rows
abbrev pub tally : List (List Value) → Agg → Tally
tally rows Count = Rows (length rows)
tally rows (Sum column) = Total (sum_of (column_of column rows))
tally rows (Min column) = Least (least_of (column_of column rows))
tally rows (Max column) = Greatest (greatest_of (column_of column rows))

-- the rows that have this key
abbrev pub rows_with_key : GroupSpec → List (List Value) → List Value → List (List Value)
rows_with_key spec rows key = filter (λ row. row_eq key (picked_cells spec.keys row)) rows

-- the entry of a key
abbrev pub kept_for : GroupSpec → List (List Value) → List Value → GroupEntry
kept_for spec rows key = (key, map (tally (rows_with_key spec rows key)) spec.aggs)

-- what is kept of these rows
abbrev pub table_of : GroupSpec → List (List Value) → GroupTable
table_of spec rows = map (kept_for spec rows) (keys_from [] spec rows)

-- what an aggregate comes to, where a sum is clamped to 64 bits
abbrev pub value_of : Tally → Value
value_of (Rows n) = Int (pos n)
value_of (Total n) = Int (saturate_signed w64 n)
value_of (Least v) = v
value_of (Greatest v) = v

-- the row of a key
abbrev pub row_of : GroupEntry → List Value
row_of entry = entry.0 ++ map value_of entry.1

-- the rows of all keys
abbrev pub rows_of_table : GroupTable → List (List Value)
rows_of_table table = map row_of table
