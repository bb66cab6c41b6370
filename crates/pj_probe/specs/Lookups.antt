-- What is wanted of tuples that join with others.
use Rattle.std.specs.Prelude.{◌≡◌, ℕ, true, List}
use Rattle.pj_value.specs.declared.values.Value.{Value}
use Rattle.pj_events.specs.Join.{ClassCol, TupleAt, value_at}
use Rattle.pj_rows.specs.AgreesWith.{agrees_with}

-- this column of an input has this value in each tuple that joins with these
abbrev pub IsWanted : List (List ClassCol) → List TupleAt → ℕ → ℕ → Value → Type 0
IsWanted classes xs input column value = (y : TupleAt) → y.input ≡ input → agrees_with classes xs y ≡ true → value_at y.row column ≡ value
