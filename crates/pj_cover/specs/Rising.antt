-- Rows in order of their tickets.
use Rattle.std.specs.Prelude.{ℕ, ◌<◌, ◌==◌, if◌then◌else◌, Bool, Option, Some, None, List, [], ◌∷◌, filter, map, slice_get}
use Rattle.pj_value.specs.declared.values.Value.{Value}
use Rattle.pj_value.specs.Options.{is_value}
use Rattle.pj_rows.specs.Tuples.{ticket_in}

-- each row has a ticket above this one
abbrev pub AreAbove : ℕ → List (ℕ × List Value) → Type 0
AreAbove ticket [] = Unit {0}
AreAbove ticket (r ∷ rs) = (ticket < r.0) × AreAbove ticket rs

-- the tickets rise
abbrev pub AreRisingRows : List (ℕ × List Value) → Type 0
AreRisingRows [] = Unit {0}
AreRisingRows (r ∷ rs) = AreAbove r.0 rs × AreRisingRows rs

-- the row has this value in this column
abbrev pub has_there_value : ℕ → Value → ℕ × List Value → Bool
has_there_value column value r = is_value value (slice_get r.1 column)

-- the tickets of the rows with this value in this column
abbrev pub tickets_with : ℕ → Value → List (ℕ × List Value) → List ℕ
tickets_with column value rows = map ticket_in (filter (has_there_value column value) rows)

-- the row with this ticket
abbrev pub row_with : ℕ → List (ℕ × List Value) → Option (List Value)
row_with ticket [] = None
row_with ticket (r ∷ rows) = if r.0 == ticket then Some r.1 else row_with ticket rows
