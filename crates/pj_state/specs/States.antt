-- The stored rows of an input of a join.
use Rattle.std.specs.Prelude.{ℕ, Bool, false, nat_lt, List, Option, Some, None, map, filter, slice_get}
use Rattle.pj_value.specs.declared.values.Value.{Value}
use Rattle.pj_value.specs.Values.{value_eq}
use Rattle.pj_value.specs.Options.{is_value}
use Rattle.pj_state.specs.Rising.{first_with}
use Rattle.pj_state.specs.declared.shared.Stored.{Stored}

-- the columns that have an index, and the rows in order of tickets
pub record StateView : Type 0 where
  pub columns : List ℕ
  pub rows : List Stored

abbrev pub state_of : List ℕ → List Stored → StateView
state_of columns rows = record { columns = columns; rows = rows }

-- a row under its ticket
abbrev pub stored : ℕ → List Value → Stored
stored ticket row = record { ticket = ticket; row = row }

abbrev pub ticket_of : Stored → ℕ
ticket_of s = s.ticket

abbrev pub tickets_of : List Stored → List ℕ
tickets_of rows = map ticket_of rows

-- the row has this value in this column
abbrev pub has_value : ℕ → Value → Stored → Bool
has_value column value s = is_value value (slice_get s.row column)

-- the rows with this value in this column
abbrev pub rows_with : ℕ → Value → List Stored → List Stored
rows_with column value rows = filter (has_value column value) rows

abbrev pub is_below : ℕ → Stored → Bool
is_below ticket s = nat_lt s.ticket ticket

-- the rows with smaller tickets
abbrev pub rows_below : ℕ → List Stored → List Stored
rows_below ticket rows = filter (is_below ticket) rows

abbrev pub pair_of : Stored → ℕ × List Value
pair_of s = (s.ticket, s.row)

-- tickets beside their rows
abbrev pub pairs : List Stored → List (ℕ × List Value)
pairs rows = map pair_of rows

-- the row under a ticket that was looked for
abbrev pub row_in : Option Stored → Option (List Value)
row_in None = None
row_in (Some s) = Some s.row

-- the row under this ticket
abbrev pub row_under : ℕ → List Stored → Option (List Value)
row_under ticket rows = row_in (first_with ticket_of ticket rows)
