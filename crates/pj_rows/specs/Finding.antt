-- Which stored rows of an input match a punctuation, and stay where others go.
use Rattle.std.specs.Prelude.{ℕ, ◌≡◌, Bool, true, not, ◌&&◌, List, slice_get, false, Option, Some, None, filter}
use Rattle.std.specs.List.{list_any}
use Rattle.pj_state.specs.declared.shared.Stored.{Stored}
use Rattle.pj_state.specs.States.{StateView, tickets_of}
use Rattle.pj_events.specs.Patterns.{Pattern, matches_row, matches_value}
use Rattle.pj_events.specs.Join.{In, Value, has}
use Rattle.pj_value.specs.Options.{is_value}

-- ---- what matches a punctuation

-- the row matches the patterns, and its ticket is none of these
abbrev pub stays : List ℕ → List Pattern → Stored → Bool
stays gone patterns s = matches_row patterns s.row && not (has gone s.ticket)

-- ---- rows of an input

-- a row with this ticket matches the patterns, and is not among those that go
abbrev pub IsStaying : List Stored → List ℕ → List Pattern → ℕ → Type 0
IsStaying rows gone patterns ticket = (s : Stored) × In s rows × (s.ticket ≡ ticket) × (stays gone patterns s ≡ true)

-- one of these rows does
abbrev pub still_held : List Stored → List ℕ → List Pattern → Bool
still_held rows gone patterns = list_any (stays gone patterns) rows

-- none where no row stays and matches the patterns; else the ticket of one that does
abbrev pub IsFound : List Stored → List ℕ → List Pattern → Option ℕ → Type 0
IsFound rows gone patterns None = still_held rows gone patterns ≡ false
IsFound rows gone patterns (Some ticket) = IsStaying rows gone patterns ticket

-- the column is indexed, and each row that matches the patterns has this value in it
abbrev pub IsLookup : StateView → List Pattern → ℕ → Value → Type 0
IsLookup state patterns column value = In column state.columns × ((row : List Value) → matches_row patterns row ≡ true → is_value value (slice_get row column) ≡ true)

-- these are the tickets of some of the rows, in their order
abbrev pub AreSome : List Stored → List ℕ → Type 0
AreSome rows gone = (keep : Stored → Bool) × (gone ≡ tickets_of (filter keep rows))

-- the value is there, and the pattern matches it
abbrev pub is_match : Pattern → Option Value → Bool
is_match pattern None = false
is_match pattern (Some value) = matches_value pattern value

-- the pattern matches the row's value in this column
abbrev pub has_match : ℕ → Pattern → Stored → Bool
has_match column pattern s = is_match pattern (slice_get s.row column)
