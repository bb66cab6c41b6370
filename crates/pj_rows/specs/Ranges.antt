-- Rows found by a range of integers.
use Rattle.std.specs.Prelude.{◌≡◌, ℕ, ℤ, ◌≤ℤ◌, Bool, true, false, List, Option, Some, None, slice_get}
use Rattle.pj_value.specs.declared.values.Value.{Value}
use Rattle.pj_value.specs.declared.values.Value.TheVariants.{Int}
use Rattle.pj_state.specs.declared.shared.Stored.{Stored}
use Rattle.pj_state.specs.declared.state.NextNumber.{NextNumber}
use Rattle.pj_state.specs.declared.state.NextNumber.TheVariants.{Untold, Nothing, At}
use Rattle.pj_state.specs.Ordered.{HasNumber, IsFrom, IsUpTo, NoneAbove, NoneBetween}
use Rattle.pj_events.specs.Join.{In}
use Rattle.pj_events.specs.Patterns.{Pattern, matches_row, matches_value}
use Rattle.pj_rows.specs.Finding.{stays}
use Rattle.pj_rows.specs.declared.ranges.Numbers.{Numbers}

-- no integer from this one on is at most the end
abbrev pub IsPast : ℤ → Option ℤ → Type 0
IsPast next high = (n : ℤ) → next ≤ℤ n → IsUpTo high n → ⊥

-- no integer up to this one is at least the end
abbrev pub IsShort : ℤ → Option ℤ → Type 0
IsShort last low = (n : ℤ) → n ≤ℤ last → IsFrom low n → ⊥

-- the integer is one of these
abbrev pub IsAmong : Numbers → ℤ → Type 0
IsAmong numbers n = IsFrom numbers.low n × IsUpTo numbers.high n

-- the pattern matches only integers, and only these
abbrev pub MatchesAmong : Pattern → Numbers → Type 0
MatchesAmong pattern numbers = (v : Value) → matches_value pattern v ≡ true → (n : ℤ) × (v ≡ Int n) × IsAmong numbers n

-- each row that matches these patterns has one of these integers in this column
abbrev pub NeedsAmong : List Pattern → ℕ → Numbers → Type 0
NeedsAmong patterns column numbers = (row : List Value) → matches_row patterns row ≡ true → (n : ℤ) × (slice_get row column ≡ Some (Int n)) × IsAmong numbers n

-- what is told of the least of these integers that a row has in the column: each that one has is at least that
abbrev pub TellsAmong : ℕ → Numbers → List Stored → NextNumber → Type 0
TellsAmong column numbers rows Untold = Unit {0}
TellsAmong column numbers rows Nothing = (s : Stored) (n : ℤ) → In s rows → HasNumber column n s → IsAmong numbers n → ⊥
TellsAmong column numbers rows (At next) = NoneBetween column numbers.low next rows

-- what is told of the greatest of these integers that a row has in the column: each that one has is at most that
abbrev pub TellsAmongDown : ℕ → Numbers → List Stored → NextNumber → Type 0
TellsAmongDown column numbers rows Untold = Unit {0}
TellsAmongDown column numbers rows Nothing = (s : Stored) (n : ℤ) → In s rows → HasNumber column n s → IsAmong numbers n → ⊥
TellsAmongDown column numbers rows (At last) = NoneAbove column numbers.high last rows

-- the tickets of the rows that pass the test are among these
abbrev pub HoldAll : (Stored → Type 0) → List Stored → List ℕ → Type 0
HoldAll P rows tickets = (s : Stored) → In s rows → P s → In s.ticket tickets

abbrev pub HoldTrue : (Stored → Bool) → List Stored → List ℕ → Type 0
HoldTrue p rows tickets = (s : Stored) → In s rows → p s ≡ true → In s.ticket tickets

-- the row has one of the integers from the first place on, but none from the second one on
abbrev pub IsBefore : ℕ → Option ℤ → Option ℤ → Stored → Type 0
IsBefore column low from s = (n : ℤ) × HasNumber column n s × IsFrom low n × (IsFrom from n → ⊥)

-- the row has one of the integers up to the first place, but none up to the second one
abbrev pub IsBehind : ℕ → Option ℤ → Option ℤ → Stored → Type 0
IsBehind column high to s = (n : ℤ) × HasNumber column n s × IsUpTo high n × (IsUpTo to n → ⊥)

-- the row has one of these integers in this column
abbrev pub HasAmong : ℕ → Numbers → Stored → Type 0
HasAmong column numbers s = (n : ℤ) × HasNumber column n s × IsAmong numbers n

-- no row that passes the test stays and matches the patterns
abbrev pub NoneStays : (Stored → Type 0) → List Stored → List ℕ → List Pattern → Type 0
NoneStays P rows gone patterns = (s : Stored) → In s rows → P s → stays gone patterns s ≡ false
