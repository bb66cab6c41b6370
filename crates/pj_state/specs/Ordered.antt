-- The integers of a column, in order.
use Rattle.std.specs.Prelude.{◌≡◌, ℕ, ℤ, ◌≤ℤ◌, List, Option, Some, None, slice_get}
use Rattle.pj_value.specs.declared.values.Value.TheVariants.{Int}
use Rattle.pj_value.specs.Lists.{In}
use Rattle.pj_state.specs.declared.shared.Stored.{Stored}
use Rattle.pj_state.specs.declared.state.Seek.{Seek}
use Rattle.pj_state.specs.declared.state.Seek.TheVariants.{AtLeast, AtMost}
use Rattle.pj_state.specs.declared.state.NextNumber.{NextNumber}
use Rattle.pj_state.specs.declared.state.NextNumber.TheVariants.{Untold, Nothing, At}

-- the row has this integer in this column
abbrev pub HasNumber : ℕ → ℤ → Stored → Type 0
HasNumber column n s = slice_get s.row column ≡ Some (Int n)

-- one of the rows has this integer in this column
abbrev pub IsNumberThere : ℕ → ℤ → List Stored → Type 0
IsNumberThere column n rows = (s : Stored) × (In s rows × HasNumber column n s)

-- the integer is at least this one; where none is named, each is
abbrev pub IsFrom : Option ℤ → ℤ → Type 0
IsFrom None n = Unit {0}
IsFrom (Some from) n = from ≤ℤ n

-- each integer that a row has in this column from the first of these two on is at least the second
abbrev pub NoneBetween : ℕ → Option ℤ → ℤ → List Stored → Type 0
NoneBetween column from next rows = (s : Stored) (n : ℤ) → In s rows → HasNumber column n s → IsFrom from n → next ≤ℤ n

-- no row has an integer in this column from this one on
abbrev pub NoneFrom : ℕ → Option ℤ → List Stored → Type 0
NoneFrom column from rows = (s : Stored) (n : ℤ) → In s rows → HasNumber column n s → IsFrom from n → ⊥

-- this is the least integer from one on that a row has in this column
pub record IsNextNumber (column : ℕ) (from : Option ℤ) (n : ℤ) (rows : List Stored) : Type 0 where
  pub above : IsFrom from n
  pub there : IsNumberThere column n rows
  pub least : NoneBetween column from n rows

-- the integer is at most this one; where none is named, each is
abbrev pub IsUpTo : Option ℤ → ℤ → Type 0
IsUpTo None n = Unit {0}
IsUpTo (Some to) n = n ≤ℤ to

-- each integer that a row has in this column up to the first of these two is at most the second
abbrev pub NoneAbove : ℕ → Option ℤ → ℤ → List Stored → Type 0
NoneAbove column to last rows = (s : Stored) (n : ℤ) → In s rows → HasNumber column n s → IsUpTo to n → n ≤ℤ last

-- no row has an integer in this column up to this one
abbrev pub NoneUpTo : ℕ → Option ℤ → List Stored → Type 0
NoneUpTo column to rows = (s : Stored) (n : ℤ) → In s rows → HasNumber column n s → IsUpTo to n → ⊥

-- this is the greatest integer up to one that a row has in this column
pub record IsLastNumber (column : ℕ) (to : Option ℤ) (n : ℤ) (rows : List Stored) : Type 0 where
  pub below : IsUpTo to n
  pub there : IsNumberThere column n rows
  pub greatest : NoneAbove column to n rows

-- what is told of the greatest integer up to one that a row has in this column
abbrev pub TellsLast : ℕ → Option ℤ → List Stored → NextNumber → Type 0
TellsLast column to rows Untold = Unit {0}
TellsLast column to rows Nothing = NoneUpTo column to rows
TellsLast column to rows (At n) = IsLastNumber column to n rows

-- what is told of the least integer from one on that a row has in this column
abbrev pub TellsNext : ℕ → Option ℤ → List Stored → NextNumber → Type 0
TellsNext column from rows Untold = Unit {0}
TellsNext column from rows Nothing = NoneFrom column from rows
TellsNext column from rows (At n) = IsNextNumber column from n rows

-- what is told of the integer that is sought and that a row has in this column
abbrev pub TellsNearestRow : ℕ → Seek → List Stored → NextNumber → Type 0
TellsNearestRow column (AtLeast from) rows r = TellsNext column from rows r
TellsNearestRow column (AtMost to) rows r = TellsLast column to rows r
