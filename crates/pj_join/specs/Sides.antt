-- The stored tuples of each input, and all of them in order of tickets.
use Rattle.std.specs.Prelude.{ℕ, ◌+◌, ◌<◌, ◌≡◌, All, nat_lt, ◌==◌, if◌then◌else◌, List, [], ◌∷◌, Option, Some, None, filter, length, map}
use Rattle.pj_state.specs.declared.shared.Stored.{Stored}
use Rattle.pj_state.specs.States.{StateView, row_under}
use Rattle.pj_puncts.specs.Stores.{Store}
use Rattle.pj_cover.specs.Asking.{punct_of}
use Rattle.pj_events.specs.Join.{In, PunctAt, TupleAt, Value}
use Rattle.pj_join.specs.declared.place.Place.{Place}
use Rattle.pj_rows.specs.Tuples.{tuples_in, state_at}
use Rattle.pj_waiting.specs.Holding.{held_at}

-- ---- one list of several, in order of numbers

-- the item, put before the first that has no smaller number
abbrev pub put : {A : Type 0} → (A → ℕ) → A → List A → List A
put number x [] = x ∷ []
put number x (y ∷ ys) = if nat_lt (number y) (number x) then (y ∷ put number x ys) else (x ∷ y ∷ ys)

abbrev pub put_all : {A : Type 0} → (A → ℕ) → List A → List A → List A
put_all number [] ys = ys
put_all number (x ∷ xs) ys = put number x (put_all number xs ys)

-- the items of these lists in order of their numbers
abbrev pub merged : {A : Type 0} → (A → ℕ) → List (List A) → List A
merged number [] = []
merged number (xs ∷ xss) = put_all number xs (merged number xss)

abbrev pub ticket_at : TupleAt → ℕ
ticket_at x = x.ticket

-- all stored tuples, in order of tickets
abbrev pub log_of : List StateView → List TupleAt
log_of row_states = merged ticket_at (tuples_in 0 row_states)

-- where a tuple stands
abbrev pub place_of : TupleAt → Place
place_of x = record { ticket = x.ticket; input = x.input }

-- the tuple with this row at a place
abbrev pub arrived_with : Place → Option (List Value) → Option TupleAt
arrived_with p None = None
arrived_with p (Some row) = Some (record { ticket = p.ticket; input = p.input; row = row })

-- the tuple that stands at a place
abbrev pub arrived_at : List StateView → Place → Option TupleAt
arrived_at row_states p = arrived_with p (row_under p.ticket (state_at row_states p.input).rows)

-- the tuple that stands at the first of these places
abbrev pub first_of : List StateView → List Place → Option TupleAt
first_of row_states [] = None
first_of row_states (p ∷ ps) = arrived_at row_states p

-- the indexed columns are columns of the input, and its rows fit it
pub record IsShaped (n : ℕ) (state : StateView) : Type 0 where
  pub indexed : All (λ column. column < n) state.columns
  pub fit : (s : Stored) → In s state.rows → length s.row ≡ n

-- there is one for each of these numbers of columns
abbrev pub AreAllShaped : List ℕ → List StateView → Type 0
AreAllShaped [] [] = Unit {0}
AreAllShaped [] (s ∷ ss) = ⊥
AreAllShaped (n ∷ ns) [] = ⊥
AreAllShaped (n ∷ ns) (s ∷ ss) = IsShaped n s × AreAllShaped ns ss

-- the punctuations of the inputs from this one on, which stand in these stores
abbrev pub held_in : ℕ → List Store → List (List PunctAt)
held_in input [] = []
held_in input (s ∷ ss) = map (punct_of input) s.kept ∷ held_in (input + 1) ss

-- all punctuations, in order of tickets
abbrev pub puncts_of : List Store → List PunctAt
puncts_of punct_stores = merged held_at (held_in 0 punct_stores)

-- those of an input
abbrev pub heard_of : ℕ → List PunctAt → List PunctAt
heard_of input ps = filter (λ p. p.input == input) ps
