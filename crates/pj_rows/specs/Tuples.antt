-- The stored tuples of the inputs of a join.
use Rattle.std.specs.Prelude.{ℕ, List, ◌+◌, ◌<◌, All, [], ◌∷◌, length, map, slice_index_or, Option, Some, None}
use Rattle.pj_value.specs.declared.values.Value.{Value}
use Rattle.pj_state.specs.declared.shared.Stored.{Stored}
use Rattle.pj_state.specs.States.{StateView, pairs, state_of, stored}
use Rattle.pj_events.specs.Join.{In, TupleAt}

-- ---- rows that are looked up

abbrev pub ticket_in : ℕ × List Value → ℕ
ticket_in r = r.0

-- ---- tuples

abbrev pub tuple_in : ℕ → Stored → TupleAt
tuple_in input s = record { ticket = s.ticket; input = input; row = s.row }

-- the tuples of the inputs from this one on, which stand in these states
abbrev pub tuples_in : ℕ → List StateView → List (List TupleAt)
tuples_in input [] = []
tuples_in input (s ∷ ss) = map (tuple_in input) s.rows ∷ tuples_in (input + 1) ss

abbrev pub no_state : StateView
no_state = state_of [] []

abbrev pub state_at : List StateView → ℕ → StateView
state_at states input = slice_index_or states input no_state

-- the rows of each input with their tickets
abbrev pub row_pairs : List StateView → ℕ → List (ℕ × List Value)
row_pairs states input = pairs (state_at states input).rows

-- each row has all columns that are indexed
abbrev pub IsWide : StateView → Type 0
IsWide state = (s : Stored) → In s state.rows → All (λ column. column < length s.row) state.columns

abbrev pub AreWide : List StateView → Type 0
AreWide states = (k : ℕ) → k < length states → IsWide (state_at states k)

abbrev pub under_with : ℕ → Option (List Value) → List Stored
under_with ticket None = []
under_with ticket (Some row) = stored ticket row ∷ []
