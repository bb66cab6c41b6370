-- How the combinations that join are found one row after the other.
use Rattle.std.specs.Prelude.{◌≡◌, ◌<◌, ℕ, zero, suc, ◌+◌, List, [], ◌∷◌, ◌++◌, drop, length, map, filter, slice_index_or}
use Rattle.pj_events.specs.Join.{ClassCol, TupleAt, Value, agree, joined, product}
use Rattle.pj_probe.specs.Walks.{row_at, sides_at, tuple_at}

-- one of the sides has no row
abbrev pub LacksOne : List (List (ℕ × List Value)) → Type 0
LacksOne sides = (k : ℕ) × (k < length sides) × (slice_index_or sides k [] ≡ [])

-- these tuples with one of each list, where they join
abbrev pub completed : List (List ClassCol) → List TupleAt → List (List TupleAt) → List (List TupleAt)
completed classes xs lists = filter (agree classes) (map (λ c. xs ++ c) (product lists))

-- rows as tuples of the inputs from this one on, whatever their tickets
abbrev pub tuples_of : ℕ → List (List Value) → List TupleAt
tuples_of input [] = []
tuples_of input (row ∷ rows) = tuple_at input (0, row) ∷ tuples_of (input + 1) rows

-- the rows of the combinations that begin with these rows, and join
abbrev pub walked : List (List ClassCol) → List (List (ℕ × List Value)) → List (List Value) → List (List Value)
walked classes sides rows = map joined (completed classes (tuples_of 0 rows) (drop (length rows) (sides_at 0 sides)))

-- those of the first so many rows of the next side
abbrev pub walked_upto : List (List ClassCol) → List (List (ℕ × List Value)) → List (List Value) → ℕ → List (List Value)
walked_upto classes sides rows zero = []
walked_upto classes sides rows (suc n) =
    walked_upto classes sides rows n ++ walked classes sides (rows ++ row_at (slice_index_or sides (length rows) []) n ∷ [])
