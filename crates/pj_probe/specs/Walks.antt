-- What a probe finds over the candidates of each input, and the combinations that a visitor sees.
use Rattle.std.specs.Prelude.{ℕ, ◌+◌, List, [], ◌∷◌, map, filter, flat_map, slice_index_or}
use Rattle.pj_probe.specs.declared.probe.Found.{Found}
use Rattle.pj_events.specs.Join.{ClassCol, TupleAt, Value, agree, joined, product}

-- the ways to take one of each list that join, as rows
abbrev pub combined : List (List ClassCol) → List (List TupleAt) → List (List Value)
combined classes lists = map joined (filter (agree classes) (product lists))

-- what the work of a ticket finds over the candidates of each input
abbrev pub found_in : ℕ → ℕ → List (List ClassCol) → List (List TupleAt) → Found
found_in join ticket classes lists = record { join = join; ticket = ticket; rows = combined classes lists }

-- a row with its ticket, as a tuple of this input
abbrev pub tuple_at : ℕ → ℕ × List Value → TupleAt
tuple_at input pair = record { ticket = pair.0; input = input; row = pair.1 }

-- lists of rows with their tickets, as tuples of the inputs from this one on
abbrev pub sides_at : ℕ → List (List (ℕ × List Value)) → List (List TupleAt)
sides_at input [] = []
sides_at input (side ∷ sides) = map (tuple_at input) side ∷ sides_at (input + 1) sides

abbrev pub itself : List Value → List Value
itself row = row

-- these rows end to end
abbrev pub end_to_end : List (List Value) → List Value
end_to_end rows = flat_map itself rows

-- stands for a row where a list has none
abbrev pub no_row : ℕ × List Value
no_row = (0, [])

-- the row at a place of a side
abbrev pub row_at : List (ℕ × List Value) → ℕ → List Value
row_at side place = (slice_index_or side place no_row).1
