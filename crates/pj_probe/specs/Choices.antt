-- How combinations that join are found one tuple after the other.
pub use Rattle.pj_rows.specs.AgreesWith.{all_have, has_there, agrees_with, agrees_with_class}
pub use Rattle.pj_shape.specs.Joining.{cell_value}
use Rattle.std.specs.Prelude.{◌≡◌, ◌<◌, true, ℕ, Bool, ◌==◌, nat_lt, ◌&&◌, ◌||◌, if◌then◌else◌, List, [], ◌∷◌, map, filter, slice_index_or, length}
use Rattle.pj_events.specs.Join.{ClassCol, In, TupleAt, Value, agree, joined, product, upto_from}

-- whether a tuple is older than this one and joins with it
abbrev pub older_joins : List (List ClassCol) → TupleAt → TupleAt → Bool
older_joins classes own y = nat_lt y.ticket own.ticket && agrees_with classes (own ∷ []) y

-- of an input's tuples those that are older than this one and join with it; of its own input itself alone
abbrev pub choice : List (List ClassCol) → TupleAt → List (List TupleAt) → ℕ → List TupleAt
choice classes own sides input =
    if input == own.input then (own ∷ []) else filter (older_joins classes own) (slice_index_or sides input [])

-- the choice of each input
abbrev pub choices : List (List ClassCol) → TupleAt → List (List TupleAt) → List (List TupleAt)
choices classes own sides = map (choice classes own sides) (upto_from 0 (length sides))

-- every combination of these joins
abbrev pub AllJoin : List (List ClassCol) → List (List TupleAt) → Type 0
AllJoin classes lists = (c : List TupleAt) → In c (product lists) → agree classes c ≡ true

-- the row of two tuples
abbrev pub pair : TupleAt → TupleAt → List Value
pair x y = joined (x ∷ y ∷ [])

-- the rows of a tuple with each of these
abbrev pub pairs : List TupleAt → TupleAt → List (List Value)
pairs ys x = map (pair x) ys

-- the tuple is of this one's input, or joins with it
abbrev pub may_join : List (List ClassCol) → TupleAt → TupleAt → Bool
may_join classes own y = (y.input == own.input) || agrees_with classes (own ∷ []) y

-- of the tuple's own input itself alone; of another input tuples among which its choice is all that may join
pub record IsNarrowed (classes : List (List ClassCol)) (own : TupleAt) (sides : List (List TupleAt)) (input : ℕ) (found : List TupleAt) : Type 0 where
  pub alone : input ≡ own.input → found ≡ own ∷ []
  pub among : filter (may_join classes own) found ≡ choice classes own sides input

-- those of each input
pub record AreNarrowed (classes : List (List ClassCol)) (own : TupleAt) (sides lists : List (List TupleAt)) : Type 0 where
  pub count : length lists ≡ length sides
  pub each : (k : ℕ) → k < length lists → IsNarrowed classes own sides k (slice_index_or lists k [])
