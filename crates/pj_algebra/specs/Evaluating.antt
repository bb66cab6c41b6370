-- What each step of an evaluation over complete lists makes.
use Rattle.std.specs.Prelude.{Bool, List, [], ◌∷◌, ◌++◌, if◌then◌else◌, flat_map, ℤ, pos, ◌-ℤ◌}
use Rattle.std.specs.List.{list_all, list_any}
use Rattle.pj_value.specs.declared.values.Value.{Value}
use Rattle.pj_value.specs.Values.{row_eq, value_eq}
use Rattle.pj_shape.specs.declared.joins.ClassCol.{ClassCol}
use Rattle.pj_shape.specs.Joining.{Part, joined_row, joins, parts_on, values, values_in}
use Rattle.pj_events.specs.Operators.{above_zero, below_zero}

-- ---- joins

-- whether the value is equal to each of these
abbrev pub equals_all : List Value → Value → Bool
equals_all vs v = list_all (value_eq v) vs

-- whether the value is equal to the one that these rows have in a column, where they have one
abbrev pub equals_at : List Part → Value → ClassCol → Bool
equals_at parts v at = list_all (value_eq v) (values_in parts at)

-- whether the value that these rows have in a column, where they have one, is equal to all that they have in the class
abbrev pub agrees_at : List Part → List ClassCol → ClassCol → Bool
agrees_at parts class at = list_all (equals_all (values parts class)) (values_in parts at)

-- the combinations that join and begin with these rows, one of each of the first inputs, where these lists are the other inputs' rows
abbrev pub completions : List (List ClassCol) → List (List Value) → List (List (List Value)) → List (List Value)
completions classes rows [] = if joins classes (parts_on 0 rows) then joined_row (parts_on 0 rows) ∷ [] else []
completions classes rows (list ∷ lists) = flat_map (λ row. completions classes (rows ++ row ∷ []) lists) list

-- ---- groups

-- the keys with one more, where it is not among them
abbrev pub with_key : List (List Value) → List Value → List (List Value)
with_key keys key = if list_any (row_eq key) keys then keys else keys ++ key ∷ []

-- the integer; a text counts as 0
abbrev pub number_of : Value → ℤ
number_of v = pos (above_zero v) -ℤ pos (below_zero v)
