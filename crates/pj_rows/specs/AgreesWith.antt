-- Whether a row joins with rows that join.
pub use Rattle.pj_shape.specs.Joining.{cell_value}
use Rattle.std.specs.Prelude.{Bool, not, ◌==◌, ◌&&◌, ◌||◌, List}
use Rattle.std.specs.List.{list_all}
use Rattle.pj_value.specs.Values.{value_eq}
use Rattle.pj_events.specs.Join.{ClassCol, TupleAt, Value, value_at}

-- the row has this value in the column, where that is a column of its input
abbrev pub has_there : Value → ClassCol → TupleAt → Bool
has_there v at x = not (x.input == at.input) || value_eq v (value_at x.row at.column)

-- the row, and each of the others, has this value in each column of the class that is of its input
abbrev pub all_have : List ClassCol → List TupleAt → TupleAt → Value → Bool
all_have class xs more v = list_all (λ at. has_there v at more && list_all (has_there v at) xs) class

-- the row's values in the class are those that the others have in it
abbrev pub agrees_with_class : List TupleAt → TupleAt → List ClassCol → Bool
agrees_with_class xs more class = list_all (λ at. not (more.input == at.input) || all_have class xs more (value_at more.row at.column)) class

-- whether the row joins with these, which join with each other
abbrev pub agrees_with : List (List ClassCol) → List TupleAt → TupleAt → Bool
agrees_with classes xs more = list_all (agrees_with_class xs more) classes
