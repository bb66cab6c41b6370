-- Sets of inputs of a join, which of them are closed, and which inputs an input reaches.
use Rattle.std.specs.Prelude.{ℕ, ◌+◌, ◌<◌, ◌≡◌, Bool, true, false, not, ◌&&◌, ◌||◌, List, [], ◌∷◌, length, slice_index_or}
use Rattle.std.specs.List.{list_any}
use Rattle.pj_shape.specs.declared.joins.ClassCol.{ClassCol}
use Rattle.pj_shape.specs.declared.joins.JoinSpec.{JoinSpec}
use Rattle.pj_shape.specs.Joining.{has_column}

-- whether the class has a column of an input of the set
abbrev pub touches : (ℕ → Bool) → List ClassCol → Bool
touches inside class = list_any (λ c. inside c.input) class

-- whether the column lies in a class with a column of an input of the set
abbrev pub is_bound : (ℕ → Bool) → List (List ClassCol) → ℕ → ℕ → Bool
is_bound inside classes input column =
    list_any (λ class. has_column class (record { input = input; column = column }) && touches inside class) classes

-- whether each marked one of the input's columns, from this column on, lies in such a class
abbrev pub are_bound : (ℕ → Bool) → List (List ClassCol) → ℕ → ℕ → List Bool → Bool
are_bound inside classes input column [] = true
are_bound inside classes input column (mark ∷ marks) =
    (not mark || is_bound inside classes input column) && are_bound inside classes input (column + 1) marks

-- the schemes of an input
abbrev pub schemes_of : List (List (List Bool)) → ℕ → List (List Bool)
schemes_of schemes input = slice_index_or schemes input []

-- whether all marked columns of a scheme of an input lie in classes with a column of an input of the set
abbrev pub is_usable : (ℕ → Bool) → JoinSpec → List (List (List Bool)) → ℕ → ℕ → Bool
is_usable inside spec schemes input scheme = are_bound inside spec.classes input 0 (slice_index_or (schemes_of schemes input) scheme [])

-- no input outside the set has a scheme all of whose marked columns lie in classes with a column of an input of the set
abbrev pub IsClosed : JoinSpec → List (List (List Bool)) → (ℕ → Bool) → Type 0
IsClosed spec schemes inside =
    (input scheme : ℕ) → inside input ≡ false → scheme < length (schemes_of schemes input) → is_usable inside spec schemes input scheme ≡ false

-- every closed set that has the one input has the other
abbrev pub Reaches : JoinSpec → List (List (List Bool)) → ℕ → ℕ → Type 0
Reaches spec schemes from to = (inside : ℕ → Bool) → IsClosed spec schemes inside → inside from ≡ true → inside to ≡ true

-- every input reaches every other
abbrev pub IsSafe : JoinSpec → List (List (List Bool)) → Type 0
IsSafe spec schemes = (from to : ℕ) → from < length spec.inputs → to < length spec.inputs → Reaches spec schemes from to
