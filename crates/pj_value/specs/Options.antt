-- Lists, rows and values that may not be there. They go by cases, so that proofs see their arguments.
use Rattle.std.specs.Prelude.{ℕ, ◌+◌, Bool, false, List, [], ◌∷◌, ◌++◌, Option, Some, None}
use Rattle.pj_value.specs.declared.values.Value.{Value}
use Rattle.pj_value.specs.Values.{value_eq}

-- with one more item at the front, where there is a list
abbrev pub with_first : {A : Type 0} → A → Option (List A) → Option (List A)
with_first x None = None
with_first x (Some xs) = Some (x ∷ xs)

-- with a list in front, where there is a list
abbrev pub with_front : {A : Type 0} → List A → Option (List A) → Option (List A)
with_front front None = None
with_front front (Some xs) = Some (front ++ xs)

-- the first item and the others, where both are there
abbrev pub both : {A : Type 0} → Option A → Option (List A) → Option (List A)
both None others = None
both (Some x) others = with_first x others

-- a number that may not be there, with more
abbrev pub plus : ℕ → Option ℕ → Option ℕ
plus n None = None
plus n (Some m) = Some (n + m)

-- the values of a row that is there
abbrev pub row_there : Option (List Value) → List Value
row_there None = []
row_there (Some row) = row

-- the value is there, and is this one
abbrev pub is_value : Value → Option Value → Bool
is_value value None = false
is_value value (Some there) = value_eq there value
