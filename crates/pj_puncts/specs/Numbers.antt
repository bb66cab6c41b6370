-- The numbers of the punctuations with one constant, and how they are found by it.
use Rattle.std.specs.Prelude.{ℕ, zero, suc, ◌≡◌, Bool, true, false, ◌&&◌, nat_eq, if◌then◌else◌, List, [], ◌∷◌, ◌++◌, map, filter, Option, Some, None}
use Rattle.indexmap.specs.IndexMap.{get}
use Rattle.pj_value.specs.Values.{value_eq}
use Rattle.pj_value.specs.declared.values.Value.{Value}
use Rattle.pj_value.specs.Options.{is_value}
use Rattle.pj_events.specs.Patterns.{Pattern, is_wild}
use Rattle.pj_hash.specs.Hashes.{with_value}
use Rattle.pj_pattern.specs.Patterns.{constant_in}
use Rattle.pj_puncts.specs.declared.store.NumberedPunct.{NumberedPunct}
use Rattle.pj_puncts.specs.declared.numbers.Constant.{Constant}
use Rattle.pj_puncts.specs.declared.numbers.NumberLists.{NumberLists}

-- wildcards alone
abbrev pub are_wild : List Pattern → Bool
are_wild [] = true
are_wild (p ∷ ps) = is_wild p && are_wild ps

-- this constant in this column, and wildcards elsewhere
abbrev pub has_only : ℕ → Value → List Pattern → Bool
has_only column value [] = false
has_only zero value (p ∷ ps) = is_value value (constant_in p) && are_wild ps
has_only (suc column) value (p ∷ ps) = is_wild p && has_only column value ps

abbrev pub is_alone : ℕ → Value → NumberedPunct → Bool
is_alone column value k = has_only column value k.punct

abbrev pub number_of : NumberedPunct → ℕ
number_of k = k.number

-- the numbers, in order, of the punctuations with this constant in this column and wildcards elsewhere
abbrev pub numbers_with : ℕ → Value → List NumberedPunct → List ℕ
numbers_with column value kept = map number_of (filter (is_alone column value) kept)

-- ---- how they are found

abbrev pub constant : ℕ → Value → Constant
constant column value = record { column = column; value = value }

abbrev pub same_constant : Constant → Constant → Bool
same_constant x y = nat_eq x.column y.column && value_eq x.value y.value

-- equal constants have equal ones
abbrev pub constant_hash : Constant → ℕ
constant_hash x = with_value x.column x.value

abbrev pub numbers_in : Option (List ℕ) → List ℕ
numbers_in None = []
numbers_in (Some numbers) = numbers

abbrev pub told_by : (Constant → Option (List ℕ)) → ℕ → Value → List ℕ
told_by find column value = numbers_in (find (constant column value))

-- the numbers that the lists have for a constant in a column
abbrev pub told : NumberLists → ℕ → Value → List ℕ
told lists = told_by (get same_constant lists.lists)

-- the lists tell the numbers of these punctuations
abbrev pub AreTold : List NumberedPunct → NumberLists → Type 0
AreTold kept lists = (column : ℕ) (value : Value) → told lists column value ≡ numbers_with column value kept

-- what is changed for one constant
abbrev pub Changes : (List ℕ → List ℕ) → (ℕ → Value → List ℕ) → (ℕ → Value → List ℕ) → Constant → Type 0
Changes f old new key = (column : ℕ) (value : Value) → new column value ≡ (if same_constant key (constant column value) then f (old column value) else old column value)

abbrev pub with_last : ℕ → List ℕ → List ℕ
with_last number numbers = numbers ++ number ∷ []

-- this is the only constant of the patterns, which have wildcards elsewhere
abbrev pub IsOnly : List Pattern → Constant → Type 0
IsOnly patterns key = (column : ℕ) (value : Value) → has_only column value patterns ≡ same_constant key (constant column value)

abbrev pub HasNone : List Pattern → Type 0
HasNone patterns = (column : ℕ) (value : Value) → has_only column value patterns ≡ false

-- the first column without a wildcard
abbrev pub first_filled : List Pattern → ℕ
first_filled [] = 0
first_filled (p ∷ ps) = if is_wild p then suc (first_filled ps) else 0
