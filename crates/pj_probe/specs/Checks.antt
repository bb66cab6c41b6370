-- What is compared of a row and the rows before it in a combination.
use Rattle.std.specs.Prelude.{ℕ, ◌+◌, ◌≡◌, ◌<◌, ◌≤◌, ◌==◌, ◌&&◌, ◌⊎◌, Bool, not, true, List, [], ◌∷◌, ◌++◌, Option, None, Some, filter, length, map, slice_index_or}
use Rattle.std.specs.List.{list_all}
use Rattle.pj_value.specs.Values.{value_eq}
use Rattle.pj_shape.specs.Joining.{Part, parts_on}
use Rattle.pj_events.specs.Join.{ClassCol, In, Value, joins, value_at}
use Rattle.pj_probe.specs.declared.checks.Check.{Check}

-- the row has the value that the check asks for: that of a row before it, or its own where the check's input has none there
abbrev pub holds : List (List Value) → List Value → Check → Bool
holds rows row check = value_eq (value_at row check.column) (value_at (slice_index_or rows check.from_input row) check.from_column)

abbrev pub all_hold : List (List Value) → List Value → List Check → Bool
all_hold rows row checks = list_all (holds rows row) checks

-- these rows, of the first inputs in order, and one of the next
abbrev pub with_one : List (List Value) → List Value → List Part
with_one rows row = parts_on 0 (rows ++ row ∷ [])

-- where rows of the inputs before this one join, its row joins with them exactly where all checks hold
abbrev pub Decide : List (List ClassCol) → ℕ → List Check → Type 0
Decide classes input checks =
    (rows : List (List Value)) (row : List Value) → length rows ≡ input → joins classes (parts_on 0 rows) ≡ true → all_hold rows row checks ≡ joins classes (with_one rows row)

-- so of each of the first so many inputs
pub record AreChecks (classes : List (List ClassCol)) (upto : ℕ) (checks : List (List Check)) : Type 0 where
  pub count : length checks ≡ upto
  pub each : (input : ℕ) → input < upto → Decide classes input (slice_index_or checks input [])

-- ---- the checks of one class

-- none of the class's columns is of an input below this one, or this is one that is
abbrev pub IsBelow : List ClassCol → ℕ → Option ClassCol → Type 0
IsBelow class limit None = (at : ClassCol) → In at class → at.input < limit → ⊥
IsBelow class limit (Some from) = In from class × (from.input < limit)

-- a column of the class of an input before this one; of this one where the class has none of one before
pub record IsSource (class : List ClassCol) (input : ℕ) (from : ClassCol) : Type 0 where
  pub there : In from class
  pub upto : from.input ≤ input
  pub before : (from.input < input) ⊎ IsBelow class input None

-- where there is one
abbrev pub IsSourceOf : List ClassCol → ℕ → Option ClassCol → Type 0
IsSourceOf class input None = IsBelow class (input + 1) None
IsSourceOf class input (Some from) = IsSource class input from

-- the column is of this input, and not the source itself
abbrev pub is_checked : ℕ → ClassCol → ClassCol → Bool
is_checked input from at = (at.input == input) && not ((at.input == from.input) && (at.column == from.column))

abbrev pub check_from : ClassCol → ClassCol → Check
check_from from at = record { column = at.column; from_input = from.input; from_column = from.column }

-- the columns of this input against the source
abbrev pub checks_from : ℕ → ClassCol → List ClassCol → List Check
checks_from input from class = map (check_from from) (filter (is_checked input from) class)

-- checks that decide for the class stand behind those before
abbrev pub GrewByClass : List ClassCol → ℕ → List Check → List Check → Type 0
GrewByClass class input old new = (more : List Check) × (new ≡ old ++ more) × Decide (class ∷ []) input more
