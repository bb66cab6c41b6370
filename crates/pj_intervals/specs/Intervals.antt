-- Which of some patterns is the first that a value matches.
use Rattle.std.specs.Prelude.{◌≡◌, ℕ, List, [], ◌∷◌, Option, Some, None, if◌then◌else◌}
use Rattle.std.specs.Option.{option_or}
use Rattle.pj_value.specs.declared.values.Value.{Value}
use Rattle.pj_pattern.specs.Patterns.{Pattern, matches_value}
use Rattle.pj_intervals.specs.declared.steps.Step.{Step}
use Rattle.pj_intervals.specs.declared.index.FirstIndex.{FirstIndex}
use Rattle.pj_intervals.specs.Steps.{IsSorted, place_at}

-- a pattern and its place
pub record Entry : Type 0 where
  pub pattern : Pattern
  pub place : ℕ

-- the place of the first pattern that the value matches
abbrev pub first_place : Value → List Entry → Option ℕ
first_place value [] = None
first_place value (e ∷ es) = if matches_value e.pattern value then Some e.place else first_place value es

-- what the first of some step functions has that has anything for the value
abbrev pub first_in : List (List Step) → Value → Option ℕ
first_in [] value = None
first_in (level ∷ levels) value = option_or (place_at level value) (first_in levels value)

abbrev pub AreSorted : List (List Step) → Type 0
AreSorted [] = Unit {0}
AreSorted (level ∷ levels) = IsSorted level × AreSorted levels

-- the index answers for every value what these patterns in a row do
abbrev pub Answers : FirstIndex → List Entry → Type 0
Answers index kept = AreSorted index.levels.items × ((value : Value) → first_in index.levels.items value ≡ first_place value kept)

-- the new ones are in order where the old ones are, and have for every value what those have
abbrev pub IsAsGood : List (List Step) → List (List Step) → Type 0
IsAsGood old new = (AreSorted old → AreSorted new) × ((value : Value) → first_in new value ≡ first_in old value)
