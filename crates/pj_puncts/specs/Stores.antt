-- Punctuations with numbers, and the first of them that a row matches.
use Rattle.std.specs.Prelude.{◌≡◌, ◌≤◌, ◌<◌, ◌⊎◌, ℕ, ⊤, Bool, true, false, ◌&&◌, nat_lt, List, [], ◌∷◌, Option, Some, None, if◌then◌else◌}
use Rattle.std.specs.List.{list_any}
use Rattle.pj_value.specs.declared.values.Value.{Value}
use Rattle.pj_pattern.specs.Columns.{matches_row}
use Rattle.pj_value.specs.Lists.{In}
use Rattle.pj_events.specs.Patterns.{Pattern, covers}
use Rattle.pj_puncts.specs.declared.store.NumberedPunct.{NumberedPunct}

-- the number of columns, and the punctuations in order of their numbers
pub record Store : Type 0 where
  pub arity : ℕ
  pub kept : List NumberedPunct

-- each of these has a number above this one
abbrev pub AllAbove : ℕ → List NumberedPunct → Type 0
AllAbove n [] = ⊤
AllAbove n (k ∷ ks) = (n < k.number) × AllAbove n ks

-- the numbers rise
abbrev pub AreRising : List NumberedPunct → Type 0
AreRising [] = ⊤
AreRising (k ∷ ks) = AllAbove k.number ks × AreRising ks

-- this number is above that of each of these
abbrev pub IsAbove : ℕ → List NumberedPunct → Type 0
IsAbove n [] = ⊤
IsAbove n (k ∷ ks) = (k.number < n) × IsAbove n ks

-- the punctuation is one of these
abbrev pub IsOneOf : List NumberedPunct → List Pattern → Type 0
IsOneOf kept patterns = (number : ℕ) × In (record { punct = patterns; number = number }) kept

-- the number of the first punctuation that the row matches
abbrev pub first_match_of : List NumberedPunct → List Value → Option ℕ
first_match_of [] row = None
first_match_of (k ∷ ks) row = if matches_row k.punct row then Some k.number else first_match_of ks row

-- one of these has this number and is matched by the row
abbrev pub IsMatched : List NumberedPunct → List Value → ℕ → Type 0
IsMatched [] row n = ⊥
IsMatched (k ∷ ks) row n = ((k.number ≡ n) × (matches_row k.punct row ≡ true)) ⊎ IsMatched ks row n

-- the least number of a punctuation that the row matches, or that there is none
abbrev pub IsLeastMatch : List NumberedPunct → List Value → Option ℕ → Type 0
IsLeastMatch kept row None = (n : ℕ) → IsMatched kept row n → ⊥
IsLeastMatch kept row (Some least) = IsMatched kept row least × ((n : ℕ) → IsMatched kept row n → least ≤ n)

-- one of these, with a number below this one, covers the instance
abbrev pub covered_below : List NumberedPunct → ℕ → List (Option Value) → Bool
covered_below kept below instance = list_any (λ k. nat_lt k.number below && covers k.punct instance) kept

-- one of these covers the instance
abbrev pub covered_by_any : List NumberedPunct → List (Option Value) → Bool
covered_by_any kept instance = list_any (λ k. covers k.punct instance) kept

-- whether one covers the instance, and whether one below this number does where one is told
abbrev pub TellsCover : List NumberedPunct → ℕ → List (Option Value) → Option ℕ → Type 0
TellsCover kept below instance None = covered_by_any kept instance ≡ false
TellsCover kept below instance (Some n) = (covered_by_any kept instance ≡ true) × (nat_lt n below ≡ covered_below kept below instance)
