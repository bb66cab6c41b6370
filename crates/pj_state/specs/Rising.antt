-- Lists whose items have numbers that rise.
use Rattle.std.specs.Prelude.{◌≡◌, ℕ, ◌+◌, ◌<◌, ◌≤◌, Bool, not, ◌==◌, if◌then◌else◌, List, [], ◌∷◌, Option, Some, None, filter, length, slice_index_or}

-- each item's number is greater than this one
abbrev pub AllAbove : {A : Type 0} → (A → ℕ) → ℕ → List A → Type 0
AllAbove number n [] = Unit {0}
AllAbove number n (x ∷ xs) = (n < number x) × AllAbove number n xs

-- each item's number is less than this one
abbrev pub AllBelow : {A : Type 0} → (A → ℕ) → ℕ → List A → Type 0
AllBelow number n [] = Unit {0}
AllBelow number n (x ∷ xs) = (number x < n) × AllBelow number n xs

-- the numbers rise from item to item
abbrev pub IsRising : {A : Type 0} → (A → ℕ) → List A → Type 0
IsRising number [] = Unit {0}
IsRising number (x ∷ xs) = AllAbove number (number x) xs × IsRising number xs

-- the first item with this number
abbrev pub first_with : {A : Type 0} → (A → ℕ) → ℕ → List A → Option A
first_with number n [] = None
first_with number n (x ∷ xs) = if number x == n then Some x else first_with number n xs

-- the item has another number
abbrev pub is_other : {A : Type 0} → (A → ℕ) → ℕ → A → Bool
is_other number n x = not (number x == n)

-- the items with other numbers
abbrev pub without : {A : Type 0} → (A → ℕ) → ℕ → List A → List A
without number n xs = filter (is_other number n) xs

-- a number for itself
abbrev pub itself : ℕ → ℕ
itself n = n

-- the place splits the list: the item before it has at most this number, the one at it a greater one
pub record SplitsAt {A : Type 0} (number : A → ℕ) (n : ℕ) (xs : List A) (at : ℕ) : Type 0 where
  pub within : at ≤ length xs
  pub before : (k : ℕ) (d : A) → k + 1 ≡ at → number (slice_index_or xs k d) ≤ n
  pub behind : (d : A) → at < length xs → n < number (slice_index_or xs at d)
