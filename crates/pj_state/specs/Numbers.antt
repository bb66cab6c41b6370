-- The tickets of integers, and an order of those that have any.
use Rattle.std.specs.Prelude.{◌≡◌, ℕ, ℤ, Bool, true, false, if◌then◌else◌, List, [], ◌∷◌, Option, Some, None}
use Rattle.std.specs.BTreeSet.{BTreeSet, contains}
use Rattle.std.specs.Map.{lookup}
use Rattle.std.specs.Ordering.{int_cmp, int_eq}

-- the tickets that are there
abbrev pub listed : Option (List ℕ) → List ℕ
listed None = []
listed (Some tickets) = tickets

-- the tickets of an integer
abbrev pub number_tickets : List (ℤ × List ℕ) → ℤ → List ℕ
number_tickets entries n = listed (lookup (int_eq n) entries)

abbrev pub has_tickets : List ℕ → Bool
has_tickets [] = false
has_tickets (t ∷ ts) = true

-- the first test passes this integer where it says so, and every other one where the second does
abbrev pub Passes : (ℤ → Bool) → (ℤ → Bool) → ℤ → Bool → Type 0
Passes new old n there = (q : ℤ) → new q ≡ (if int_eq n q then there else old q)

-- whether an integer has tickets
abbrev pub are_there : (ℤ → List ℕ) → ℤ → Bool
are_there numbers n = has_tickets (numbers n)

-- an order, where there is one, has exactly the integers that have tickets
abbrev pub IsOrder : (ℤ → List ℕ) → Option (BTreeSet ℤ) → Type 0
IsOrder numbers None = Unit {0}
IsOrder numbers (Some order) = (n : ℤ) → contains int_cmp order n ≡ are_there numbers n

-- the second order has this integer where it says so, and else those of the first; or there is no order any more
abbrev pub IsPut : Option (BTreeSet ℤ) → Option (BTreeSet ℤ) → ℤ → Bool → Type 0
IsPut old None n there = Unit {0}
IsPut None (Some new) n there = ⊥
IsPut (Some old) (Some new) n there = Passes (contains int_cmp new) (contains int_cmp old) n there

-- the tickets of this integer are all gone, where it says so; every other one has tickets where it had some
abbrev pub IsGone : (ℤ → List ℕ) → (ℤ → List ℕ) → ℤ → Bool → Type 0
IsGone new old n gone = (q : ℤ) → are_there new q ≡ (if gone then (if int_eq n q then false else are_there old q) else are_there old q)
