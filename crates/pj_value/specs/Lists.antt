-- Members of lists, and numbers among numbers.
use Rattle.std.specs.Prelude.{ℕ, ◌<◌, ◌≡◌, ◌⊎◌, Bool, ◌==◌, List, [], ◌∷◌}
use Rattle.std.specs.List.{list_any}

-- x is an item of the list
abbrev pub In : {A : Type 0} → A → List A → Type 0
In x [] = ⊥
In x (y ∷ ys) = (y ≡ x) ⊎ In x ys

-- whether the number is one of these
abbrev pub has : List ℕ → ℕ → Bool
has ns n = list_any (λ m. m == n) ns

-- each of these numbers is below those behind it
abbrev pub AreRising : List ℕ → Type 0
AreRising [] = Unit {0}
AreRising (n ∷ ns) = ((m : ℕ) → In m ns → n < m) × AreRising ns
