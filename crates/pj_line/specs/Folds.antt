-- Bytes that go one by one to the front of a result.
use Rattle.std.specs.Prelude.{ℕ, List, [], ◌∷◌}

-- the bytes go to the front, the last of them first
abbrev pub folded : {R : Type 0} → (ℕ → R → R) → List ℕ → R → R
folded f [] r = r
folded f (x ∷ xs) r = f x (folded f xs r)
