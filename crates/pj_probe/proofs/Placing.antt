-- The sides of a walk, as the lists that they are seen as.
use Rattle.std.proofs.Common.{◌≡◌, ℕ, ◌<◌, ◌≤◌, List, [], ◌∷◌, map, length, get_or, refl, sym, ap, ◌∙◌, arith}
use Rattle.std.proofs.lemmas.List.{get_or-map, length-map}

-- what a side is seen as stands at its place
pub side-is : {S A : Type 0} (pairs : S → List A) (sides : List S) (i : ℕ) (side : S) → i < length sides → side ≡ get_or sides i side → pairs side ≡ get_or (map pairs sides) i []
side-is pairs sides i side lt is = ap pairs is ∙ sym (get_or-map pairs sides i side [] lt)

pub sides-more : {S A : Type 0} (pairs : S → List A) (sides : List S) (i : ℕ) → i < length sides → i < length (map pairs sides)
sides-more pairs sides i lt = omega (arith, lt, length-map sides pairs)

pub sides-full : {S A : Type 0} (pairs : S → List A) (sides : List S) (i : ℕ) → length sides ≤ i → length (map pairs sides) ≤ i
sides-full pairs sides i le = omega (arith, le, length-map sides pairs)

-- a side without an item
pub lacks-here : {S A : Type 0} (pairs : S → List A) (sides : List S) (i : ℕ) (side : S) → i < length sides → side ≡ get_or sides i side → length (pairs side) ≡ 0 → (k : ℕ) × (k < length (map pairs sides)) × (get_or (map pairs sides) k [] ≡ [])
lacks-here {S} {A} pairs sides i side lt is none = (i, sides-more pairs sides i lt, sym (side-is pairs sides i side lt is) ∙ nothing (pairs side) none)
  where
    nothing : (xs : List A) → length xs ≡ 0 → xs ≡ []
    nothing [] e = refl
    nothing (x ∷ xs) e = absurd (omega (arith, e))
