use Rattle.std.proofs.Common.{◌≡◌, ℕ, ◌<◌, arith, List, [], ◌∷◌, length, slice_index_or, subst, suc}
use Rattle.std.specs.List.{AllZip}

-- lists of one length whose elements are related at each place
pub zips : {X : Type 0} (R : X → X → Type 0) (xs ys : List X) → length ys ≡ length xs
    → ((i : ℕ) (d : X) → i < length xs → R (slice_index_or xs i d) (slice_index_or ys i d)) → AllZip R xs ys
zips R [] [] same each = tt
zips R [] (y ∷ ys) same each = absurd (omega (arith, same))
zips R (x ∷ xs) [] same each = absurd (omega (arith, same))
zips {X = X} R (x ∷ xs) (y ∷ ys) same each = (each 0 x (omega (arith)), zips R xs ys (omega (arith, same)) later) where
  later : (i : ℕ) (d : X) → i < length xs → R (slice_index_or xs i d) (slice_index_or ys i d)
  later i d lt = each (suc i) d (omega (arith, lt))

-- what is related stays so at equal values
pub moved : {X : Type 0} (R : X → X → Type 0) (a b x y : X) → R a b → a ≡ x → b ≡ y → R x y
moved R a b x y r ax by = subst (λ w. R x w) by (subst (λ w. R w b) ax r)
