-- Ways to take one item of each of some lists.
use Rattle.std.specs.Prelude.{List, [], ◌∷◌, map, flat_map}

-- every way to take one item of each list, in the order of the lists
abbrev pub product : {A : Type 0} → List (List A) → List (List A)
product [] = [] ∷ []
product (xs ∷ xss) = flat_map (λ x. map (λ c. x ∷ c) (product xss)) xs
