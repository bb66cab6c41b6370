-- The constants of an instance.
use Rattle.std.proofs.Common.{◌≡◌, ◌+◌, ℕ, Bool, true, false, List, [], ◌∷◌, length, Some, None, refl, ap, arith}
use Rattle.pj_events.specs.Join.{TupleAt, ClassCol, class_with, constant, instance_from}
use Rattle.pj_puncts.specs.Givens.{marked}
use Rattle.pj_cover.specs.Asking.{constants_in}
use Rattle.pj_shape.specs.Instances.{instance_of}

-- the instance that marks and their constants make
pub constants_instance : (classes : List (List ClassCol)) (input column : ℕ) (marks : List Bool) (xs : List TupleAt) → instance_of marks (constants_in classes input column marks xs) ≡ instance_from classes input column marks xs
constants_instance classes input column [] xs = refl
constants_instance classes input column (true ∷ marks) xs = ap (λ cells. Some (constant (class_with classes input column) xs) ∷ cells) (constants_instance classes input (column + 1) marks xs)
constants_instance classes input column (false ∷ marks) xs = ap (λ cells. None ∷ cells) (constants_instance classes input (column + 1) marks xs)

pub constants_count : (classes : List (List ClassCol)) (input column : ℕ) (marks : List Bool) (xs : List TupleAt) → length (constants_in classes input column marks xs) ≡ marked marks
constants_count classes input column [] xs = refl
constants_count classes input column (true ∷ marks) xs = let e : length (constants_in classes input (column + 1) marks xs) ≡ marked marks = constants_count classes input (column + 1) marks xs in omega (arith, e)
constants_count classes input column (false ∷ marks) xs = let e : length (constants_in classes input (column + 1) marks xs) ≡ marked marks = constants_count classes input (column + 1) marks xs in omega (arith, e)
