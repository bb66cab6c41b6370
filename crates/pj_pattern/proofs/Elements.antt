-- The rows and punctuations of two lists of elements, one behind the other.
use Rattle.std.proofs.Common.{◌≡◌, List, [], ◌∷◌, ◌++◌, refl, ap}
use Rattle.pj_value.specs.declared.values.Value.{Value}
use Rattle.pj_pattern.specs.declared.element.Element.{Element}
use Rattle.pj_pattern.specs.declared.element.Element.TheVariants.{Tuple, Punct}
use Rattle.pj_pattern.specs.Elements.{rows_of, puncts_of, with_punct}

pub rows_of-append : (xs ys : List Element) → rows_of (xs ++ ys) ≡ rows_of xs ++ rows_of ys
rows_of-append [] ys = refl
rows_of-append (Tuple row ∷ xs) ys = ap (λ (rows : List (List Value)). row ∷ rows) (rows_of-append xs ys)
rows_of-append (Punct punct ∷ xs) ys = rows_of-append xs ys

pub puncts_of-append : (xs ys : List Element) → puncts_of (xs ++ ys) ≡ puncts_of xs ++ puncts_of ys
puncts_of-append [] ys = refl
puncts_of-append (Tuple row ∷ xs) ys = puncts_of-append xs ys
puncts_of-append (Punct punct ∷ xs) ys = ap (with_punct (Punct punct)) (puncts_of-append xs ys)
