-- What tuples that join tell of their parts.
use Rattle.std.proofs.Common.{true, List, [], ◌∷◌, ◌≡◌, inl, inr, map, subst}
use Rattle.pj_shape.specs.Joining.{all_equal}
use Rattle.pj_events.specs.Join.{In, TupleAt, ClassCol, values, part_of, agree}
use Rattle.pj_rows.specs.AgreesWith.{agrees_with}
use Rattle.pj_rows.proofs.Agreeing.{source-of, agrees_with-from}
use Rattle.pj_shape.proofs.Joining.{all_equal-from}
use Rattle.pj_value.proofs.Members.{all_from}
use Rattle.pj_join_laws.proofs.Matching.{agree-mono}

-- no tuples join
pub agree-none : (classes : List (List ClassCol)) → agree classes [] ≡ true
agree-none classes = all_from (λ k. all_equal (values (map part_of []) k)) classes (λ class h. all_equal-from (values (map part_of []) class) (λ v w hv hw. absurd (source-of [] class v hv).of_tuples))

-- any two of tuples that join suit each other
pub pair-agrees_with : (classes : List (List ClassCol)) (xs : List TupleAt) (x y : TupleAt) → agree classes xs ≡ true → In x xs → In y xs → agrees_with classes (x ∷ []) y ≡ true
pair-agrees_with classes xs x y t hx hy = agrees_with-from classes (x ∷ []) y (agree-mono classes (x ∷ y ∷ []) xs sub t)
  where
    sub : (z : TupleAt) → In z (x ∷ y ∷ []) → In z xs
    sub z (inl e) = subst (λ (w : TupleAt). In w xs) e hx
    sub z (inr (inl e)) = subst (λ (w : TupleAt). In w xs) e hy
    sub z (inr (inr k)) = absurd k
