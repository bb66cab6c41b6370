-- The least and the greatest of a list of values.
use Rattle.std.proofs.Common.{Bool, true, false, cond, List, [], ◌∷◌, ◌≡◌, ◌⊎◌, refl, sym, ◌∙◌, subst, inl, inr, arith}
use Rattle.std.specs.Ordering.{is_gt}
use Rattle.std.proofs.lemmas.Cmp.{upto}
use Rattle.pj_value.specs.declared.values.Value.{Value}
use Rattle.pj_value.specs.Values.{value_eq, value_cmp}
use Rattle.pj_value.specs.Lists.{In}
use Rattle.pj_value.specs.Bags.{SameBag}
use Rattle.pj_events.specs.Operators.{lesser, greater, least_from, greatest_from, least_of, greatest_of}
use Rattle.pj_value.proofs.Orders.{equal_itself, not_above_both, not_above_itself, not_above_turned, same_if_equal, total}
use Rattle.pj_value.proofs.Bags.{member-of}

-- x is not above y
abbrev IsUpTo : Value → Value → Type 0
IsUpTo x y = is_gt (value_cmp x y) ≡ false

-- ---- the least and the greatest

lesser-is : (v w : Value) → (lesser v w ≡ v) ⊎ (lesser v w ≡ w)
lesser-is v w = go (is_gt (value_cmp v w))
  where
    go : (b : Bool) → (cond b w v ≡ v) ⊎ (cond b w v ≡ w)
    go true = inr refl
    go false = inl refl

lesser-upto : (v w : Value) → IsUpTo (lesser v w) v × IsUpTo (lesser v w) w
lesser-upto v w = go (is_gt (value_cmp v w)) refl
  where
    go : (b : Bool) → is_gt (value_cmp v w) ≡ b → IsUpTo (cond b w v) v × IsUpTo (cond b w v) w
    go true e = (not_above_turned v w e, not_above_itself w)
    go false e = (not_above_itself v, e)

greater-is : (v w : Value) → (greater v w ≡ v) ⊎ (greater v w ≡ w)
greater-is v w = go (is_gt (value_cmp v w))
  where
    go : (b : Bool) → (cond b v w ≡ v) ⊎ (cond b v w ≡ w)
    go true = inl refl
    go false = inr refl

greater-upto : (v w : Value) → IsUpTo v (greater v w) × IsUpTo w (greater v w)
greater-upto v w = go (is_gt (value_cmp v w)) refl
  where
    go : (b : Bool) → is_gt (value_cmp v w) ≡ b → IsUpTo v (cond b v w) × IsUpTo w (cond b v w)
    go true e = (not_above_itself v, not_above_turned v w e)
    go false e = (e, not_above_itself w)

least-in : (v : Value) (ws : List Value) → In (least_from v ws) (v ∷ ws)
least-in v [] = inl refl
least-in v (w ∷ ws) = elim (least-in (lesser v w) ws) [
  | inl q ↦ elim (lesser-is v w) [ inl e ↦ inl (sym e ∙ q) | inr e ↦ inr (inl (sym e ∙ q)) ]
  | inr h ↦ inr (inr h)
]

greatest-in : (v : Value) (ws : List Value) → In (greatest_from v ws) (v ∷ ws)
greatest-in v [] = inl refl
greatest-in v (w ∷ ws) = elim (greatest-in (greater v w) ws) [
  | inl q ↦ elim (greater-is v w) [ inl e ↦ inl (sym e ∙ q) | inr e ↦ inr (inl (sym e ∙ q)) ]
  | inr h ↦ inr (inr h)
]

least-upto : (v : Value) (ws : List Value) (x : Value) → In x (v ∷ ws) → IsUpTo (least_from v ws) x
least-upto v [] x (inl q) = subst (IsUpTo v) q (not_above_itself v)
least-upto v [] x (inr h) = absurd h
least-upto v (w ∷ ws) x (inr (inr h)) = least-upto (lesser v w) ws x (inr h)
least-upto v (w ∷ ws) x (inl q) =
    upto total (least_from (lesser v w) ws) (lesser v w) x (least-upto (lesser v w) ws (lesser v w) (inl refl)) (subst (IsUpTo (lesser v w)) q (lesser-upto v w).0)
least-upto v (w ∷ ws) x (inr (inl q)) =
    upto total (least_from (lesser v w) ws) (lesser v w) x (least-upto (lesser v w) ws (lesser v w) (inl refl)) (subst (IsUpTo (lesser v w)) q (lesser-upto v w).1)

greatest-upto : (v : Value) (ws : List Value) (x : Value) → In x (v ∷ ws) → IsUpTo x (greatest_from v ws)
greatest-upto v [] x (inl q) = subst (λ (z : Value). IsUpTo z v) q (not_above_itself v)
greatest-upto v [] x (inr h) = absurd h
greatest-upto v (w ∷ ws) x (inr (inr h)) = greatest-upto (greater v w) ws x (inr h)
greatest-upto v (w ∷ ws) x (inl q) =
    upto total x (greater v w) (greatest_from (greater v w) ws) (subst (λ (z : Value). IsUpTo z (greater v w)) q (greater-upto v w).0) (greatest-upto (greater v w) ws (greater v w) (inl refl))
greatest-upto v (w ∷ ws) x (inr (inl q)) =
    upto total x (greater v w) (greatest_from (greater v w) ws) (subst (λ (z : Value). IsUpTo z (greater v w)) q (greater-upto v w).1) (greatest-upto (greater v w) ws (greater v w) (inl refl))

-- ---- lists that are equal as bags

pub least-same : (xs ys : List Value) → SameBag xs ys → least_of xs ≡ least_of ys
least-same [] [] s = refl
least-same [] (y ∷ ys) s = absurd (omega (arith, s (λ u. 1)))
least-same (x ∷ xs) [] s = absurd (omega (arith, s (λ u. 1)))
least-same (x ∷ xs) (y ∷ ys) s =
    not_above_both (least_from x xs) (least_from y ys)
    (least-upto x xs (least_from y ys) (member-of value_eq same_if_equal equal_itself (y ∷ ys) (x ∷ xs) (λ f. sym (s f)) (least_from y ys) (least-in y ys)))
    (least-upto y ys (least_from x xs) (member-of value_eq same_if_equal equal_itself (x ∷ xs) (y ∷ ys) s (least_from x xs) (least-in x xs)))

pub greatest-same : (xs ys : List Value) → SameBag xs ys → greatest_of xs ≡ greatest_of ys
greatest-same [] [] s = refl
greatest-same [] (y ∷ ys) s = absurd (omega (arith, s (λ u. 1)))
greatest-same (x ∷ xs) [] s = absurd (omega (arith, s (λ u. 1)))
greatest-same (x ∷ xs) (y ∷ ys) s =
    not_above_both (greatest_from x xs) (greatest_from y ys)
    (greatest-upto y ys (greatest_from x xs) (member-of value_eq same_if_equal equal_itself (x ∷ xs) (y ∷ ys) s (greatest_from x xs) (greatest-in x xs)))
    (greatest-upto x xs (greatest_from y ys) (member-of value_eq same_if_equal equal_itself (y ∷ ys) (x ∷ xs) (λ f. sym (s f)) (greatest_from y ys) (greatest-in y ys)))
