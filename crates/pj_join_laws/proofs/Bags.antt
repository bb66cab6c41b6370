-- The weight of products, and of one number among distinct ones.
use Rattle.std.proofs.Common.{ℕ, ◌+◌, ◌≤◌, Bool, true, false, cond, ◌||◌, List, [], ◌∷◌, ◌≡◌, map, refl, sym, ◌∙◌, subst, eqb, arith}
use Rattle.std.proofs.lemmas.Bool.{false≢true, eqb-true}
pub use Rattle.pj_events.specs.Join.{AreDistinct}
use Rattle.pj_events.specs.Join.{has, product}
use Rattle.pj_value.specs.Bags.{weigh}
use Rattle.pj_value.proofs.Bags.{weigh-map, weigh-flat_map, weigh-agree}

pub weigh-product : {A : Type 0} (f : List A → ℕ) (xs : List A) (xss : List (List A)) → weigh f (product (xs ∷ xss)) ≡ weigh (λ x. weigh (λ c. f (x ∷ c)) (product xss)) xs
weigh-product f xs xss =
    weigh-flat_map f (λ x. map (λ c. x ∷ c) (product xss)) xs
    ∙ weigh-agree (λ x. weigh f (map (λ c. x ∷ c) (product xss))) (λ x. weigh (λ c. f (x ∷ c)) (product xss)) xs (λ x h. weigh-map f (λ c. x ∷ c) (product xss))

weigh-none : (t a : ℕ) (ns : List ℕ) → has ns t ≡ false → weigh (λ u. cond (eqb u t) a 0) ns ≡ 0
weigh-none t a [] h = refl
weigh-none t a (n ∷ ns) h = go (eqb n t) h (weigh-none t a ns)
  where
    go : (b : Bool) → (b || has ns t) ≡ false → (has ns t ≡ false → weigh (λ u. cond (eqb u t) a 0) ns ≡ 0) → cond b a 0 + weigh (λ u. cond (eqb u t) a 0) ns ≡ 0
    go true e ih = absurd (false≢true (sym e))
    go false e ih = omega (arith, ih e)

pub weigh-once : (t a : ℕ) (ns : List ℕ) → AreDistinct ns → has ns t ≡ true → weigh (λ u. cond (eqb u t) a 0) ns ≡ a
weigh-once t a [] d h = absurd (false≢true h)
weigh-once t a (n ∷ ns) d h = go (eqb n t) (λ e. subst (λ k. has ns k ≡ false) (eqb-true n t e) d.0) h (weigh-once t a ns d.1)
  where
    go : (b : Bool) → (b ≡ true → has ns t ≡ false) → (b || has ns t) ≡ true → (has ns t ≡ true → weigh (λ u. cond (eqb u t) a 0) ns ≡ a) → cond b a 0 + weigh (λ u. cond (eqb u t) a 0) ns ≡ a
    go true e k ih = omega (arith, weigh-none t a ns (e refl))
    go false e k ih = omega (arith, ih k)

-- over numbers that stand once each, at most
pub weigh-at_most : (t a : ℕ) (ns : List ℕ) → AreDistinct ns → weigh (λ u. cond (eqb u t) a 0) ns ≤ a
weigh-at_most t a [] d = omega arith
weigh-at_most t a (n ∷ ns) d = go (eqb n t) (λ e. subst (λ k. has ns k ≡ false) (eqb-true n t e) d.0) (weigh-at_most t a ns d.1)
  where
    go : (b : Bool) → (b ≡ true → has ns t ≡ false) → weigh (λ u. cond (eqb u t) a 0) ns ≤ a → cond b a 0 + weigh (λ u. cond (eqb u t) a 0) ns ≤ a
    go true e ih = omega (arith, weigh-none t a ns (e refl))
    go false e ih = omega (arith, ih)
