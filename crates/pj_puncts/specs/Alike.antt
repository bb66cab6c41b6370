-- Constants in columns that are equal.
use Rattle.std.proofs.Common.{◌≡◌, Bool, true, false, ◌&&◌, eqb, refl, ap, ap₂, sym, subst}
use Rattle.std.proofs.lemmas.Bool.{eqb-true, eq-eqb, true≢false}
use Rattle.std.specs.Cmp.{IsEquivalence, decided}
use Rattle.pj_value.specs.Values.{value_eq}
use Rattle.pj_value.proofs.Orders.{equal_itself, same_if_equal}
use Rattle.pj_puncts.specs.Numbers.{constant, constant_hash, same_constant}
use Rattle.pj_puncts.specs.declared.numbers.Constant.{Constant}
use Rattle.std.specs.Hash as fed

pub constant_same_if_equal : (x y : Constant) → same_constant x y ≡ true → x ≡ y
constant_same_if_equal x y h = go (eqb x.column y.column) (value_eq x.value y.value) refl refl h
  where
    go : (a b : Bool) → eqb x.column y.column ≡ a → value_eq x.value y.value ≡ b → (a && b) ≡ true → x ≡ y
    go true true p q t = ap₂ constant (eqb-true x.column y.column p) (same_if_equal x.value y.value q)
    go true false p q t = absurd (true≢false (sym t))
    go false b p q t = absurd (true≢false (sym t))

pub constant_equal_itself : (x : Constant) → same_constant x x ≡ true
constant_equal_itself x = ap₂ (λ a b. a && b) (eq-eqb x.column x.column refl) (equal_itself x.value)

pub constant_equal_if_same : (x y : Constant) → x ≡ y → same_constant x y ≡ true
constant_equal_if_same x y e = subst (λ z. same_constant x z ≡ true) e (constant_equal_itself x)

pub constant_hashes_agree : (x y : Constant) → same_constant x y ≡ true → fed.u64 (constant_hash x) ≡ fed.u64 (constant_hash y)
constant_hashes_agree x y t = ap (λ z. fed.u64 (constant_hash z)) (constant_same_if_equal x y t)

pub constants_equal : IsEquivalence same_constant
constants_equal = decided same_constant (λ x y. (constant_same_if_equal x y, constant_equal_if_same x y))
