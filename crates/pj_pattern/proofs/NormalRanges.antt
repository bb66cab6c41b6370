-- The normal forms of ranges.
use Rattle.std.proofs.Common.{◌≡◌, Bool, true, false, Option, Some, None, [], refl, ap, sym, ◌∙◌, cond}
use Rattle.std.specs.declared.cmp.Ordering.{Ordering}
use Rattle.std.specs.declared.cmp.Ordering.TheVariants.{Less, Equal, Greater}
use Rattle.pj_value.specs.declared.values.Kind.{Kind}
use Rattle.pj_value.specs.declared.values.Kind.TheVariants.{Int as IntKind, Text as TextKind}
use Rattle.pj_value.specs.declared.values.Value.{Value}
use Rattle.pj_value.specs.declared.values.Value.TheVariants.{Int, Text}
use Rattle.pj_value.specs.Values.{is_kind, value_cmp, value_eq}
use Rattle.pj_value.proofs.Orders.{same_if_equal}
use Rattle.pj_pattern.specs.declared.pattern.Form.TheVariants.{Range}
use Rattle.pj_pattern.specs.Patterns.{same_kind, is_of_one_kind}
use Rattle.pj_value.specs.Storable.{greatest_int, least_int}
use Rattle.pj_pattern.specs.Normal.{least_of, greatest_of, low_end, high_end, unless_greatest, of_ends, by_order, between, from_low, range_of, IsNormal}

low_least : (v : Value) → value_eq v (least_of v) ≡ true → low_end v ≡ None
low_least v e = ap (λ b. cond b None (Some v)) e

low_other : (v : Value) → value_eq v (least_of v) ≡ false → low_end v ≡ Some v
low_other v e = ap (λ b. cond b None (Some v)) e

high_greatest : (v g : Value) → value_eq v g ≡ true → unless_greatest v (Some g) ≡ None
high_greatest v g e = ap (λ b. cond b None (Some v)) e

high_other : (v g : Value) → value_eq v g ≡ false → unless_greatest v (Some g) ≡ Some v
high_other v g e = ap (λ b. cond b None (Some v)) e

-- from one value to a greater one of its kind, by the tests of both ends
less_normal : (low high : Value) → same_kind low high ≡ true → value_cmp low high ≡ Less → IsNormal (of_ends (low_end low) (high_end high))
less_normal (Int m) (Int n) k e = go (value_eq (Int m) (Int least_int)) refl (value_eq (Int n) (Int greatest_int)) refl
  where
    go : (b : Bool) → value_eq (Int m) (Int least_int) ≡ b → (c : Bool) → value_eq (Int n) (Int greatest_int) ≡ c → IsNormal (of_ends (low_end (Int m)) (high_end (Int n)))
    go true p true q = rw (low_least (Int m) p, high_greatest (Int n) (Int greatest_int) q) refl
    go true p false q = rw (low_least (Int m) p, high_other (Int n) (Int greatest_int) q) (ap (λ (v : Value). by_order (value_cmp v (Int n)) v (Int n)) (sym (same_if_equal (Int m) (Int least_int) p)) ∙ (rw e (rw (low_least (Int m) p, high_other (Int n) (Int greatest_int) q) refl)))
    go false p true q = rw (low_other (Int m) p, high_greatest (Int n) (Int greatest_int) q) (ap (λ (v : Value). by_order (value_cmp (Int m) v) (Int m) v) (sym (same_if_equal (Int n) (Int greatest_int) q)) ∙ (rw e (rw (low_other (Int m) p, high_greatest (Int n) (Int greatest_int) q) refl)))
    go false p false q = rw (low_other (Int m) p, high_other (Int n) (Int greatest_int) q, e, low_other (Int m) p, high_other (Int n) (Int greatest_int) q) refl
less_normal (Int m) (Text y) k e = absurd (cc)
less_normal (Text x) (Int n) k e = absurd (cc)
less_normal (Text x) (Text y) k e = go (value_eq (Text x) (Text [])) refl
  where
    go : (b : Bool) → value_eq (Text x) (Text []) ≡ b → IsNormal (of_ends (low_end (Text x)) (Some (Text y)))
    go true p = rw (low_least (Text x) p) (ap (λ (v : Value). by_order (value_cmp v (Text y)) v (Text y)) (sym (same_if_equal (Text x) (Text []) p)) ∙ (rw e (rw (low_least (Text x) p) refl)))
    go false p = rw (low_other (Text x) p, e, low_other (Text x) p) refl

between_normal : (low high : Value) → same_kind low high ≡ true → IsNormal (between low high)
between_normal low high k = go (value_cmp low high) refl
  where
    go : (o : Ordering) → value_cmp low high ≡ o → IsNormal (by_order o low high)
    go Less e = less_normal low high k e
    go Equal e = refl
    go Greater e = refl

below_normal : (high : Value) → IsNormal (between (least_of high) high)
below_normal (Int n) = between_normal (Int least_int) (Int n) refl
below_normal (Text y) = between_normal (Text []) (Text y) refl

above_normal : (low : Value) → IsNormal (from_low low (greatest_of low))
above_normal (Int m) = between_normal (Int m) (Int greatest_int) refl
above_normal (Text x) = go (value_eq (Text x) (Text [])) refl
  where
    go : (b : Bool) → value_eq (Text x) (Text []) ≡ b → IsNormal (of_ends (low_end (Text x)) None)
    go true p = rw (low_least (Text x) p) refl
    go false p = rw (low_other (Text x) p, low_other (Text x) p) refl

pub same_kinds : (kind : Kind) (a b : Value) → is_kind kind a ≡ true → is_kind kind b ≡ true → same_kind a b ≡ true
same_kinds IntKind (Int m) (Int n) p q = refl
same_kinds IntKind (Int m) (Text y) p q = absurd (cc)
same_kinds IntKind (Text x) b p q = absurd (cc)
same_kinds TextKind (Int m) b p q = absurd (cc)
same_kinds TextKind (Text x) (Int n) p q = absurd (cc)
same_kinds TextKind (Text x) (Text y) p q = refl

one_kind : (low high : Value) → is_of_one_kind (Range (Some low) (Some high)) ≡ true → same_kind low high ≡ true
one_kind (Int m) (Int n) k = refl
one_kind (Int m) (Text y) k = k
one_kind (Text x) (Int n) k = k
one_kind (Text x) (Text y) k = refl

pub range_normal : (low high : Option Value) → is_of_one_kind (Range low high) ≡ true → IsNormal (range_of low high)
range_normal None None k = refl
range_normal None (Some high) k = below_normal high
range_normal (Some low) None k = above_normal low
range_normal (Some low) (Some high) k = between_normal low high (one_kind low high k)
