-- Values of one kind of which the first is not above the second.
use Rattle.std.proofs.Common.{◌≡◌, Bool, true, false, not, ◌&&◌, refl, ap, sym, subst, ◌∙◌}
use Rattle.std.specs.declared.cmp.Ordering.{Ordering}
use Rattle.std.specs.declared.cmp.Ordering.TheVariants.{Less, Equal, Greater}
use Rattle.std.specs.Ordering.{is_gt}
use Rattle.std.proofs.Math.Bool.{and-false}
use Rattle.std.proofs.lemmas.Bool.{and_from, and_parts, false≢true}
use Rattle.pj_value.specs.declared.values.Value.{Value}
use Rattle.pj_value.specs.declared.values.Value.TheVariants.{Int, Text}
use Rattle.pj_value.specs.Values.{value_cmp, value_eq}
use Rattle.pj_value.proofs.Orders.{differ_if_greater, differ_if_less, equal_itself, greater_if_less, itself, not_above_chain, same_if_tied}
use Rattle.pj_pattern.specs.Patterns.{same_kind, up_to}

not_gt : (o : Ordering) → not (is_gt o) ≡ true → is_gt o ≡ false
not_gt Less e = refl
not_gt Equal e = refl
not_gt Greater e = absurd (false≢true e)

kinds_chain : (a b c : Value) → same_kind a b ≡ true → same_kind b c ≡ true → same_kind a c ≡ true
kinds_chain (Int m) (Int n) c p q = q
kinds_chain (Int m) (Text y) c p q = absurd (false≢true p)
kinds_chain (Text x) (Int n) c p q = absurd (false≢true p)
kinds_chain (Text x) (Text y) c p q = q

pub up_is_not_above : (a b : Value) → up_to a b ≡ true → is_gt (value_cmp a b) ≡ false
up_is_not_above a b p = not_gt (value_cmp a b) (and_parts (same_kind a b) (not (is_gt (value_cmp a b))) p).1

pub up_chain : (a b c : Value) → up_to a b ≡ true → up_to b c ≡ true → up_to a c ≡ true
up_chain a b c p q =
    let one = and_parts (same_kind a b) (not (is_gt (value_cmp a b))) p in
    let two = and_parts (same_kind b c) (not (is_gt (value_cmp b c))) q in
    and_from (same_kind a c) (not (is_gt (value_cmp a c))) (kinds_chain a b c one.0 two.0) (ap not (not_above_chain a b c (not_gt (value_cmp a b) one.1) (not_gt (value_cmp b c) two.1)))

kind_itself : (a : Value) → same_kind a a ≡ true
kind_itself (Int n) = refl
kind_itself (Text x) = refl

pub up_itself : (a : Value) → up_to a a ≡ true
up_itself a = and_from (same_kind a a) (not (is_gt (value_cmp a a))) (kind_itself a) (ap (λ o. not (is_gt o)) (itself a))

not_up_if_greater : (a b : Value) → value_cmp a b ≡ Greater → up_to a b ≡ false
not_up_if_greater a b e = ap (λ o. same_kind a b && not (is_gt o)) e ∙ and-false (same_kind a b)

-- a value is between one and the same where it is that one
pub pinned : (x v : Value) → value_eq x v ≡ (up_to x v && up_to v x)
pinned x v = go (value_cmp x v) refl
  where
    go : (o : Ordering) → value_cmp x v ≡ o → value_eq x v ≡ (up_to x v && up_to v x)
    go Less e = differ_if_less x v e ∙ sym (ap (λ b. up_to x v && b) (not_up_if_greater v x (greater_if_less x v e)) ∙ and-false (up_to x v))
    go Greater e = differ_if_greater x v e ∙ sym (ap (λ b. b && up_to v x) (not_up_if_greater x v e))
    go Equal e = subst (λ (u : Value). value_eq x u ≡ (up_to x u && up_to u x)) (same_if_tied x v e) (equal_itself x ∙ sym (and_from (up_to x x) (up_to x x) (up_itself x) (up_itself x)))

-- nothing is between one value and a smaller one
pub none_between : (x y v : Value) → value_cmp x y ≡ Greater → (up_to x v && up_to v y) ≡ false
none_between x y v e = go (up_to x v) refl (up_to v y) refl
  where
    go : (b : Bool) → up_to x v ≡ b → (c : Bool) → up_to v y ≡ c → (b && c) ≡ false
    go true p true q = absurd (false≢true (sym (up_is_not_above x y (up_chain x v y p q)) ∙ ap is_gt e))
    go true p false q = refl
    go false p c q = refl
