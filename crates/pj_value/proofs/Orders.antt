-- The order of values, and the tests whether two values, or two rows, are equal.
use Rattle.std.proofs.Common.{◌≡◌, ◌↔◌, true, false, List, [], ◌∷◌, refl, ap, ap₂, sym, subst, ◌∙◌}
use Rattle.std.specs.declared.cmp.Ordering.{Ordering}
use Rattle.std.specs.declared.cmp.Ordering.TheVariants.{Less, Equal, Greater}
use Rattle.std.specs.Ordering.{ordering_reverse, is_eq, is_gt}
use Rattle.std.specs.Cmp.{IsTotalOrder}
use Rattle.std.proofs.lemmas.Bool.{and_parts, and_from, false≢true}
use Rattle.std.proofs.lemmas.Cmp.{int_cmp_total, nat_list_cmp_total, tied_itself}
use Rattle.std.proofs.lemmas.Map.Lookups.{exact_signed, exact_bytes}
use Rattle.std.proofs.lemmas.Map.Text.{is_eq-slice_cmp}
use Rattle.pj_value.specs.declared.values.Value.{Value}
use Rattle.pj_value.specs.declared.values.Value.TheVariants.{Int, Text}
use Rattle.pj_value.specs.Values.{row_eq, value_cmp, value_eq}

turned : (a b : Value) → value_cmp a b ≡ ordering_reverse (value_cmp b a)
turned (Int m) (Int n) = int_cmp_total.antisymm m n
turned (Int m) (Text y) = refl
turned (Text x) (Int n) = refl
turned (Text x) (Text y) = nat_list_cmp_total.antisymm x y

after : (a b c : Value) → value_cmp a b ≡ Less → value_cmp b c ≡ Less → value_cmp a c ≡ Less
after (Int m) (Int n) (Int o) p q = int_cmp_total.trans m n o p q
after (Int m) (Int n) (Text z) p q = refl
after (Int m) (Text y) (Int o) p q = absurd (cc)
after (Int m) (Text y) (Text z) p q = refl
after (Text x) (Int n) c p q = absurd (cc)
after (Text x) (Text y) (Int o) p q = absurd (cc)
after (Text x) (Text y) (Text z) p q = nat_list_cmp_total.trans x y z p q

alike : (a b c : Value) → value_cmp a b ≡ Equal → value_cmp a c ≡ value_cmp b c
alike (Int m) (Int n) c p = ap (λ (v : Value). value_cmp v c) (ap Int (exact_signed m n p))
alike (Int m) (Text y) c p = absurd (cc)
alike (Text x) (Int n) c p = absurd (cc)
alike (Text x) (Text y) c p = ap (λ (v : Value). value_cmp v c) (ap Text (exact_bytes x y p))

pub total : IsTotalOrder value_cmp
total = record { antisymm = turned; trans = after; congr = alike }

pub same_if_tied : (a b : Value) → value_cmp a b ≡ Equal → a ≡ b
same_if_tied (Int m) (Int n) p = ap Int (exact_signed m n p)
same_if_tied (Int m) (Text y) p = absurd (cc)
same_if_tied (Text x) (Int n) p = absurd (cc)
same_if_tied (Text x) (Text y) p = ap Text (exact_bytes x y p)

pub itself : (a : Value) → value_cmp a a ≡ Equal
itself a = tied_itself total a

pub tied_where_same : (a b : Value) → (value_cmp a b ≡ Equal) ↔ (a ≡ b)
tied_where_same a b = (same_if_tied a b, λ e. ap (λ (v : Value). value_cmp v b) e ∙ itself b)

pub less_if_greater : (a b : Value) → value_cmp a b ≡ Greater → value_cmp b a ≡ Less
less_if_greater a b e = total.antisymm b a ∙ ap ordering_reverse e

pub greater_if_less : (a b : Value) → value_cmp a b ≡ Less → value_cmp b a ≡ Greater
greater_if_less a b e = total.antisymm b a ∙ ap ordering_reverse e

pub less_less : (a b c : Value) → value_cmp a b ≡ Less → value_cmp b c ≡ Less → value_cmp a c ≡ Less
less_less a b c p q = total.trans a b c p q

-- ---- not above

pub not_above_itself : (a : Value) → is_gt (value_cmp a a) ≡ false
not_above_itself a = ap is_gt (itself a)

pub not_above_both : (a b : Value) → is_gt (value_cmp a b) ≡ false → is_gt (value_cmp b a) ≡ false → a ≡ b
not_above_both a b p q = go (value_cmp a b) refl p
  where
    go : (o : Ordering) → value_cmp a b ≡ o → is_gt o ≡ false → a ≡ b
    go Less e t = absurd (false≢true (sym q ∙ ap is_gt (greater_if_less a b e)))
    go Equal e t = same_if_tied a b e
    go Greater e t = absurd (false≢true (sym t))

pub not_above_turned : (a b : Value) → is_gt (value_cmp a b) ≡ true → is_gt (value_cmp b a) ≡ false
not_above_turned a b p = go (value_cmp a b) refl p
  where
    go : (o : Ordering) → value_cmp a b ≡ o → is_gt o ≡ true → is_gt (value_cmp b a) ≡ false
    go Less e t = absurd (false≢true t)
    go Equal e t = absurd (false≢true t)
    go Greater e t = ap is_gt (less_if_greater a b e)

pub not_above_chain : (a b c : Value) → is_gt (value_cmp a b) ≡ false → is_gt (value_cmp b c) ≡ false → is_gt (value_cmp a c) ≡ false
not_above_chain a b c p q = go (value_cmp a b) refl p (value_cmp b c) refl q
  where
    go : (o : Ordering) → value_cmp a b ≡ o → is_gt o ≡ false → (r : Ordering) → value_cmp b c ≡ r → is_gt r ≡ false → is_gt (value_cmp a c) ≡ false
    go Less e i Less f j = ap is_gt (less_less a b c e f)
    go Less e i Equal f j = subst (λ (v : Value). is_gt (value_cmp a v) ≡ false) (same_if_tied b c f) (ap is_gt e)
    go Less e i Greater f j = absurd (false≢true (sym j))
    go Equal e i r f j = subst (λ (v : Value). is_gt (value_cmp v c) ≡ false) (sym (same_if_tied a b e)) (ap is_gt f ∙ j)
    go Greater e i r f j = absurd (false≢true (sym i))

-- ---- the test for equality

-- it is that of the order
pub eq_is : (a b : Value) → value_eq a b ≡ is_eq (value_cmp a b)
eq_is (Int m) (Int n) = refl
eq_is (Int m) (Text y) = refl
eq_is (Text x) (Int n) = refl
eq_is (Text x) (Text y) = sym (is_eq-slice_cmp x y)

pub is_tied : (o : Ordering) → is_eq o ≡ true → o ≡ Equal
is_tied Less e = absurd (cc)
is_tied Equal e = refl
is_tied Greater e = absurd (cc)

pub same_if_equal : (a b : Value) → value_eq a b ≡ true → a ≡ b
same_if_equal a b e = same_if_tied a b (is_tied (value_cmp a b) (sym (eq_is a b) ∙ e))

pub equal_itself : (a : Value) → value_eq a a ≡ true
equal_itself a = eq_is a a ∙ ap is_eq (itself a)

pub equal_if_same : (a b : Value) → a ≡ b → value_eq a b ≡ true
equal_if_same a b e = ap (value_eq a) (sym e) ∙ equal_itself a

pub differ_if_less : (a b : Value) → value_cmp a b ≡ Less → value_eq a b ≡ false
differ_if_less a b e = eq_is a b ∙ ap is_eq e

pub differ_if_greater : (a b : Value) → value_cmp a b ≡ Greater → value_eq a b ≡ false
differ_if_greater a b e = eq_is a b ∙ ap is_eq e

-- ---- rows

pub row_same_if_equal : (vs ws : List Value) → row_eq vs ws ≡ true → vs ≡ ws
row_same_if_equal [] [] t = refl
row_same_if_equal [] (w ∷ ws) t = absurd (false≢true t)
row_same_if_equal (v ∷ vs) [] t = absurd (false≢true t)
row_same_if_equal (v ∷ vs) (w ∷ ws) t =
    let b = and_parts (value_eq v w) (row_eq vs ws) t in ap₂ (λ (x : Value) (xs : List Value). x ∷ xs) (same_if_equal v w b.0) (row_same_if_equal vs ws b.1)

pub row_equal_itself : (vs : List Value) → row_eq vs vs ≡ true
row_equal_itself [] = refl
row_equal_itself (v ∷ vs) = and_from (value_eq v v) (row_eq vs vs) (equal_itself v) (row_equal_itself vs)

pub row_equal_if_same : (vs ws : List Value) → vs ≡ ws → row_eq vs ws ≡ true
row_equal_if_same vs ws e = ap (row_eq vs) (sym e) ∙ row_equal_itself vs

pub row_equal_where_same : (vs ws : List Value) → (row_eq vs ws ≡ true) ↔ (vs ≡ ws)
row_equal_where_same vs ws = (row_same_if_equal vs ws, row_equal_if_same vs ws)
