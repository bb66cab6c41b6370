-- A meet matches what both match.
use Rattle.std.proofs.Common.{◌≡◌, Bool, true, false, not, ◌&&◌, ◌||◌, cond, List, [], ◌∷◌, Option, Some, None, refl, ap, sym, ◌∙◌}
use Rattle.std.specs.declared.cmp.Ordering.{Ordering}
use Rattle.std.specs.declared.cmp.Ordering.TheVariants.{Less, Equal, Greater}
use Rattle.std.specs.Ordering.{is_gt}
use Rattle.std.proofs.lemmas.Bool.{and_from, and_parts, false≢true}
use Rattle.std.proofs.Math.Bool.{and-false, and-true, and_comm}
use Rattle.pj_value.specs.declared.values.Kind.{Kind}
use Rattle.pj_value.specs.declared.values.Value.{Value}
use Rattle.pj_value.specs.declared.values.Value.TheVariants.{Int, Text}
use Rattle.pj_value.specs.Values.{value_cmp, value_eq}
use Rattle.pj_value.proofs.Orders.{less_if_greater, same_if_equal}
use Rattle.pj_pattern.specs.declared.pattern.Form.TheVariants.{Wild, Empty, Constant, Range, Members}
use Rattle.pj_pattern.specs.Patterns.{Pattern, has_value, is_end_of_kind, is_from, is_of_kind, is_to, matches_value, same_kind, up_to}
use Rattle.pj_value.specs.Storable.{greatest_int}
use Rattle.pj_pattern.specs.Normal.{between, by_order, high_end, least_of, low_end, of_ends, of_members, range_of, IsNormal}
use Rattle.pj_pattern.specs.Meets.{constant_if, earlier_high, later_low, matched, meet_of, range_met}
use Rattle.pj_pattern.proofs.UpTo.{up_chain}
use Rattle.pj_pattern.proofs.NormalRanges.{same_kinds}
use Rattle.pj_pattern.proofs.NormalMatches.{between_matches, members_match}
use Rattle.pj_pattern.proofs.NormalMeets.{met_normal}

-- ---- constants and lists

constant_met : (q : Pattern) (c v : Value) → matches_value (constant_if (matches_value q c) c) v ≡ (value_eq c v && matches_value q v)
constant_met q c v = go (value_eq c v) refl (matches_value q c) refl
  where
    go : (b : Bool) → value_eq c v ≡ b → (t : Bool) → matches_value q c ≡ t → matches_value (constant_if t c) v ≡ (b && matches_value q v)
    go true e true f = e ∙ sym (ap (matches_value q) (sym (same_if_equal c v e)) ∙ f)
    go true e false f = sym (ap (matches_value q) (sym (same_if_equal c v e)) ∙ f)
    go false e true f = e
    go false e false f = refl

matched_has : (p : Pattern) (ms : List Value) (v : Value) → has_value (matched p ms) v ≡ (matches_value p v && has_value ms v)
matched_has p [] v = sym (and-false (matches_value p v))
matched_has p (m ∷ ms) v = go (value_eq m v) refl (matches_value p m) refl (matched_has p ms v)
  where
    go : (b : Bool) → value_eq m v ≡ b → (t : Bool) → matches_value p m ≡ t → has_value (matched p ms) v ≡ (matches_value p v && has_value ms v)
        → has_value (cond t (m ∷ matched p ms) (matched p ms)) v ≡ (matches_value p v && (b || has_value ms v))
    go true e true f ih = ap (λ b. b || has_value (matched p ms) v) e ∙ sym (ap (λ b. b && true) (ap (matches_value p) (sym (same_if_equal m v e)) ∙ f))
    go true e false f ih = let none : matches_value p v ≡ false = ap (matches_value p) (sym (same_if_equal m v e)) ∙ f in ih ∙ ap (λ b. b && has_value ms v) none ∙ sym (ap (λ b. b && true) none)
    go false e true f ih = ap (λ b. b || has_value (matched p ms) v) e ∙ ih
    go false e false f ih = ih

list_met : (p : Pattern) (ms : List Value) (v : Value) → matches_value (of_members (matched p ms)) v ≡ (matches_value p v && has_value ms v)
list_met p ms v = members_match (matched p ms) v ∙ matched_has p ms v

-- ---- the ends of normal ranges

ends_low : (low high : Option Value) (x : Value) (to : Option Value) → of_ends low high ≡ Range (Some x) to → low ≡ Some x
ends_low None None x to e = absurd (cc)
ends_low None (Some h) x to e = absurd (cc)
ends_low (Some l) high x to e = cc

ends_high : (low high from : Option Value) (y : Value) → of_ends low high ≡ Range from (Some y) → high ≡ Some y
ends_high None None from y e = absurd (cc)
ends_high None (Some h) from y e = cc
ends_high (Some l) high from y e = cc

between_low : (l h x : Value) (to : Option Value) → between l h ≡ Range (Some x) to → low_end l ≡ Some x
between_low l h x to = go (value_cmp l h)
  where
    go : (o : Ordering) → by_order o l h ≡ Range (Some x) to → low_end l ≡ Some x
    go Less e = ends_low (low_end l) (high_end h) x to e
    go Equal e = absurd (cc)
    go Greater e = absurd (cc)

between_high : (l h : Value) (from : Option Value) (y : Value) → between l h ≡ Range from (Some y) → high_end h ≡ Some y
between_high l h from y = go (value_cmp l h)
  where
    go : (o : Ordering) → by_order o l h ≡ Range from (Some y) → high_end h ≡ Some y
    go Less e = ends_high (low_end l) (high_end h) from y e
    go Equal e = absurd (cc)
    go Greater e = absurd (cc)

-- an end that stays
abbrev StaysLow : Option Value → Type 0
StaysLow None = Unit {0}
StaysLow (Some x) = low_end x ≡ Some x

abbrev StaysHigh : Option Value → Type 0
StaysHigh None = Unit {0}
StaysHigh (Some y) = high_end y ≡ Some y

low_stays : (low high : Option Value) → IsNormal (Range low high) → StaysLow low
low_stays None high n = tt
low_stays (Some (Int m)) None n = between_low (Int m) (Int greatest_int) (Int m) None n
low_stays (Some (Text x)) None n = ends_low (low_end (Text x)) None (Text x) None n
low_stays (Some x) (Some y) n = between_low x y x (Some y) n

high_stays : (low high : Option Value) → IsNormal (Range low high) → StaysHigh high
high_stays low None n = tt
high_stays None (Some y) n = between_high (least_of y) y None y n
high_stays (Some x) (Some y) n = between_high x y (Some x) y n

-- ---- two ranges

-- the range's normal form matches what is between the ends
abbrev Matches : Value → Option Value → Option Value → Type 0
Matches v low high = matches_value (range_of low high) v ≡ (is_from low v && is_to high v)

normal_matches : (v : Value) (low high : Option Value) → IsNormal (Range low high) → Matches v low high
normal_matches v low high n = ap (λ p. matches_value p v) n

some_matches : (v x y : Value) → low_end x ≡ Some x → high_end y ≡ Some y → Matches v (Some x) (Some y)
some_matches v x y p q = between_matches x y v (ap (λ e. is_from e v) p) (ap (λ e. is_to e v) q)

later_one : (C : Option Value → Type 0) (a b : Option Value) → C a → C b → C (later_low a b)
later_one C None b p q = q
later_one C (Some v) None p q = p
later_one C (Some v) (Some w) p q = go (is_gt (value_cmp v w))
  where
    go : (t : Bool) → C (cond t (Some v) (Some w))
    go true = p
    go false = q

earlier_one : (C : Option Value → Type 0) (a b : Option Value) → C a → C b → C (earlier_high a b)
earlier_one C None b p q = q
earlier_one C (Some v) None p q = p
earlier_one C (Some v) (Some w) p q = go (is_gt (value_cmp v w))
  where
    go : (t : Bool) → C (cond t (Some w) (Some v))
    go true = q
    go false = p

abbrev HasOne : Option Value → Option Value → Type 0
HasOne None None = ⊥
HasOne None (Some w) = Unit {0}
HasOne (Some v) b = Unit {0}

lows : (C : Option Value → Type 0) (a b : Option Value) → HasOne a b → StaysLow a → StaysLow b → ((x : Value) → low_end x ≡ Some x → C (Some x)) → C (later_low a b)
lows C None None h s t f = absurd h
lows C None (Some w) h s t f = f w t
lows C (Some v) None h s t f = f v s
lows C (Some v) (Some w) h s t f = later_one C (Some v) (Some w) (f v s) (f w t)

highs : (C : Option Value → Type 0) (a b : Option Value) → HasOne a b → StaysHigh a → StaysHigh b → ((y : Value) → high_end y ≡ Some y → C (Some y)) → C (earlier_high a b)
highs C None None h s t f = absurd h
highs C None (Some w) h s t f = f w t
highs C (Some v) None h s t f = f v s
highs C (Some v) (Some w) h s t f = earlier_one C (Some v) (Some w) (f v s) (f w t)

closed_match : (v : Value) (low high from to : Option Value) → HasOne low from → HasOne high to → IsNormal (Range low high) → IsNormal (Range from to) → Matches v (later_low low from) (earlier_high high to)
closed_match v low high from to h i n o =
    lows (λ l. Matches v l (earlier_high high to)) low from h (low_stays low high n) (low_stays from to o)
    (λ x p. highs (λ e. Matches v (Some x) e) high to i (high_stays low high n) (high_stays from to o) (λ y q. some_matches v x y p q))

later_earlier : (v : Value) (low high from to : Option Value) → IsNormal (Range low high) → IsNormal (Range from to) → Matches v (later_low low from) (earlier_high high to)
later_earlier v None high None to n o = earlier_one (λ e. Matches v None e) high to (normal_matches v None high n) (normal_matches v None to o)
later_earlier v None None (Some w) None n o = normal_matches v (Some w) None o
later_earlier v None None (Some w) (Some z) n o = closed_match v None None (Some w) (Some z) tt tt n o
later_earlier v None (Some y) (Some w) to n o = closed_match v None (Some y) (Some w) to tt tt n o
later_earlier v (Some x) None from None n o = later_one (λ l. Matches v l None) (Some x) from (normal_matches v (Some x) None n) (normal_matches v from None o)
later_earlier v (Some x) None from (Some z) n o = closed_match v (Some x) None from (Some z) tt tt n o
later_earlier v (Some x) (Some y) from to n o = closed_match v (Some x) (Some y) from to tt tt n o

-- the value is above the later of two low ends where it is above both
up_both : (x w v : Value) → same_kind x w ≡ true → same_kind w x ≡ true → is_from (cond (is_gt (value_cmp x w)) (Some x) (Some w)) v ≡ (up_to x v && up_to w v)
up_both x w v k l = go (value_cmp x w) refl (up_to x v) refl (up_to w v) refl
  where
    go : (o : Ordering) → value_cmp x w ≡ o → (b : Bool) → up_to x v ≡ b → (c : Bool) → up_to w v ≡ c → is_from (cond (is_gt o) (Some x) (Some w)) v ≡ (b && c)
    go Greater e true p true q = p
    go Greater e true p false q = absurd (false≢true (sym q ∙ up_chain w x v (and_from (same_kind w x) (not (is_gt (value_cmp w x))) l (ap (λ o. not (is_gt o)) (less_if_greater x w e))) p))
    go Greater e false p c q = p
    go Less e true p c q = q
    go Less e false p true q = absurd (false≢true (sym p ∙ up_chain x w v (and_from (same_kind x w) (not (is_gt (value_cmp x w))) k (ap (λ o. not (is_gt o)) e)) q))
    go Less e false p false q = q
    go Equal e true p c q = q
    go Equal e false p true q = absurd (false≢true (sym p ∙ up_chain x w v (and_from (same_kind x w) (not (is_gt (value_cmp x w))) k (ap (λ o. not (is_gt o)) e)) q))
    go Equal e false p false q = q

down_both : (y z v : Value) → same_kind y z ≡ true → same_kind z y ≡ true → is_to (cond (is_gt (value_cmp y z)) (Some z) (Some y)) v ≡ (up_to v y && up_to v z)
down_both y z v k l = go (value_cmp y z) refl (up_to v y) refl (up_to v z) refl
  where
    go : (o : Ordering) → value_cmp y z ≡ o → (b : Bool) → up_to v y ≡ b → (c : Bool) → up_to v z ≡ c → is_to (cond (is_gt o) (Some z) (Some y)) v ≡ (b && c)
    go Greater e true p c q = q
    go Greater e false p true q = absurd (false≢true (sym p ∙ up_chain v z y q (and_from (same_kind z y) (not (is_gt (value_cmp z y))) l (ap (λ o. not (is_gt o)) (less_if_greater y z e)))))
    go Greater e false p false q = q
    go Less e true p true q = p
    go Less e true p false q = absurd (false≢true (sym q ∙ up_chain v y z p (and_from (same_kind y z) (not (is_gt (value_cmp y z))) k (ap (λ o. not (is_gt o)) e))))
    go Less e false p c q = p
    go Equal e true p true q = p
    go Equal e true p false q = absurd (false≢true (sym q ∙ up_chain v y z p (and_from (same_kind y z) (not (is_gt (value_cmp y z))) k (ap (λ o. not (is_gt o)) e))))
    go Equal e false p c q = p

later_both : (kind : Kind) (low from : Option Value) (v : Value) → is_end_of_kind kind low ≡ true → is_end_of_kind kind from ≡ true → is_from (later_low low from) v ≡ (is_from low v && is_from from v)
later_both kind None from v k l = refl
later_both kind (Some x) None v k l = sym (and-true (up_to x v))
later_both kind (Some x) (Some w) v k l = up_both x w v (same_kinds kind x w k l) (same_kinds kind w x l k)

earlier_both : (kind : Kind) (high to : Option Value) (v : Value) → is_end_of_kind kind high ≡ true → is_end_of_kind kind to ≡ true → is_to (earlier_high high to) v ≡ (is_to high v && is_to to v)
earlier_both kind None to v k l = refl
earlier_both kind (Some y) None v k l = sym (and-true (up_to v y))
earlier_both kind (Some y) (Some z) v k l = down_both y z v (same_kinds kind y z k l) (same_kinds kind z y l k)

and_cross : (a b c d : Bool) → ((a && c) && (b && d)) ≡ ((a && b) && (c && d))
and_cross true true c d = refl
and_cross true false c d = and-false c
and_cross false b c d = refl

ranges_met : (kind : Kind) (low high from to : Option Value) (v : Value) → is_of_kind kind (Range low high) ≡ true → is_of_kind kind (Range from to) ≡ true → IsNormal (Range low high) → IsNormal (Range from to)
    → matches_value (range_of (later_low low from) (earlier_high high to)) v ≡ ((is_from low v && is_to high v) && (is_from from v && is_to to v))
ranges_met kind low high from to v k l n o =
    let one = and_parts (is_end_of_kind kind low) (is_end_of_kind kind high) k in
    let two = and_parts (is_end_of_kind kind from) (is_end_of_kind kind to) l in
    later_earlier v low high from to n o
    ∙ ap (λ b. b && is_to (earlier_high high to) v) (later_both kind low from v one.0 two.0)
    ∙ ap (λ b. (is_from low v && is_from from v) && b) (earlier_both kind high to v one.1 two.1)
    ∙ and_cross (is_from low v) (is_to high v) (is_from from v) (is_to to v)

range_both : (kind : Kind) (low high : Option Value) (q : Pattern) (v : Value) → is_of_kind kind (Range low high) ≡ true → is_of_kind kind q ≡ true → IsNormal (Range low high) → IsNormal q
    → matches_value (range_met low high q) v ≡ ((is_from low v && is_to high v) && matches_value q v)
range_both kind low high Wild v k l n o = sym (and-true (is_from low v && is_to high v))
range_both kind low high Empty v k l n o = sym (and-false (is_from low v && is_to high v))
range_both kind low high (Constant c) v k l n o = constant_met (Range low high) c v ∙ and_comm (value_eq c v) (is_from low v && is_to high v)
range_both kind low high (Range from to) v k l n o = ranges_met kind low high from to v k l n o
range_both kind low high (Members ms) v k l n o = list_met (Range low high) ms v

met_both : (kind : Kind) (p q : Pattern) (v : Value) → is_of_kind kind p ≡ true → is_of_kind kind q ≡ true → IsNormal p → IsNormal q → matches_value (meet_of p q) v ≡ (matches_value p v && matches_value q v)
met_both kind Wild q v k l n o = refl
met_both kind Empty q v k l n o = refl
met_both kind (Constant c) q v k l n o = constant_met q c v
met_both kind (Range low high) q v k l n o = range_both kind low high q v k l n o
met_both kind (Members ms) q v k l n o = list_met q ms v ∙ and_comm (matches_value q v) (has_value ms v)

pub meet_both : (kind : Kind) (p q : Pattern) → is_of_kind kind p ≡ true → is_of_kind kind q ≡ true → IsNormal p → IsNormal q
    → IsNormal (meet_of p q) × ((v : Value) → matches_value (meet_of p q) v ≡ (matches_value p v && matches_value q v))
meet_both kind p q k l n o = (met_normal kind p q k l n o, λ v. met_both kind p q v k l n o)
