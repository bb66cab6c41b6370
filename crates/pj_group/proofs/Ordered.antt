-- Indexes of groups by their integers in order.
use Rattle.std.proofs.Common.{ℕ, ℤ, zero, suc, ◌+◌, ◌-◌, ◌^◌, ◌<◌, ◌≤◌, Bool, true, false, cond, not, ◌&&◌, ◌||◌, List, [], ◌∷◌, ◌++◌, Option, Some, None, ◌≡◌, filter, map, length, refl, sym, ap, ap₂, ◌∙◌, subst, arith, length-append}
use Rattle.std.specs.BTreeMap.{is_at}
use Rattle.std.specs.BTreeMap.Range.{IsLeBy, IsLtBy, is_from_start, is_past_end, range_contains}
use Rattle.std.specs.BTreeSet.{Updates, keys_between}
use Rattle.std.specs.List.{Contains, list_any, slice_get}
use Rattle.std.specs.Ordering.{int_cmp, is_eq, is_gt, is_le, is_lt, nat_cmp, ordering_then}
use Rattle.std.specs.declared.cmp.Ordering.{Ordering}
use Rattle.std.specs.declared.cmp.Ordering.TheVariants.{Less, Equal, Greater}
use Rattle.std.specs.Prelude.{nat_eq}
use Rattle.std.specs.Bound.{IsForward as AreForward}
use Rattle.std.specs.declared.ops.Bound.{Bound}
use Rattle.std.proofs.lemmas.Bool.Decides.{nat_tests}
use Rattle.std.proofs.lemmas.Bool.{and_from, and_parts, eq-eqb, false_from_ne_true, false≢true}
use Rattle.std.proofs.lemmas.Map.Lookups.{exact_signed, exact_unsigned}
use Rattle.std.proofs.lemmas.Map.Entries.{length-keys_of}
use Rattle.std.proofs.lemmas.Map.Views.{Contains-from_any, exact_unsigned_eq}
use Rattle.std.proofs.lemmas.Option.{slice_get_within}
use Rattle.pj_value.specs.declared.values.Value.{Value}
use Rattle.pj_value.specs.declared.values.Value.TheVariants.{Int, Text}
use Rattle.pj_value.proofs.Orders.{greater_if_less, is_tied}
use Rattle.pj_pattern.specs.declared.pattern.Form.TheVariants.{Range}
use Rattle.pj_pattern.specs.Patterns.{is_from, is_to, matches_value}
use Rattle.pj_events.specs.Patterns.{Pattern, matches_row}
use Rattle.pj_events.specs.Tables.{Tally}
use Rattle.pj_group.specs.Orders.{AreEnds, FindsAll, HasInteger, HasIntegerMore, HasIntegers, HasOthers, HaveEnd, IsForward, IsOrderOf, IsRangeSought, IsUpTo, NeedsInteger, first_of, is_between, is_kept, last_of, place_cmp}
use Rattle.pj_group.specs.Slots.{GroupSlot, OpensNone, key_while_open, open_at, open_key}
use Rattle.pj_group.specs.declared.order_index.Integers.{Integers}
use Rattle.pj_group.specs.declared.order_index.OrderIndex.{OrderIndex}
use Rattle.std.specs.Option.{IfSome, option_map}

-- ---- keys that come

front_get : {A : Type 0} (xs ys : List A) (at : ℕ) → at < length xs → slice_get (xs ++ ys) at ≡ slice_get xs at
front_get [] ys at lt = absurd (omega (arith, lt))
front_get (x ∷ xs) ys zero lt = refl
front_get (x ∷ xs) ys (suc at) lt = front_get xs ys at (omega (arith, lt))

pub order_push : (column : ℕ) (slots more : List GroupSlot) (index : OrderIndex) → IsOrderOf column slots index → IsOrderOf column (slots ++ more) index
order_push column slots more index is = record {
  within = omega (arith, is.within, length-append slots more);
  kept = λ at key n lt there has. is.kept at key n lt (ap open_key (sym (front_get slots more at (omega (arith, lt, is.within)))) ∙ there) has;
}

-- the key of an open group
is_key : (key k : List Value) (states : Option (List Tally)) → key_while_open key states ≡ Some k → key ≡ k
is_key key k None e = absurd (cc)
is_key key k (Some tallies) e = let f : Some key ≡ Some k = e in cc

pub order_more : (column : ℕ) (slots : List GroupSlot) (key : List Value) (states : Option (List Tally)) (old new : OrderIndex) → slice_get slots old.upto ≡ Some (key, states) → IsOrderOf column slots old → HasIntegerMore column key old new
    → IsOrderOf column slots new
order_more column slots key states old new there is more = record {
  within = omega (arith, slice_get_within slots old.upto (key, states) there, more.upto);
  kept = λ at k n lt t has. go at k n (nat_eq at old.upto) refl lt t has;
}
  where
    go : (at : ℕ) (k : List Value) (n : ℤ) (b : Bool) → nat_eq at old.upto ≡ b → at < new.upto → open_at slots at ≡ Some k → slice_get k column ≡ Some (Int n) → is_kept new n at ≡ true
    go at k n true e lt t has =
        let same : at ≡ old.upto = exact_unsigned_eq at old.upto e in
        let is_k : key ≡ k = is_key key k states (ap open_key (sym there ∙ ap (slice_get slots) (sym same)) ∙ t) in
        subst (λ i. is_kept new n i ≡ true) (sym same) (more.last n (ap (λ (ks : List Value). slice_get ks column) is_k ∙ has))
    go at k n false e lt t has = more.kept n at (is.kept at k n (below at e lt) t has)
      where
        below : (at : ℕ) → nat_eq at old.upto ≡ false → at < new.upto → at < old.upto
        below at e lt = go-below (λ s. false≢true (sym e ∙ eq-eqb at old.upto s)) (omega (arith, lt, more.upto))
          where
            go-below : (at ≡ old.upto → ⊥) → at < old.upto + 1 → at < old.upto
            go-below differ h = omega (arith, differ, h)

pub order_same : (column : ℕ) (slots : List GroupSlot) (old new : OrderIndex) → IsOrderOf column slots old → HasIntegers old new → IsOrderOf column slots new
order_same column slots old new is same = record {
  within = omega (arith, is.within, same.upto);
  kept = λ at key n lt there has. same.kept n at (is.kept at key n (omega (arith, lt, same.upto)) there has);
}

-- ---- groups that are closed

pub order_closed : (column : ℕ) (old new : List GroupSlot) (index : OrderIndex) → OpensNone old new → IsOrderOf column old index → IsOrderOf column new index
order_closed column old new index none is = record {
  within = omega (arith, is.within, ap length none.keys, length-keys_of old, length-keys_of new);
  kept = λ at key n lt there has. is.kept at key n lt (none.was_open at key there) has;
}

-- ---- what a range of integers finds

both_equal : (o p : Ordering) → ordering_then o p ≡ Equal → (o ≡ Equal) × (p ≡ Equal)
both_equal Less p e = absurd (cc)
both_equal Equal p e = (refl, e)
both_equal Greater p e = absurd (cc)

-- an integer from the low end on is from the first place on
zero_first : (at : ℕ) → is_le (nat_cmp 0 at) ≡ true
zero_first at = grind (arith, nat_tests)

from_first : (low : Option ℤ) (n : ℤ) (at : ℕ) → is_from (option_map Int low) (Int n) ≡ true → is_from_start place_cmp (first_of low) (n, at) ≡ true
from_first None n at h = refl
from_first (Some low) n at h = go (int_cmp low n) h
  where
    go : (o : Ordering) → not (is_gt o) ≡ true → is_le (ordering_then o (nat_cmp 0 at)) ≡ true
    go Less k = refl
    go Equal k = zero_first at
    go Greater k = absurd (false≢true k)

-- one up to the high end is not past the last place
not_less : (m at : ℕ) → at ≤ m → is_lt (nat_cmp m at) ≡ false
not_less m at le = grind (arith, nat_tests)

to_last : (high : Option ℤ) (n : ℤ) (at : ℕ) → at < 2 ^ 63 → is_to (option_map Int high) (Int n) ≡ true → not (is_past_end place_cmp (last_of high) (n, at)) ≡ true
to_last None n at lt h = refl
to_last (Some high) n at lt h = ap not (go (int_cmp high n) refl)
  where
    go : (o : Ordering) → int_cmp high n ≡ o → is_lt (ordering_then o (nat_cmp (2 ^ 64 - 1) at)) ≡ false
    go Less e = absurd (false≢true (sym (ap (λ o. not (is_gt o)) (greater_if_less (Int high) (Int n) e)) ∙ h))
    go Equal e = not_less (2 ^ 64 - 1) at (omega (arith, lt))
    go Greater e = refl

same_place : (n m : ℤ) (at place : ℕ) → is_eq (place_cmp (n, at) (m, place)) ≡ true → (n ≡ m) × (at ≡ place)
same_place n m at place e = let b = both_equal (int_cmp n m) (nat_cmp at place) (is_tied (place_cmp (n, at) (m, place)) e) in (exact_signed n m b.0, exact_unsigned at place b.1)

any_found : (p : ℤ × ℕ → Bool) (n : ℤ) (at : ℕ) (ks : List (ℤ × ℕ)) → p (n, at) ≡ true → list_any (is_at (place_cmp (n, at))) ks ≡ true → list_any (nat_eq at) (map (λ k. k.1) (filter p ks)) ≡ true
any_found p n at [] t h = h
any_found p n at (k ∷ ks) t h = go (is_at (place_cmp (n, at)) k) refl h (any_found p n at ks t)
  where
    R : List ℕ
    R = map (λ (k : ℤ × ℕ). k.1) (filter p ks)

    kept : (b : Bool) → list_any (nat_eq at) R ≡ true → list_any (nat_eq at) (map (λ (k : ℤ × ℕ). k.1) (cond b (k ∷ filter p ks) (filter p ks))) ≡ true
    kept true ih = ap (λ b. nat_eq at k.1 || b) ih ∙ or_true (nat_eq at k.1)
      where
        or_true : (b : Bool) → (b || true) ≡ true
        or_true true = refl
        or_true false = refl
    kept false ih = ih

    here : (b : Bool) → b ≡ true → nat_eq at k.1 ≡ true → list_any (nat_eq at) (map (λ (k : ℤ × ℕ). k.1) (cond b (k ∷ filter p ks) (filter p ks))) ≡ true
    here true e same = ap (λ b. b || list_any (nat_eq at) R) same
    here false e same = absurd (false≢true e)

    go : (b : Bool) → is_at (place_cmp (n, at)) k ≡ b → (b || list_any (is_at (place_cmp (n, at))) ks) ≡ true → (list_any (is_at (place_cmp (n, at))) ks ≡ true → list_any (nat_eq at) R ≡ true)
        → list_any (nat_eq at) (map (λ (k : ℤ × ℕ). k.1) (filter p (k ∷ ks))) ≡ true
    go true e f ih = let s = same_place n k.0 at k.1 e in
        here (p k) (ap₂ (λ (m : ℤ) (i : ℕ). p (m, i)) (sym s.0) (sym s.1) ∙ t) (eq-eqb at k.1 s.1)
    go false e f ih = kept (p k) (ih f)

-- what is told of a range
pub between_has : (range : Integers) (index : OrderIndex) (n : ℤ) (at : ℕ) → at < 2 ^ 63 → is_between range n ≡ true → is_kept index n at ≡ true
    → Contains (map (λ k. k.1) (keys_between place_cmp (first_of range.low) (last_of range.high) index.places)) at
between_has range index n at lt b h =
    let parts = and_parts (is_from (option_map Int range.low) (Int n)) (is_to (option_map Int range.high) (Int n)) b in
    Contains-from_any exact_unsigned_eq at (map (λ k. k.1) (keys_between place_cmp (first_of range.low) (last_of range.high) index.places))
    (any_found (range_contains place_cmp (first_of range.low) (last_of range.high)) n at index.places.keys
    (and_from (is_from_start place_cmp (first_of range.low) (n, at)) (not (is_past_end place_cmp (last_of range.high) (n, at))) (from_first range.low n at parts.0) (to_last range.high n at lt parts.1)) h)

-- the ends of the range do not run backwards
pub runs_forward : (range : Integers) (first last : Bound (ℤ × ℕ)) → first ≡ first_of range.low → last ≡ last_of range.high → IsForward range → AreForward (IsLeBy place_cmp) (IsLtBy place_cmp) first last
runs_forward range first last f l h = subst (λ (b : Bound (ℤ × ℕ)). AreForward (IsLeBy place_cmp) (IsLtBy place_cmp) b last) (sym f) (subst (λ (b : Bound (ℤ × ℕ)). AreForward (IsLeBy place_cmp) (IsLtBy place_cmp) (first_of range.low) b) (sym l) (go range.low range.high h))
  where
    go : (low high : Option ℤ) → IsUpTo low high → AreForward (IsLeBy place_cmp) (IsLtBy place_cmp) (first_of low) (last_of high)
    go None high k = tt
    go (Some low) None k = tt
    go (Some low) (Some high) k = at (int_cmp low high) k
      where
        at : (o : Ordering) → is_gt o ≡ false → is_gt (ordering_then o (nat_cmp 0 (2 ^ 64 - 1))) ≡ false
        at Less e = refl
        at Equal e = refl
        at Greater e = absurd (false≢true (sym e))

-- what is collected
pub collected_has : (range : Integers) (first last : Bound (ℤ × ℕ)) (index : OrderIndex) (places : List ℕ) → first ≡ first_of range.low → last ≡ last_of range.high → places ≡ map (λ k. k.1) (keys_between place_cmp first last index.places)
    → (n : ℤ) (at : ℕ) → at < 2 ^ 63 → is_between range n ≡ true → is_kept index n at ≡ true → Contains places at
collected_has range first last index places f l e n at lt b h =
    subst (λ (ps : List ℕ). Contains ps at) (sym (e ∙ ap₂ (λ (lo hi : Bound (ℤ × ℕ)). map (λ (k : ℤ × ℕ). k.1) (keys_between place_cmp lo hi index.places)) f l)) (between_has range index n at lt b h)

open_within : (slots : List GroupSlot) (at : ℕ) (key : List Value) → open_at slots at ≡ Some key → at < length slots
open_within [] at key e = absurd (cc)
open_within (s ∷ slots) zero key e = omega arith
open_within (s ∷ slots) (suc at) key e = omega (arith, open_within slots at key e)

-- a whole index finds all
pub finds_all : (column : ℕ) (slots : List GroupSlot) (range : Integers) (index : OrderIndex) (places : List ℕ) → IsOrderOf column slots index → length slots ≤ index.upto → length slots < 2 ^ 63
    → ((n : ℤ) (at : ℕ) → at < 2 ^ 63 → is_between range n ≡ true → is_kept index n at ≡ true → Contains places at) → FindsAll column slots range places
finds_all column slots range index places is whole few told at key there has =
    let lt : at < length slots = open_within slots at key there in
    told has.number at (omega (arith, lt, few)) has.within (is.kept at key has.number (omega (arith, lt, whole)) there has.there)

-- without an integer at a place
pub integer_out : (old new : OrderIndex) (number : ℤ) (at : ℕ) → new.upto ≡ old.upto → Updates place_cmp old.places new.places (number, at) false → HasOthers at old new
integer_out old new number at upto out = record {
  upto = upto;
  kept = λ n other differs h. out.2 (n, other) (elsewhere n other differs) ∙ h;
}
  where
    elsewhere : (n : ℤ) (other : ℕ) → nat_eq other at ≡ false → is_at (place_cmp (number, at)) (n, other) ≡ false
    elsewhere n other differs =
        false_from_ne_true (is_at (place_cmp (number, at)) (n, other)) (λ t. false≢true (sym differs ∙ eq-eqb other at (sym (same_place number n at other t).1)))

-- what a range of integers needs
pub needs_integer : (patterns : List Pattern) (column : ℕ) (p : Pattern) (low high : Option Value) (range : Integers) → slice_get patterns column ≡ Some p → p ≡ Range low high → AreEnds low high range → NeedsInteger patterns column range
needs_integer [] column p low high range e r ends key m = absurd (cc)
needs_integer (q ∷ patterns) column p low high range e r ends [] m = absurd (false≢true m)
needs_integer (q ∷ patterns) zero p low high range e r ends (x ∷ key) m =
    let is : q ≡ Range low high = cc in
    integer x (ap₂ (λ (a b : Option Value). matches_value (Range a b) x) (sym ends.low_is) (sym ends.high_is) ∙ (ap (λ (s : Pattern). matches_value s x) (sym is) ∙ (and_parts (matches_value q x) (matches_row patterns key) m).0))
  where
    no_text : (low high : Option ℤ) (bytes : List ℕ) → HaveEnd low high → (is_from (option_map Int low) (Text bytes) && is_to (option_map Int high) (Text bytes)) ≡ true → ⊥
    no_text None None bytes b t = b
    no_text None (Some high) bytes b t = false≢true t
    no_text (Some low) high bytes b t = false≢true t

    integer : (x : Value) → matches_value (Range (option_map Int range.low) (option_map Int range.high)) x ≡ true → HasInteger zero range (x ∷ key)
    integer (Int n) t = record { number = n; there = refl; within = t }
    integer (Text bytes) t = absurd (no_text range.low range.high bytes ends.bounded t)
needs_integer (q ∷ patterns) (suc column) p low high range e r ends (x ∷ key) m =
    let has = needs_integer patterns column p low high range e r ends key (and_parts (matches_value q x) (matches_row patterns key) m).1 in
    record { number = has.number; there = has.there; within = has.within }

pub range_sought : (patterns : List Pattern) (column : ℕ) (p : Pattern) (low high : Option Value) (found : Option Integers) → slice_get patterns column ≡ Some p → p ≡ Range low high → IfSome found (AreEnds low high)
    → IfSome found (λ range. IsRangeSought patterns (column, range))
range_sought patterns column p low high None e r ends = tt
range_sought patterns column p low high (Some range) e r ends = record { forward = ends.forward; needed = needs_integer patterns column p low high range e r ends }
