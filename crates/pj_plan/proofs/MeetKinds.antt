-- What two patterns of one kind have in common is of that kind.
use Rattle.std.proofs.Common.{◌≡◌, Bool, true, false, if◌then◌else◌, List, [], ◌∷◌, Option, Some, None, refl}
use Rattle.std.specs.Ordering.{is_gt}
use Rattle.std.proofs.lemmas.Bool.{and_from, and_parts}
use Rattle.pj_value.specs.declared.values.Kind.{Kind}
use Rattle.pj_value.specs.declared.values.Value.{Value}
use Rattle.pj_value.specs.Values.{is_kind, value_cmp}
use Rattle.pj_pattern.specs.declared.pattern.Form.TheVariants.{Wild, Empty, Constant, Range, Members}
use Rattle.pj_pattern.specs.Patterns.{Pattern, is_of_kind, is_end_of_kind, all_of_kind, matches_value}
use Rattle.pj_pattern.specs.Normal.{of_members}
use Rattle.pj_pattern.specs.Meets.{matched, constant_if, later_low, earlier_high, range_met, meet_of}
use Rattle.pj_pattern.proofs.NormalKinds.{kind_kept}

constant : (kind : Kind) (b : Bool) (v : Value) → is_kind kind v ≡ true → is_of_kind kind (constant_if b v) ≡ true
constant kind true v is = is
constant kind false v is = refl

either : (kind : Kind) (b : Bool) (one other : Option Value) → is_end_of_kind kind one ≡ true → is_end_of_kind kind other ≡ true
    → is_end_of_kind kind (if b then one else other) ≡ true
either kind true one other is also = is
either kind false one other is also = also

low : (kind : Kind) (one other : Option Value) → is_end_of_kind kind one ≡ true → is_end_of_kind kind other ≡ true
    → is_end_of_kind kind (later_low one other) ≡ true
low kind None other is also = also
low kind (Some v) None is also = is
low kind (Some v) (Some w) is also = either kind (is_gt (value_cmp v w)) (Some v) (Some w) is also

high : (kind : Kind) (one other : Option Value) → is_end_of_kind kind one ≡ true → is_end_of_kind kind other ≡ true
    → is_end_of_kind kind (earlier_high one other) ≡ true
high kind None other is also = also
high kind (Some v) None is also = is
high kind (Some v) (Some w) is also = either kind (is_gt (value_cmp v w)) (Some w) (Some v) also is

members : (kind : Kind) (vs : List Value) → all_of_kind kind vs ≡ true → is_of_kind kind (of_members vs) ≡ true
members kind [] is = refl
members kind (v ∷ []) is = (and_parts (is_kind kind v) true is).0
members kind (v ∷ w ∷ vs) is = is

kept : (kind : Kind) (p : Pattern) (vs : List Value) → all_of_kind kind vs ≡ true → all_of_kind kind (matched p vs) ≡ true
kept kind p [] is = refl
kept kind p (v ∷ vs) is = go (matches_value p v) (kept kind p vs (and_parts (is_kind kind v) (all_of_kind kind vs) is).1)
  where
    go : (b : Bool) → all_of_kind kind (matched p vs) ≡ true → all_of_kind kind (if b then v ∷ matched p vs else matched p vs) ≡ true
    go true rest = and_from (is_kind kind v) (all_of_kind kind (matched p vs)) (and_parts (is_kind kind v) (all_of_kind kind vs) is).0 rest
    go false rest = rest

range : (kind : Kind) (from to : Option Value) (q : Pattern) → is_of_kind kind (Range from to) ≡ true → is_of_kind kind q ≡ true
    → is_of_kind kind (range_met from to q) ≡ true
range kind from to Wild is also = is
range kind from to Empty is also = refl
range kind from to (Constant c) is also = constant kind (matches_value (Range from to) c) c also
range kind from to (Range least most) is also =
    kind_kept kind (Range (later_low from least) (earlier_high to most))
    (and_from (is_end_of_kind kind (later_low from least)) (is_end_of_kind kind (earlier_high to most))
    (low kind from least (and_parts (is_end_of_kind kind from) (is_end_of_kind kind to) is).0 (and_parts (is_end_of_kind kind least) (is_end_of_kind kind most) also).0)
    (high kind to most (and_parts (is_end_of_kind kind from) (is_end_of_kind kind to) is).1 (and_parts (is_end_of_kind kind least) (is_end_of_kind kind most) also).1))
range kind from to (Members ms) is also = members kind (matched (Range from to) ms) (kept kind (Range from to) ms also)

-- what two patterns of one kind have in common is of that kind
pub meet_kind : (kind : Kind) (p q : Pattern) → is_of_kind kind p ≡ true → is_of_kind kind q ≡ true → is_of_kind kind (meet_of p q) ≡ true
meet_kind kind Wild q is also = also
meet_kind kind Empty q is also = refl
meet_kind kind (Constant c) q is also = constant kind (matches_value q c) c is
meet_kind kind (Range from to) q is also = range kind from to q is also
meet_kind kind (Members ms) q is also = members kind (matched q ms) (kept kind q ms is)
