-- The values in the normal forms of patterns are of the kinds of those in the patterns.
use Rattle.std.proofs.Common.{◌≡◌, Bool, true, false, ◌&&◌, cond, List, [], ◌∷◌, Option, Some, None, refl}
use Rattle.std.specs.declared.cmp.Ordering.{Ordering}
use Rattle.std.specs.declared.cmp.Ordering.TheVariants.{Less, Equal, Greater}
use Rattle.std.proofs.lemmas.Bool.{and_from, and_parts, false≢true}
use Rattle.pj_value.specs.declared.values.Kind.{Kind}
use Rattle.pj_value.specs.declared.values.Kind.TheVariants.{Int as IntKind, Text as TextKind}
use Rattle.pj_value.specs.declared.values.Value.{Value}
use Rattle.pj_value.specs.declared.values.Value.TheVariants.{Int, Text}
use Rattle.pj_value.specs.Values.{is_kind, value_cmp, value_eq}
use Rattle.pj_pattern.specs.declared.pattern.Form.TheVariants.{Wild, Empty, Constant, Range, Members}
use Rattle.pj_pattern.specs.Patterns.{Pattern, all_of_kind, is_end_of_kind, is_of_kind}
use Rattle.pj_value.specs.Storable.{greatest_int}
use Rattle.pj_pattern.specs.Normal.{between, by_order, from_low, greatest_of, high_end, insert, insert_by, least_of, low_end, normal_of, of_ends, of_members, range_of, sorted_set}

pub least_kind : (kind : Kind) (x : Value) → is_kind kind x ≡ true → is_kind kind (least_of x) ≡ true
least_kind IntKind (Int n) k = refl
least_kind IntKind (Text x) k = absurd (false≢true k)
least_kind TextKind (Int n) k = absurd (false≢true k)
least_kind TextKind (Text x) k = refl

low_kind : (kind : Kind) (x : Value) → is_kind kind x ≡ true → is_end_of_kind kind (low_end x) ≡ true
low_kind kind x k = go (value_eq x (least_of x))
  where
    go : (t : Bool) → is_end_of_kind kind (cond t None (Some x)) ≡ true
    go true = refl
    go false = k

high_kind : (kind : Kind) (y : Value) → is_kind kind y ≡ true → is_end_of_kind kind (high_end y) ≡ true
high_kind kind (Int n) k = go (value_eq (Int n) (Int greatest_int))
  where
    go : (t : Bool) → is_end_of_kind kind (cond t None (Some (Int n))) ≡ true
    go true = refl
    go false = k
high_kind kind (Text y) k = k

ends_kind : (kind : Kind) (low high : Option Value) → is_end_of_kind kind low ≡ true → is_end_of_kind kind high ≡ true → is_of_kind kind (of_ends low high) ≡ true
ends_kind kind None None k l = refl
ends_kind kind None (Some h) k l = l
ends_kind kind (Some x) high k l = and_from (is_kind kind x) (is_end_of_kind kind high) k l

between_kind : (kind : Kind) (x y : Value) → is_kind kind x ≡ true → is_kind kind y ≡ true → is_of_kind kind (between x y) ≡ true
between_kind kind x y k l = go (value_cmp x y)
  where
    go : (o : Ordering) → is_of_kind kind (by_order o x y) ≡ true
    go Less = ends_kind kind (low_end x) (high_end y) (low_kind kind x k) (high_kind kind y l)
    go Equal = k
    go Greater = refl

above_kind : (kind : Kind) (x : Value) → is_kind kind x ≡ true → is_of_kind kind (from_low x (greatest_of x)) ≡ true
above_kind IntKind (Int m) k = between_kind IntKind (Int m) (Int greatest_int) refl refl
above_kind TextKind (Int m) k = absurd (false≢true k)
above_kind kind (Text x) k = ends_kind kind (low_end (Text x)) None (low_kind kind (Text x) k) refl

range_kind : (kind : Kind) (low high : Option Value) → is_of_kind kind (Range low high) ≡ true → is_of_kind kind (range_of low high) ≡ true
range_kind kind None None k = refl
range_kind kind None (Some y) k = between_kind kind (least_of y) y (least_kind kind y k) k
range_kind kind (Some x) None k = above_kind kind x (and_parts (is_kind kind x) true k).0
range_kind kind (Some x) (Some y) k = let both = and_parts (is_kind kind x) (is_kind kind y) k in between_kind kind x y both.0 both.1

insert_kind : (kind : Kind) (v : Value) (ws : List Value) → is_kind kind v ≡ true → all_of_kind kind ws ≡ true → all_of_kind kind (insert v ws) ≡ true
insert_kind kind v [] k l = and_from (is_kind kind v) true k refl
insert_kind kind v (w ∷ ws) k l =
    let both = and_parts (is_kind kind w) (all_of_kind kind ws) l in
    go (value_cmp v w) both.0 (insert_kind kind v ws k both.1)
  where
    go : (o : Ordering) → is_kind kind w ≡ true → all_of_kind kind (insert v ws) ≡ true → all_of_kind kind (insert_by o v w ws (insert v ws)) ≡ true
    go Less first ih = and_from (is_kind kind v) (is_kind kind w && all_of_kind kind ws) k l
    go Equal first ih = l
    go Greater first ih = and_from (is_kind kind w) (all_of_kind kind (insert v ws)) first ih

set_kind : (kind : Kind) (vs : List Value) → all_of_kind kind vs ≡ true → all_of_kind kind (sorted_set vs) ≡ true
set_kind kind [] k = refl
set_kind kind (v ∷ vs) k = let both = and_parts (is_kind kind v) (all_of_kind kind vs) k in insert_kind kind v (sorted_set vs) both.0 (set_kind kind vs both.1)

members_kind : (kind : Kind) (ms : List Value) → all_of_kind kind ms ≡ true → is_of_kind kind (of_members ms) ≡ true
members_kind kind [] k = refl
members_kind kind (m ∷ []) k = (and_parts (is_kind kind m) true k).0
members_kind kind (m ∷ n ∷ ms) k = k

pub kind_kept : (kind : Kind) (p : Pattern) → is_of_kind kind p ≡ true → is_of_kind kind (normal_of p) ≡ true
kind_kept kind Wild k = refl
kind_kept kind Empty k = refl
kind_kept kind (Constant c) k = k
kind_kept kind (Range low high) k = range_kind kind low high k
kind_kept kind (Members ms) k = members_kind kind (sorted_set ms) (set_kind kind ms k)
