-- What the normal forms of patterns match.
use Rattle.std.proofs.Common.{◌≡◌, ℤ, ◌<ℤ◌, Bool, true, false, not, ◌&&◌, cond, List, [], ◌∷◌, Option, Some, None, refl, ap, sym, subst, ◌∙◌}
use Rattle.std.specs.declared.cmp.Ordering.{Ordering}
use Rattle.std.specs.declared.cmp.Ordering.TheVariants.{Less, Equal, Greater}
use Rattle.std.specs.Ordering.{int_cmp, is_gt, MatchOrdering}
use Rattle.std.specs.Cmp.{int_ranks}
use Rattle.std.specs.Int.Signed.{clash_ℤ}
use Rattle.std.proofs.lemmas.Bool.{and_parts, false≢true}
use Rattle.std.proofs.Math.Bool.{or-false}
use Rattle.pj_value.specs.declared.values.Kind.{Kind}
use Rattle.pj_value.specs.declared.values.Value.{Value}
use Rattle.pj_value.specs.declared.values.Value.TheVariants.{Int, Text}
use Rattle.pj_value.specs.Values.{is_kind, value_cmp, value_eq}
use Rattle.pj_value.proofs.Orders.{same_if_equal, same_if_tied}
use Rattle.pj_pattern.specs.declared.pattern.Form.TheVariants.{Wild, Empty, Constant, Range, Members}
use Rattle.pj_pattern.specs.Patterns.{Pattern, has_value, is_from, is_of_kind, is_of_one_kind, is_to, matches_value, same_kind, up_to}
use Rattle.pj_value.specs.Storable.{IsInBounds, greatest_int, least_int}
use Rattle.pj_pattern.specs.Normal.{between, by_order, from_low, greatest_of, high_end, least_of, low_end, normal_of, of_ends, of_members, range_of, sorted_set, IsNormal}
use Rattle.pj_pattern.proofs.UpTo.{none_between, pinned}
use Rattle.pj_pattern.proofs.NormalRanges.{range_normal, same_kinds}
use Rattle.pj_pattern.proofs.NormalKinds.{least_kind}
use Rattle.pj_pattern.proofs.Rising.{set_has, set_normal}

-- ---- what ranges match

ends_match : (low high : Option Value) (v : Value) → matches_value (of_ends low high) v ≡ (is_from low v && is_to high v)
ends_match None None v = refl
ends_match None (Some h) v = refl
ends_match (Some l) high v = refl

-- what is between two values, where the ends that become missing bound nothing here
pub between_matches : (x y v : Value) → is_from (low_end x) v ≡ up_to x v → is_to (high_end y) v ≡ up_to v y → matches_value (between x y) v ≡ (up_to x v && up_to v y)
between_matches x y v p q = go (value_cmp x y) refl
  where
    go : (o : Ordering) → value_cmp x y ≡ o → matches_value (by_order o x y) v ≡ (up_to x v && up_to v y)
    go Less e = ends_match (low_end x) (high_end y) v ∙ (ap (λ b. b && is_to (high_end y) v) p ∙ ap (λ b. up_to x v && b) q)
    go Equal e = subst (λ (u : Value). value_eq x v ≡ (up_to x v && up_to v u)) (same_if_tied x y e) (pinned x v)
    go Greater e = sym (none_between x y v e)

least_up : (x v : Value) → same_kind x v ≡ true → IsInBounds v → up_to (least_of x) v ≡ true
least_up (Int m) (Int n) k b = go (int_cmp least_int n) (int_ranks least_int n)
  where
    go : (o : Ordering) → MatchOrdering o (least_int <ℤ n) (least_int ≡ n) (n <ℤ least_int) → not (is_gt o) ≡ true
    go Less h = refl
    go Equal h = refl
    go Greater h = let below : n <ℤ least_int = h in clash_ℤ below b.0
least_up (Int m) (Text y) k b = absurd (false≢true k)
least_up (Text x) (Int n) k b = absurd (false≢true k)
least_up (Text x) (Text []) k b = refl
least_up (Text x) (Text (y ∷ ys)) k b = refl

up_greatest : (n : ℤ) → IsInBounds (Int n) → up_to (Int n) (Int greatest_int) ≡ true
up_greatest n b = go (int_cmp n greatest_int) (int_ranks n greatest_int)
  where
    go : (o : Ordering) → MatchOrdering o (n <ℤ greatest_int) (n ≡ greatest_int) (greatest_int <ℤ n) → not (is_gt o) ≡ true
    go Less h = refl
    go Equal h = refl
    go Greater h = let above : greatest_int <ℤ n = h in clash_ℤ above b.1

low_bounds : (x v : Value) → same_kind x v ≡ true → IsInBounds v → is_from (low_end x) v ≡ up_to x v
low_bounds x v k b = go (value_eq x (least_of x)) refl
  where
    go : (t : Bool) → value_eq x (least_of x) ≡ t → is_from (cond t None (Some x)) v ≡ up_to x v
    go true e = sym (subst (λ (u : Value). up_to u v ≡ true) (sym (same_if_equal x (least_of x) e)) (least_up x v k b))
    go false e = refl

high_bounds : (y v : Value) → same_kind y v ≡ true → IsInBounds v → is_to (high_end y) v ≡ up_to v y
high_bounds (Int m) (Int n) k b = go (value_eq (Int m) (Int greatest_int)) refl
  where
    go : (t : Bool) → value_eq (Int m) (Int greatest_int) ≡ t → is_to (cond t None (Some (Int m))) (Int n) ≡ up_to (Int n) (Int m)
    go true e = sym (subst (λ (u : Value). up_to (Int n) u ≡ true) (sym (same_if_equal (Int m) (Int greatest_int) e)) (up_greatest n b))
    go false e = refl
high_bounds (Int m) (Text y) k b = absurd (false≢true k)
high_bounds (Text x) v k b = refl

below_match : (kind : Kind) (y v : Value) → is_kind kind y ≡ true → is_kind kind v ≡ true → IsInBounds v → matches_value (between (least_of y) y) v ≡ up_to v y
below_match kind y v k l b =
    between_matches (least_of y) y v (low_bounds (least_of y) v (same_kinds kind (least_of y) v (least_kind kind y k) l) b) (high_bounds y v (same_kinds kind y v k l) b)
    ∙ ap (λ t. t && up_to v y) (least_up y v (same_kinds kind y v k l) b)

above_match : (kind : Kind) (x v : Value) → is_kind kind x ≡ true → is_kind kind v ≡ true → IsInBounds v → matches_value (from_low x (greatest_of x)) v ≡ (up_to x v && true)
above_match kind (Int m) (Int n) k l b =
    between_matches (Int m) (Int greatest_int) (Int n) (low_bounds (Int m) (Int n) refl b) (high_bounds (Int greatest_int) (Int n) refl b)
    ∙ ap (λ t. up_to (Int m) (Int n) && t) (up_greatest n b)
above_match kind (Int m) (Text y) k l b = absurd (false≢true (same_kinds kind (Int m) (Text y) k l))
above_match kind (Text x) v k l b = ends_match (low_end (Text x)) None v ∙ ap (λ t. t && true) (low_bounds (Text x) v (same_kinds kind (Text x) v k l) b)

range_matches : (kind : Kind) (low high : Option Value) (v : Value) → is_of_kind kind (Range low high) ≡ true → is_kind kind v ≡ true → IsInBounds v → matches_value (range_of low high) v ≡ (is_from low v && is_to high v)
range_matches kind None None v k l b = refl
range_matches kind None (Some y) v k l b = below_match kind y v k l b
range_matches kind (Some x) None v k l b = above_match kind x v (and_parts (is_kind kind x) true k).0 l b
range_matches kind (Some x) (Some y) v k l b =
    let both = and_parts (is_kind kind x) (is_kind kind y) k in
    between_matches x y v (low_bounds x v (same_kinds kind x v both.0 l) b) (high_bounds y v (same_kinds kind y v both.1 l) b)

pub members_match : (ms : List Value) (v : Value) → matches_value (of_members ms) v ≡ has_value ms v
members_match [] v = refl
members_match (m ∷ []) v = sym (or-false (value_eq m v))
members_match (m ∷ n ∷ ms) v = refl

pub same_matched : (kind : Kind) (p : Pattern) (v : Value) → is_of_kind kind p ≡ true → is_kind kind v ≡ true → IsInBounds v → matches_value (normal_of p) v ≡ matches_value p v
same_matched kind Wild v k l b = refl
same_matched kind Empty v k l b = refl
same_matched kind (Constant c) v k l b = refl
same_matched kind (Range low high) v k l b = range_matches kind low high v k l b
same_matched kind (Members ms) v k l b = members_match (sorted_set ms) v ∙ set_has ms v

pub normal_again : (p : Pattern) → is_of_one_kind p ≡ true → IsNormal (normal_of p)
normal_again Wild k = refl
normal_again Empty k = refl
normal_again (Constant c) k = refl
normal_again (Range low high) k = range_normal low high k
normal_again (Members ms) k = set_normal ms
