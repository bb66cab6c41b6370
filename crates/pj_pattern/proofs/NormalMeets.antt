-- The meets of patterns in normal form.
use Rattle.std.proofs.Common.{◌≡◌, Bool, true, false, ◌||◌, cond, List, [], ◌∷◌, Option, Some, None, refl, ap, subst, ◌∙◌}
use Rattle.std.specs.Ordering.{is_gt}
use Rattle.std.proofs.lemmas.Bool.{and_from, and_parts}
use Rattle.std.proofs.Math.Bool.{or-true}
use Rattle.pj_value.specs.declared.values.Kind.{Kind}
use Rattle.pj_value.specs.declared.values.Kind.TheVariants.{Int as IntKind, Text as TextKind}
use Rattle.pj_value.specs.declared.values.Value.{Value}
use Rattle.pj_value.specs.Values.{value_cmp}
use Rattle.pj_pattern.specs.declared.pattern.Form.TheVariants.{Wild, Empty, Constant, Range, Members}
use Rattle.pj_pattern.specs.Patterns.{Pattern, matches_value, is_end_of_kind, is_of_kind, is_of_one_kind}
use Rattle.pj_pattern.specs.Normal.{of_members, sorted_set, range_of, IsNormal}
use Rattle.pj_pattern.specs.Meets.{constant_if, earlier_high, later_low, matched, meet_of, range_met}
use Rattle.pj_pattern.proofs.Rising.{IsBelow, IsRising, members_normal, rising_set, below_next}
use Rattle.pj_pattern.proofs.NormalRanges.{range_normal}

-- a list in normal form stands in order
pub rising_if_normal : (ms : List Value) → IsNormal (Members ms) → IsRising ms
rising_if_normal ms n = go (sorted_set ms) (rising_set ms) n
  where
    go : (vs : List Value) → IsRising vs → of_members vs ≡ Members ms → IsRising ms
    go [] r e = absurd (cc)
    go (v ∷ []) r e = absurd (cc)
    go (v ∷ w ∷ vs) r e = let same : v ∷ w ∷ vs ≡ ms = cc in subst IsRising same r

below_matched : (p : Pattern) (v : Value) (ws : List Value) → IsBelow v ws → IsRising ws → IsBelow v (matched p ws)
below_matched p v [] b r = tt
below_matched p v (w ∷ ws) b r = go (matches_value p w) (below_matched p v ws (below_next v w ws b r.0) r.1)
  where
    go : (t : Bool) → IsBelow v (matched p ws) → IsBelow v (cond t (w ∷ matched p ws) (matched p ws))
    go true ih = b
    go false ih = ih

rising_matched : (p : Pattern) (vs : List Value) → IsRising vs → IsRising (matched p vs)
rising_matched p [] r = tt
rising_matched p (v ∷ vs) r = go (matches_value p v) (rising_matched p vs r.1)
  where
    go : (t : Bool) → IsRising (matched p vs) → IsRising (cond t (v ∷ matched p vs) (matched p vs))
    go true ih = (below_matched p v vs r.0 r.1, ih)
    go false ih = ih

matched_normal : (p : Pattern) (ms : List Value) → IsNormal (Members ms) → IsNormal (of_members (matched p ms))
matched_normal p ms n = members_normal (matched p ms) (rising_matched p ms (rising_if_normal ms n))

constant_normal : (b : Bool) (c : Value) → IsNormal (constant_if b c)
constant_normal true c = refl
constant_normal false c = refl

pub one_of_kind : (kind : Kind) (p : Pattern) → is_of_kind kind p ≡ true → is_of_one_kind p ≡ true
one_of_kind IntKind p k = ap (λ b. b || is_of_kind TextKind p) k
one_of_kind TextKind p k = ap (λ b. is_of_kind IntKind p || b) k ∙ or-true (is_of_kind IntKind p)

later_of_kind : (kind : Kind) (low other : Option Value) → is_end_of_kind kind low ≡ true → is_end_of_kind kind other ≡ true → is_end_of_kind kind (later_low low other) ≡ true
later_of_kind kind None other k l = l
later_of_kind kind (Some v) None k l = k
later_of_kind kind (Some v) (Some w) k l = go (is_gt (value_cmp v w))
  where
    go : (b : Bool) → is_end_of_kind kind (cond b (Some v) (Some w)) ≡ true
    go true = k
    go false = l

earlier_of_kind : (kind : Kind) (high other : Option Value) → is_end_of_kind kind high ≡ true → is_end_of_kind kind other ≡ true → is_end_of_kind kind (earlier_high high other) ≡ true
earlier_of_kind kind None other k l = l
earlier_of_kind kind (Some v) None k l = k
earlier_of_kind kind (Some v) (Some w) k l = go (is_gt (value_cmp v w))
  where
    go : (b : Bool) → is_end_of_kind kind (cond b (Some w) (Some v)) ≡ true
    go true = l
    go false = k

ranges_normal : (kind : Kind) (low high from to : Option Value) → is_of_kind kind (Range low high) ≡ true → is_of_kind kind (Range from to) ≡ true → IsNormal (range_of (later_low low from) (earlier_high high to))
ranges_normal kind low high from to k l =
    let one = and_parts (is_end_of_kind kind low) (is_end_of_kind kind high) k in
    let two = and_parts (is_end_of_kind kind from) (is_end_of_kind kind to) l in
    range_normal (later_low low from) (earlier_high high to) (one_of_kind kind (Range (later_low low from) (earlier_high high to))
    (and_from (is_end_of_kind kind (later_low low from)) (is_end_of_kind kind (earlier_high high to)) (later_of_kind kind low from one.0 two.0) (earlier_of_kind kind high to one.1 two.1)))

range_met_normal : (kind : Kind) (low high : Option Value) (q : Pattern) → is_of_kind kind (Range low high) ≡ true → is_of_kind kind q ≡ true → IsNormal (Range low high) → IsNormal q → IsNormal (range_met low high q)
range_met_normal kind low high Wild k l n o = n
range_met_normal kind low high Empty k l n o = refl
range_met_normal kind low high (Constant c) k l n o = constant_normal (matches_value (Range low high) c) c
range_met_normal kind low high (Range from to) k l n o = ranges_normal kind low high from to k l
range_met_normal kind low high (Members ms) k l n o = matched_normal (Range low high) ms o

pub met_normal : (kind : Kind) (p q : Pattern) → is_of_kind kind p ≡ true → is_of_kind kind q ≡ true → IsNormal p → IsNormal q → IsNormal (meet_of p q)
met_normal kind Wild q k l n o = o
met_normal kind Empty q k l n o = refl
met_normal kind (Constant c) q k l n o = constant_normal (matches_value q c) c
met_normal kind (Range low high) q k l n o = range_met_normal kind low high q k l n o
met_normal kind (Members ms) q k l n o = matched_normal q ms n

pub meet_normal : (p q : Pattern) → (kind : Kind) × (is_of_kind kind p ≡ true) × (is_of_kind kind q ≡ true) → IsNormal p → IsNormal q → IsNormal (meet_of p q)
meet_normal p q k n o = met_normal k.0 p q k.1 k.2 n o
