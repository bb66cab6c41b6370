-- What is covered is matched.
use Rattle.std.proofs.Common.{◌≡◌, Bool, true, false, ◌&&◌, ◌||◌, List, [], ◌∷◌, Option, Some, None, refl, subst}
use Rattle.std.proofs.lemmas.Bool.{and_from, and_parts, false≢true}
use Rattle.pj_value.specs.declared.values.Value.{Value}
use Rattle.pj_value.specs.Values.{value_eq}
use Rattle.pj_value.proofs.Orders.{same_if_equal}
use Rattle.pj_pattern.specs.declared.pattern.Form.TheVariants.{Wild, Empty, Constant, Range, Members}
use Rattle.pj_pattern.specs.Patterns.{Pattern, covers_high, covers_low, covers_pattern, covers_range, has_value, is_from, is_to, is_wild, matches_all, matches_value}
use Rattle.pj_pattern.specs.Columns.{covers_punct, matches_row}
use Rattle.pj_pattern.proofs.UpTo.{up_chain}

pub wild_matches : (p : Pattern) (v : Value) → is_wild p ≡ true → matches_value p v ≡ true
wild_matches Wild v w = refl
wild_matches Empty v w = absurd (false≢true w)
wild_matches (Constant c) v w = absurd (false≢true w)
wild_matches (Range low high) v w = absurd (false≢true w)
wild_matches (Members ms) v w = absurd (false≢true w)

low_covered : (low other : Option Value) (v : Value) → covers_low low other ≡ true → is_from other v ≡ true → is_from low v ≡ true
low_covered None other v c m = refl
low_covered (Some a) None v c m = absurd (false≢true c)
low_covered (Some a) (Some b) v c m = up_chain a b v c m

high_covered : (high other : Option Value) (v : Value) → covers_high high other ≡ true → is_to other v ≡ true → is_to high v ≡ true
high_covered None other v c m = refl
high_covered (Some a) None v c m = absurd (false≢true c)
high_covered (Some a) (Some b) v c m = up_chain v b a m c

range_covered : (p : Pattern) (low high : Option Value) (v : Value) → covers_range p low high ≡ true → (is_from low v && is_to high v) ≡ true → matches_value p v ≡ true
range_covered Wild low high v c m = refl
range_covered Empty low high v c m = absurd (false≢true c)
range_covered (Constant k) low high v c m = absurd (false≢true c)
range_covered (Range from to) low high v c m =
    let one = and_parts (covers_low from low) (covers_high to high) c in
    let two = and_parts (is_from low v) (is_to high v) m in
    and_from (is_from from v) (is_to to v) (low_covered from low v one.0 two.0) (high_covered to high v one.1 two.1)
range_covered (Members ms) low high v c m = absurd (false≢true c)

members_covered : (p : Pattern) (ms : List Value) (v : Value) → matches_all p ms ≡ true → has_value ms v ≡ true → matches_value p v ≡ true
members_covered p [] v c m = absurd (false≢true m)
members_covered p (w ∷ ws) v c m =
    let both = and_parts (matches_value p w) (matches_all p ws) c in
    go (value_eq w v) refl m both.0 (members_covered p ws v both.1)
  where
    go : (b : Bool) → value_eq w v ≡ b → (b || has_value ws v) ≡ true → matches_value p w ≡ true → (has_value ws v ≡ true → matches_value p v ≡ true) → matches_value p v ≡ true
    go true e h first ih = subst (λ (u : Value). matches_value p u ≡ true) (same_if_equal w v e) first
    go false e h first ih = ih h

pub covered : (p q : Pattern) (v : Value) → covers_pattern p q ≡ true → matches_value q v ≡ true → matches_value p v ≡ true
covered p Wild v c m = wild_matches p v c
covered p Empty v c m = absurd (false≢true m)
covered p (Constant k) v c m = subst (λ (u : Value). matches_value p u ≡ true) (same_if_equal k v m) c
covered p (Range low high) v c m = range_covered p low high v c m
covered p (Members ms) v c m = members_covered p ms v c m

pub row_covered : (p q : List Pattern) (row : List Value) → covers_punct p q ≡ true → matches_row q row ≡ true → matches_row p row ≡ true
row_covered [] [] row c m = m
row_covered [] (q ∷ qs) row c m = absurd (false≢true c)
row_covered (p ∷ ps) [] row c m = absurd (false≢true c)
row_covered (p ∷ ps) (q ∷ qs) [] c m = absurd (false≢true m)
row_covered (p ∷ ps) (q ∷ qs) (v ∷ vs) c m =
    let one = and_parts (covers_pattern p q) (covers_punct ps qs) c in
    let two = and_parts (matches_value q v) (matches_row qs vs) m in
    and_from (matches_value p v) (matches_row ps vs) (covered p q v one.0 two.0) (row_covered ps qs vs one.1 two.1)
