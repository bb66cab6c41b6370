-- The order of cuts.
use Rattle.std.proofs.Common.{◌≡◌, Bool, true, false, not, refl, ap, sym, ◌∙◌}
use Rattle.std.specs.Ordering.{is_gt}
use Rattle.std.proofs.lemmas.Bool.{false≢true}
use Rattle.pj_value.specs.declared.values.Value.{Value}
use Rattle.pj_value.specs.Values.{value_cmp}
use Rattle.pj_value.proofs.Orders.{not_above_chain, not_above_turned}
use Rattle.pj_intervals.specs.declared.steps.Cut.{Cut}
use Rattle.pj_intervals.specs.declared.steps.Cut.TheVariants.{Start, Before, After}
use Rattle.pj_intervals.specs.Steps.{is_not_above, is_reached}

pub not_true : (b : Bool) → not b ≡ true → b ≡ false
not_true true e = absurd (false≢true e)
not_true false e = refl

pub not_false : (b : Bool) → not b ≡ false → b ≡ true
not_false true e = refl
not_false false e = absurd (false≢true (sym e))

above_low : (a b v : Value) → is_gt (value_cmp a b) ≡ false → is_gt (value_cmp v b) ≡ true → is_gt (value_cmp v a) ≡ true
above_low a b v p q = go (is_gt (value_cmp v a)) refl
  where
    go : (c : Bool) → is_gt (value_cmp v a) ≡ c → is_gt (value_cmp v a) ≡ true
    go true e = e
    go false e = absurd (false≢true (sym (not_above_chain v a b e p) ∙ q))

above_high : (a b v : Value) → is_gt (value_cmp b a) ≡ true → is_gt (value_cmp b v) ≡ false → is_gt (value_cmp v a) ≡ true
above_high a b v p q = go (is_gt (value_cmp v a)) refl
  where
    go : (c : Bool) → is_gt (value_cmp v a) ≡ c → is_gt (value_cmp v a) ≡ true
    go true e = e
    go false e = absurd (false≢true (sym (not_above_chain b v a q e) ∙ p))

-- above a cut, a value is above each that is not above it
pub reached_below : (a b : Cut) (v : Value) → is_not_above a b ≡ true → is_reached b v ≡ true → is_reached a v ≡ true
reached_below Start b v p q = refl
reached_below (Before a) Start v p q = absurd (false≢true p)
reached_below (Before a) (Before b) v p q = ap not (not_above_chain a b v (not_true (is_gt (value_cmp a b)) p) (not_true (is_gt (value_cmp b v)) q))
reached_below (Before a) (After b) v p q = ap not (not_above_chain a b v (not_true (is_gt (value_cmp a b)) p) (not_above_turned v b q))
reached_below (After a) Start v p q = absurd (false≢true p)
reached_below (After a) (Before b) v p q = above_high a b v p (not_true (is_gt (value_cmp b v)) q)
reached_below (After a) (After b) v p q = above_low a b v (not_true (is_gt (value_cmp a b)) p) q

-- of two cuts of which the first is above the second, the second is below
pub reached_above : (a b : Cut) (v : Value) → is_not_above a b ≡ false → is_reached a v ≡ true → is_reached b v ≡ true
reached_above Start b v p q = absurd (false≢true (sym p))
reached_above (Before a) Start v p q = refl
reached_above (Before a) (Before b) v p q = ap not (not_above_chain b a v (not_above_turned a b (not_false (is_gt (value_cmp a b)) p)) (not_true (is_gt (value_cmp a v)) q))
reached_above (Before a) (After b) v p q = above_high b a v (not_false (is_gt (value_cmp a b)) p) (not_true (is_gt (value_cmp a v)) q)
reached_above (After a) Start v p q = refl
reached_above (After a) (Before b) v p q = ap not (not_above_chain b a v p (not_above_turned v a q))
reached_above (After a) (After b) v p q = above_low b a v (not_above_turned a b (not_false (is_gt (value_cmp a b)) p)) q
