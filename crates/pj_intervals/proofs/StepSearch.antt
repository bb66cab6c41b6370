-- Looking for a value among steps in order.
use Rattle.std.proofs.Common.{ℕ, zero, suc, ◌<◌, ◌≤◌, ◌≡◌, Bool, true, false, not, List, [], ◌∷◌, length, get_or, None, refl, ap, sym, ◌∙◌, arith}
use Rattle.std.specs.List.Sorted.{IsPartitionPoint, IsPartitionedBy}
use Rattle.std.proofs.lemmas.Bool.{false≢true}
use Rattle.pj_value.specs.declared.values.Value.{Value}
use Rattle.pj_intervals.specs.declared.steps.Step.{Step}
use Rattle.pj_intervals.specs.Steps.{AreReached, IsParted, is_reached, place_at}
use Rattle.pj_intervals.proofs.MergedSteps.{at_other, at_reached}
use Rattle.pj_intervals.proofs.CutOrder.{not_false, not_true}

reached_each : (v : Value) (steps : List Step) (i : ℕ) (d : Step) → AreReached v steps → i < length steps → is_reached (get_or steps i d).from v ≡ true
reached_each v [] i d r l = absurd (omega (arith, l))
reached_each v (s ∷ steps) zero d r l = r.0
reached_each v (s ∷ steps) (suc i) d r l = reached_each v steps i d r.1 (omega (arith, l))

-- where a later cut is above the value, so is each that stands before it
pub parted_by : (v : Value) (steps : List Step) → IsParted v steps → IsPartitionedBy (λ s. not (is_reached s.from v)) steps
parted_by v [] p i j d le l e = absurd (omega (arith, l))
parted_by v (s ∷ steps) p zero zero d le l e = e
parted_by v (s ∷ steps) p (suc i) zero d le l e = absurd (omega (arith, le))
parted_by v (s ∷ steps) p (suc i) (suc j) d le l e = parted_by v steps p.1 i j d (omega (arith, le)) (omega (arith, l)) e
parted_by v (s ∷ steps) p zero (suc j) d le l e = go (is_reached s.from v) refl
  where
    go : (b : Bool) → is_reached s.from v ≡ b → not (is_reached s.from v) ≡ true
    go true f = absurd (false≢true (sym (not_true (is_reached (get_or steps j d).from v) e) ∙ reached_each v steps j d (p.0 f) (omega (arith, l))))
    go false f = ap not f

-- past the last cut there is nothing
pub found_none : (v : Value) (steps : List Step) (i : ℕ) → length steps ≤ i → i ≤ length steps → IsPartitionPoint (λ s. not (is_reached s.from v) ≡ true) (λ s. not (is_reached s.from v) ≡ false) steps i
    → None ≡ place_at steps v
found_none v [] i m l p = refl
found_none v (s ∷ steps) zero m l p = absurd (omega (arith, m))
found_none v (s ∷ steps) (suc i) m l p =
    found_none v steps i (omega (arith, m)) (omega (arith, l)) (λ k d a b. p.0 (suc k) d (omega arith) (omega (arith, b)), λ k d a b. p.1 (suc k) d (omega (arith, a)) (omega (arith, b)))
    ∙ sym (at_other s steps v (not_true (is_reached s.from v) (p.0 0 s (omega arith) (omega arith))))

-- the step behind those whose cuts are above the value
pub found_some : (v : Value) (steps : List Step) (i : ℕ) (d : Step) → i < length steps → IsPartitionPoint (λ s. not (is_reached s.from v) ≡ true) (λ s. not (is_reached s.from v) ≡ false) steps i
    → (get_or steps i d).place ≡ place_at steps v
found_some v [] i d l p = absurd (omega (arith, l))
found_some v (s ∷ steps) zero d l p = sym (at_reached s steps v (not_false (is_reached s.from v) (p.1 0 s (omega arith) (omega arith))))
found_some v (s ∷ steps) (suc i) d l p =
    found_some v steps i d (omega (arith, l)) (λ k d a b. p.0 (suc k) d (omega arith) (omega (arith, b)), λ k d a b. p.1 (suc k) d (omega (arith, a)) (omega (arith, b)))
    ∙ sym (at_other s steps v (not_true (is_reached s.from v) (p.0 0 s (omega arith) (omega arith))))
