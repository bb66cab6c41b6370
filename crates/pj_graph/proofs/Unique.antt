-- A saturation is the one that its definition computes.
use Rattle.std.proofs.Common.{ℕ, zero, suc, ◌+◌, ◌<◌, ◌≤◌, ◌≡◌, ◌≢◌, ◌⊎◌, length, arith, Bool, true, false, not, cond, ◌&&◌, List, [], ◌∷◌, ◌++◌, Option, Some, None, map, refl, sym, ap, ◌∙◌, inl, inr}
use Rattle.std.specs.List.{find, flat_map, range_with_len}
use Rattle.std.proofs.lemmas.Bool.{cases_eq}
use Rattle.pj_value.specs.Lists.{In, has}
use Rattle.pj_shape.specs.declared.joins.CertStep.{CertStep}
use Rattle.pj_shape.specs.declared.joins.JoinSpec.{JoinSpec}
use Rattle.pj_shape.specs.Sets.{IsClosed, is_usable, schemes_of}
use Rattle.pj_graph.specs.Certificates.{IsNextStep, IsSaturation}
use Rattle.pj_graph.specs.Saturation.{can_add, next_step, next_steps, step_by, steps_by, with_step}
use Rattle.pj_graph.specs.Laws.{SaturationsAreTold}
use Rattle.pj_graph.proofs.Saturations.{one_fewer, one_if_out, step_in_range, unknown}

-- ---- the first step that passes a test

skipped : (p : CertStep → Bool) (k s n : ℕ) (rest : List CertStep) → ((r : ℕ) → s ≤ r → r < s + n → p (step_by k r) ≡ false)
    → find p (map (step_by k) (range_with_len s n) ++ rest) ≡ find p rest
skipped p k s zero rest f = refl
skipped p k s (suc n) rest f =
    ap (λ (b : Bool). cond b (Some (step_by k s)) (find p (map (step_by k) (range_with_len (s + 1) n) ++ rest))) (f s (omega arith) (omega arith))
    ∙ skipped p k (s + 1) n rest (λ r above below. f r (omega arith) (omega arith))

found_by : (p : CertStep → Bool) (k s n r : ℕ) (rest : List CertStep) → s ≤ r → r < s + n → ((q : ℕ) → q < r → p (step_by k q) ≡ false) → p (step_by k r) ≡ true
    → find p (map (step_by k) (range_with_len s n) ++ rest) ≡ Some (step_by k r)
found_by p k s zero r rest above below before t = absurd (omega arith)
found_by p k s (suc n) r rest above below before t = go (cases_eq s r) (found_by p k (s + 1) n r rest)
  where
    first : (b : Bool) → p (step_by k s) ≡ b
        → find p (map (step_by k) (range_with_len s (suc n)) ++ rest) ≡ cond b (Some (step_by k s)) (find p (map (step_by k) (range_with_len (s + 1) n) ++ rest))
    first b e = ap (λ (c : Bool). cond c (Some (step_by k s)) (find p (map (step_by k) (range_with_len (s + 1) n) ++ rest))) e

    go : (s ≡ r) ⊎ (s ≢ r)
        → (s + 1 ≤ r → r < s + 1 + n → ((q : ℕ) → q < r → p (step_by k q) ≡ false) → p (step_by k r) ≡ true
        → find p (map (step_by k) (range_with_len (s + 1) n) ++ rest) ≡ Some (step_by k r))
        → find p (map (step_by k) (range_with_len s (suc n)) ++ rest) ≡ Some (step_by k r)
    go (inl e) ih = first true (ap (λ (q : ℕ). p (step_by k q)) e ∙ t) ∙ ap (λ (q : ℕ). Some (step_by k q)) e
    go (inr differ) ih = first false (before s (omega (arith, above, differ))) ∙ ih (omega (arith, above, differ)) (omega (arith, below)) before t

none_found : (p : CertStep → Bool) (schemes : List (List (List Bool))) (a n : ℕ) → ((k s : ℕ) → s < length (schemes_of schemes k) → p (step_by k s) ≡ false)
    → find p (flat_map (steps_by schemes) (range_with_len a n)) ≡ None
none_found p schemes a zero f = refl
none_found p schemes a (suc n) f =
    skipped p a 0 (length (schemes_of schemes a)) (flat_map (steps_by schemes) (range_with_len (a + 1) n)) (λ r above below. f a r (omega (arith, below)))
    ∙ none_found p schemes (a + 1) n f

found_at : (p : CertStep → Bool) (schemes : List (List (List Bool))) (a n k s : ℕ) → a ≤ k → k < a + n → s < length (schemes_of schemes k)
    → ((j r : ℕ) → j < k → r < length (schemes_of schemes j) → p (step_by j r) ≡ false) → ((r : ℕ) → r < s → p (step_by k r) ≡ false) → p (step_by k s) ≡ true
    → find p (flat_map (steps_by schemes) (range_with_len a n)) ≡ Some (step_by k s)
found_at p schemes a zero k s above below within before earlier t = absurd (omega arith)
found_at p schemes a (suc n) k s above below within before earlier t = go (cases_eq k a) (found_at p schemes (a + 1) n k s)
  where
    rest : List CertStep
    rest = flat_map (steps_by schemes) (range_with_len (a + 1) n)

    go : (k ≡ a) ⊎ (k ≢ a)
        → (a + 1 ≤ k → k < a + 1 + n → s < length (schemes_of schemes k)
        → ((j r : ℕ) → j < k → r < length (schemes_of schemes j) → p (step_by j r) ≡ false) → ((r : ℕ) → r < s → p (step_by k r) ≡ false) → p (step_by k s) ≡ true
        → find p rest ≡ Some (step_by k s))
        → find p (steps_by schemes a ++ rest) ≡ Some (step_by k s)
    go (inl e) ih =
        ap (λ (j : ℕ). find p (steps_by schemes j ++ rest)) (sym e)
        ∙ found_by p k 0 (length (schemes_of schemes k)) s rest (omega arith) (omega (arith, within)) earlier t
    go (inr differ) ih =
        skipped p a 0 (length (schemes_of schemes a)) rest (λ r over under. before a r (omega (arith, above, differ)) (omega (arith, under)))
        ∙ ih (omega (arith, above, differ)) (omega (arith, below)) within before earlier t

-- ---- the next step

not_both : (b c : Bool) → (b ≡ false → c ≡ false) → (not b && c) ≡ false
not_both true c f = refl
not_both false c f = f refl

both : (b c : Bool) → b ≡ false → c ≡ true → (not b && c) ≡ true
both b c e f = ap (λ (d : Bool). not d && c) e ∙ f

none_next : (spec : JoinSpec) (schemes : List (List (List Bool))) (known : List ℕ) → IsClosed spec schemes (has known) → next_step spec schemes known ≡ None
none_next spec schemes known closed =
    none_found (can_add spec schemes known) schemes 0 (length schemes)
    (λ k s lt. not_both (has known k) (is_usable (has known) spec schemes k s) (λ out. closed k s out lt))

is_next : (spec : JoinSpec) (schemes : List (List (List Bool))) (known : List ℕ) (step : CertStep) → IsNextStep spec schemes known step
    → next_step spec schemes known ≡ Some step
is_next spec schemes known step next =
    found_at (can_add spec schemes known) schemes 0 (length schemes) step.input step.scheme (omega arith) (omega (arith, step_in_range spec schemes known step next.is_step))
    next.is_step.given
    (λ j r less lt. not_both (has known j) (is_usable (has known) spec schemes j r) (λ out. next.least j r less out lt))
    (λ r less. not_both (has known step.input) (is_usable (has known) spec schemes step.input r) (λ out. next.first r less))
    (both (has known step.input) (is_usable (has known) spec schemes step.input step.scheme) next.is_new next.is_step.usable)

-- ---- all steps

pub unique : (spec : JoinSpec) (schemes : List (List (List Bool))) (inputs most : ℕ) (known : List ℕ) (steps : List CertStep) → IsSaturation spec schemes known steps
    → ((step : CertStep) → In step steps → step.input < inputs) → unknown known inputs ≤ most → steps ≡ next_steps spec schemes most known
unique spec schemes inputs zero known [] h within few = refl
unique spec schemes inputs (suc most) known [] h within few =
    sym (ap (λ (o : Option CertStep). with_step known o (next_steps spec schemes most)) (none_next spec schemes known h))
unique spec schemes inputs zero known (step ∷ steps) (next, h) within few =
    absurd (omega (arith, few, one_fewer known step.input inputs (within step (inl refl)) next.is_new))
unique spec schemes inputs (suc most) known (step ∷ steps) (next, h) within few =
    ap (λ (later : List CertStep). step ∷ later)
    (unique spec schemes inputs most (known ++ step.input ∷ []) steps h (λ other i. within other (inr i))
    (omega (arith, few, one_fewer known step.input inputs (within step (inl refl)) next.is_new)))
    ∙ sym (ap (λ (o : Option CertStep). with_step known o (next_steps spec schemes most)) (is_next spec schemes known step next))

pub few_unknown : (known : List ℕ) (n : ℕ) → unknown known n ≤ n
few_unknown known zero = omega arith
few_unknown known (suc n) = go (has known n) (few_unknown known n)
  where
    go : (b : Bool) → unknown known n ≤ n → one_if_out b + unknown known n ≤ suc n
    go true le = omega (arith, le)
    go false le = omega (arith, le)

pub saturations_are_told : SaturationsAreTold
saturations_are_told spec schemes input cert whole =
    unique spec schemes (length spec.inputs) (length spec.inputs) (input ∷ []) cert whole.saturated (λ step i. (whole.certified.only step i).0)
    (few_unknown (input ∷ []) (length spec.inputs))
