-- Ranges as step functions.
use Rattle.std.proofs.Common.{◌≡◌, Bool, true, false, not, ◌&&◌, cond, ℕ, [], ◌∷◌, Option, Some, None, refl, ap, sym, ◌∙◌}
use Rattle.std.specs.Ordering.{is_gt}
use Rattle.std.proofs.lemmas.Bool.{and_parts, false≢true}
use Rattle.pj_value.specs.declared.values.Value.{Value}
use Rattle.pj_value.specs.declared.values.Value.TheVariants.{Int, Text}
use Rattle.pj_value.specs.Values.{value_cmp, value_eq}
use Rattle.pj_value.proofs.Orders.{not_above_itself}
use Rattle.pj_pattern.specs.Patterns.{same_kind, up_to}
use Rattle.pj_pattern.proofs.UpTo.{pinned, up_chain}
use Rattle.pj_intervals.specs.declared.steps.Cut.{Cut}
use Rattle.pj_intervals.specs.declared.steps.Cut.TheVariants.{Start, Before, After}
use Rattle.pj_intervals.specs.Steps.{IsSorted, is_not_above, one_step, place_at, steps_between, steps_from, steps_up_to, two_steps}
use Rattle.pj_intervals.proofs.CutOrder.{reached_below}

-- the place where the test is true
abbrev pub place_where : Bool → ℕ → Option ℕ
place_where b n = cond b (Some n) None

pub one_sorted : (from : Cut) (n : ℕ) → IsSorted (one_step from n)
one_sorted from n v = (λ _. tt, tt)

pub two_sorted : (from to : Cut) (n : ℕ) → is_not_above from to ≡ true → IsSorted (two_steps from to n)
two_sorted from to n e v = (λ h. (reached_below from to v e h, tt), (λ _. tt, tt))

-- ---- from one value to another

-- by the tests of the kinds and of the ends
between_tests : (k j a b : Bool) (n : ℕ) → (a ≡ false → b ≡ false → (k ≡ true) × (j ≡ true)) → cond b None (cond (not a) (Some n) None) ≡ place_where ((k && not a) && (j && not b)) n
between_tests true true true true n h = refl
between_tests true true true false n h = refl
between_tests true true false true n h = refl
between_tests true true false false n h = refl
between_tests true false true true n h = refl
between_tests true false true false n h = refl
between_tests true false false true n h = refl
between_tests true false false false n h = absurd (false≢true (h refl refl).1)
between_tests false j true true n h = refl
between_tests false j true false n h = refl
between_tests false j false true n h = refl
between_tests false j false false n h = absurd (false≢true (h refl refl).0)

-- what is between two values of one kind is of that kind
kinds_between : (low high v : Value) → same_kind low high ≡ true → is_gt (value_cmp low v) ≡ false → is_gt (value_cmp v high) ≡ false → (same_kind low v ≡ true) × (same_kind v high ≡ true)
kinds_between (Int l) (Int h) (Int n) k p q = (refl, refl)
kinds_between (Int l) (Int h) (Text z) k p q = absurd (false≢true (sym q))
kinds_between (Int l) (Text y) v k p q = absurd (false≢true k)
kinds_between (Text x) (Int h) v k p q = absurd (false≢true k)
kinds_between (Text x) (Text y) (Int n) k p q = absurd (false≢true (sym p))
kinds_between (Text x) (Text y) (Text z) k p q = (refl, refl)

within_at : (low high v : Value) (n : ℕ) → same_kind low high ≡ true → place_at (two_steps (Before low) (After high) n) v ≡ place_where (up_to low v && up_to v high) n
within_at low high v n k = between_tests (same_kind low v) (same_kind v high) (is_gt (value_cmp low v)) (is_gt (value_cmp v high)) n (kinds_between low high v k)

none_within : (low high v : Value) → up_to low high ≡ false → (up_to low v && up_to v high) ≡ false
none_within low high v e = go (up_to low v) refl (up_to v high) refl
  where
    go : (b : Bool) → up_to low v ≡ b → (c : Bool) → up_to v high ≡ c → (b && c) ≡ false
    go true p true q = absurd (false≢true (sym e ∙ up_chain low v high p q))
    go true p false q = refl
    go false p c q = refl

pub between_at : (low high v : Value) (n : ℕ) → place_at (steps_between low high n) v ≡ place_where (up_to low v && up_to v high) n
between_at low high v n = go (up_to low high) refl
  where
    go : (b : Bool) → up_to low high ≡ b → place_at (cond b (two_steps (Before low) (After high) n) []) v ≡ place_where (up_to low v && up_to v high) n
    go true e = within_at low high v n (and_parts (same_kind low high) (not (is_gt (value_cmp low high))) e).0
    go false e = sym (ap (λ b. place_where b n) (none_within low high v e))

pub between_sorted : (low high : Value) (n : ℕ) → IsSorted (steps_between low high n)
between_sorted low high n = go (up_to low high) refl
  where
    go : (b : Bool) → up_to low high ≡ b → IsSorted (cond b (two_steps (Before low) (After high) n) [])
    go true e = two_sorted (Before low) (After high) n (and_parts (same_kind low high) (not (is_gt (value_cmp low high))) e).1
    go false e = λ v. tt

kind_itself : (c : Value) → same_kind c c ≡ true
kind_itself (Int n) = refl
kind_itself (Text x) = refl

pub constant_at : (c v : Value) (n : ℕ) → place_at (two_steps (Before c) (After c) n) v ≡ place_where (value_eq c v) n
constant_at c v n = within_at c c v n (kind_itself c) ∙ sym (ap (λ b. place_where b n) (pinned c v))

pub constant_sorted : (c : Value) (n : ℕ) → IsSorted (two_steps (Before c) (After c) n)
constant_sorted c n = two_sorted (Before c) (After c) n (ap not (not_above_itself c))

-- ---- with one end

up_tests : (a : Bool) (n : ℕ) → cond a None (Some n) ≡ place_where (not a) n
up_tests true n = refl
up_tests false n = refl

down_tests : (a : Bool) (n : ℕ) → place_where a n ≡ place_where (a && true) n
down_tests true n = refl
down_tests false n = refl

pub from_at : (low v : Value) (n : ℕ) → place_at (steps_from low n) v ≡ place_where (up_to low v && true) n
from_at (Int m) (Int k) n = down_tests (not (is_gt (value_cmp (Int m) (Int k)))) n
from_at (Int m) (Text []) n = refl
from_at (Int m) (Text (y ∷ ys)) n = refl
from_at (Text x) (Int k) n = refl
from_at (Text x) (Text y) n = down_tests (not (is_gt (value_cmp (Text x) (Text y)))) n

pub from_sorted : (low : Value) (n : ℕ) → IsSorted (steps_from low n)
from_sorted (Int m) n = two_sorted (Before (Int m)) (Before (Text [])) n refl
from_sorted (Text x) n = one_sorted (Before (Text x)) n

pub up_to_at : (high v : Value) (n : ℕ) → place_at (steps_up_to high n) v ≡ place_where (up_to v high) n
up_to_at (Int m) (Int k) n = up_tests (is_gt (value_cmp (Int k) (Int m))) n
up_to_at (Int m) (Text y) n = refl
up_to_at (Text x) (Int k) n = refl
up_to_at (Text x) (Text []) n = up_tests (is_gt (value_cmp (Text []) (Text x))) n
up_to_at (Text x) (Text (y ∷ ys)) n = up_tests (is_gt (value_cmp (Text (y ∷ ys)) (Text x))) n

pub up_to_sorted : (high : Value) (n : ℕ) → IsSorted (steps_up_to high n)
up_to_sorted (Int m) n = two_sorted Start (After (Int m)) n refl
up_to_sorted (Text []) n = two_sorted (Before (Text [])) (After (Text [])) n refl
up_to_sorted (Text (x ∷ xs)) n = two_sorted (Before (Text [])) (After (Text (x ∷ xs))) n refl
