-- The states of the inputs, and their tuples.
use Rattle.std.proofs.Common.{ℕ, zero, suc, ◌<◌, List, [], ◌∷◌, ◌≡◌, length, get_or, refl, arith, ◌+◌, ◌-◌, map, ap, ◌∙◌, sym, ap₂}
use Rattle.pj_state.specs.States.{StateView}
use Rattle.pj_rows.specs.Tuples.{state_at, tuple_in, tuples_in, no_state}

pub same-at : {A : Type 0} (xs : List A) (i : ℕ) (d e : A) → i < length xs → get_or xs i d ≡ get_or xs i e
same-at [] i d e lt = absurd (omega (arith, lt))
same-at (x ∷ xs) zero d e lt = refl
same-at (x ∷ xs) (suc i) d e lt = same-at xs i d e (omega (arith, lt))

-- ---- states and stores in their places

pub tuples-length : (base : ℕ) (states : List StateView) → length (tuples_in base states) ≡ length states
tuples-length base [] = refl
tuples-length base (s ∷ ss) = ap suc (tuples-length (base + 1) ss)

pub tuples-at : (base : ℕ) (states : List StateView) (k : ℕ) → k < length states → get_or (tuples_in base states) k [] ≡ map (tuple_in (base + k)) (state_at states k).rows
tuples-at base [] k lt = absurd (omega (arith, lt))
tuples-at base (s ∷ ss) zero lt = ap (λ (n : ℕ). map (tuple_in n) s.rows) (omega arith)
tuples-at base (s ∷ ss) (suc k) lt = tuples-at (base + 1) ss k (omega (arith, lt)) ∙ ap (λ (n : ℕ). map (tuple_in n) (state_at ss k).rows) (omega arith)

-- ---- states in their places

pub side_at : (states : List StateView) (k : ℕ) (s : StateView) → k < length states → s ≡ get_or states k s → get_or (tuples_in 0 states) k [] ≡ map (tuple_in k) s.rows
side_at states k s lt is = tuples-at 0 states k lt ∙ ap₂ (λ n (t : StateView). map (tuple_in n) t.rows) (plain k) (same-at states k no_state s lt ∙ sym is)
  where
    plain : (n : ℕ) → 0 + n ≡ n
    plain n = omega arith

pub state_is : (states : List StateView) (k : ℕ) (s : StateView) (n : ℕ) → length states ≡ n → k < n → s ≡ get_or states k s → s ≡ state_at states k
state_is states k s n count lt is = is ∙ same-at states k s no_state (omega (arith, count, lt))
