-- The first node at which a ticket is pending.
use Rattle.std.proofs.Common.{ℕ, suc, ◌+◌, ◌<◌, ◌≤◌, ◌≢◌, Bool, true, false, cond, List, [], ◌∷◌, ◌≡◌, Some, length, eqb, ap, arith}
use Rattle.std.proofs.lemmas.Bool.{eq-eqb, ne_eqb}
use Rattle.pj_operator.specs.declared.operator.RunningOperator.{RunningOperator}
use Rattle.pj_operator.specs.Acts.{first_pending}
use Rattle.pj_operator.specs.Operators.{kept_seen, pending_kept}

pub found_here : (k : ℕ) (operator : RunningOperator) (operators : List RunningOperator) → pending_kept (kept_seen operator.state) ≢ 0 → first_pending k (operator ∷ operators) ≡ Some k
found_here k operator operators ne = ap (λ (b : Bool). cond b (first_pending (k + 1) operators) (Some k)) (ne_eqb (pending_kept (kept_seen operator.state)) 0 ne)

pub found_later : (k : ℕ) (operator : RunningOperator) (operators : List RunningOperator) → pending_kept (kept_seen operator.state) ≡ 0 → first_pending k (operator ∷ operators) ≡ first_pending (k + 1) operators
found_later k operator operators e = ap (λ (b : Bool). cond b (first_pending (k + 1) operators) (Some k)) (eq-eqb (pending_kept (kept_seen operator.state)) 0 e)

-- it stands among the nodes
pub first_below : (k : ℕ) (operators : List RunningOperator) (n : ℕ) → first_pending k operators ≡ Some n → n < k + length operators
first_below k [] n e = cc
first_below k (operator ∷ operators) n e = go (eqb (pending_kept (kept_seen operator.state)) 0) e (λ q. let l = first_below (k + 1) operators n q in omega (arith, l))
  where
    go : (b : Bool) → cond b (first_pending (k + 1) operators) (Some k) ≡ Some n → (first_pending (k + 1) operators ≡ Some n → n < k + suc (length operators)) → n < k + suc (length operators)
    go true q ih = ih q
    go false q ih = let z : k ≡ n = cc in omega (arith, z)

pub first_from : (k : ℕ) (operators : List RunningOperator) (n : ℕ) → first_pending k operators ≡ Some n → k ≤ n
first_from k [] n e = cc
first_from k (operator ∷ operators) n e = go (eqb (pending_kept (kept_seen operator.state)) 0) e (λ q. let l = first_from (k + 1) operators n q in omega (arith, l))
  where
    go : (b : Bool) → cond b (first_pending (k + 1) operators) (Some k) ≡ Some n → (first_pending (k + 1) operators ≡ Some n → k ≤ n) → k ≤ n
    go true q ih = ih q
    go false q ih = let z : k ≡ n = cc in omega (arith, z)
