-- Numbers of all nodes of a core.
use Rattle.std.specs.Prelude.{ℕ, ◌+◌, ◌^◌, ◌≤◌, ◌≡◌, List, map, length, sum}
use Rattle.pj_events.specs.CoreKept.{KeptOperator, NothingKept, UnionKept, JoinKept, GroupKept}
use Rattle.pj_operator.specs.declared.operator.RunningOperator.{RunningOperator}
use Rattle.pj_operator.specs.declared.operator.OperatorState.{OperatorState}
use Rattle.pj_operator.specs.declared.look.Sums.{Sums}
use Rattle.pj_operator.specs.Operators.{kept_seen, stored_kept, pending_kept}

abbrev pub opened_kept : KeptOperator → ℕ
opened_kept NothingKept = 0
opened_kept (UnionKept union) = 0
opened_kept (JoinKept kept) = length kept.opened
opened_kept (GroupKept table) = 0

abbrev pub waiting_kept : KeptOperator → ℕ
waiting_kept NothingKept = 0
waiting_kept (UnionKept union) = 0
waiting_kept (JoinKept kept) = length kept.waiting
waiting_kept (GroupKept table) = 0

-- nothing is pending, taken, stored or waiting there
abbrev pub HasNoNumbers : KeptOperator → Type 0
HasNoNumbers kept = (pending_kept kept ≡ 0) × (opened_kept kept ≡ 0) × (stored_kept kept ≡ 0) × (waiting_kept kept ≡ 0)

-- the sum of a number of each node
abbrev pub total : (KeptOperator → ℕ) → List RunningOperator → ℕ
total number operators = sum (map (λ operator. number (kept_seen operator.state)) operators)

-- what these sums and those of the other nodes come to
pub record AreWith (sums : Sums) (rest all : List RunningOperator) : Type 0 where
  pub pending : sums.pending + total pending_kept rest ≡ total pending_kept all
  pub opened : sums.taken + sums.pending + total opened_kept rest ≡ total opened_kept all
  pub stored : sums.stored + total stored_kept rest ≡ total stored_kept all
  pub waiting : sums.waiting + total waiting_kept rest ≡ total waiting_kept all

-- so that they can be added
pub record AreFew (operators : List RunningOperator) : Type 0 where
  pub pending : total pending_kept operators ≤ 2 ^ 60
  pub opened : total opened_kept operators ≤ 2 ^ 60
  pub stored : total stored_kept operators ≤ 2 ^ 60
  pub waiting : total waiting_kept operators ≤ 2 ^ 60

-- sums with those of one node more
pub record AddsNode (old new : Sums) (state : OperatorState) : Type 0 where
  pub pending : new.pending ≡ old.pending + pending_kept (kept_seen state)
  pub taken : new.taken + pending_kept (kept_seen state) ≡ old.taken + opened_kept (kept_seen state)
  pub stored : new.stored ≡ old.stored + stored_kept (kept_seen state)
  pub waiting : new.waiting ≡ old.waiting + waiting_kept (kept_seen state)

-- which fit a number
pub record AreAddable (sums : Sums) (state : OperatorState) : Type 0 where
  pub pending : sums.pending + pending_kept (kept_seen state) ≤ 2 ^ 60
  pub taken : sums.taken + opened_kept (kept_seen state) ≤ 2 ^ 60
  pub stored : sums.stored + stored_kept (kept_seen state) ≤ 2 ^ 60
  pub waiting : sums.waiting + waiting_kept (kept_seen state) ≤ 2 ^ 60
