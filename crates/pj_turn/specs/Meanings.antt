-- What a state and an act mean.
use Rattle.std.specs.Prelude.{ℕ, List, []}

-- A state that stands for lists of entries: the number of an entry; whether a value stands for a list; what is kept of
-- every such list, which holds of the empty one; and the fixed part of a value
pub record KeptMeaning (T E F : Type 0) : Type 1 where
  pub number : E → ℕ
  pub stands : T → List E → Type 0
  pub keeps : List E → Type 0
  pub keeps_none : keeps []
  pub fixed : T → F

-- An act: what it needs of the fixed part, of its seat's number, of what the seat has seen and of the seat's own entries
-- in that; which entry it makes, of the seat's number, the history and the answer; and what it gives, of the seat's
-- number, the history, the state before, the answer and the state after
pub record ActMeaning (T E F A : Type 0) : Type 1 where
  pub needs : F → ℕ → List E → List E → Type 0
  pub entry : ℕ → List E → A → E
  pub gives : ℕ → List E → T → A → T → Type 0
