-- Lists as bags: what counts is how often each element occurs, and not where.
use Rattle.std.specs.Prelude.{◌≡◌, ◌≤◌, ◌+◌, ℕ, List, [], ◌∷◌, if◌then◌else◌}
use Rattle.pj_value.specs.declared.values.Value.{Value}
use Rattle.pj_value.specs.Values.{row_eq}

-- the weight of a list whose elements weigh so much each
abbrev pub weigh : {A : Type 0} → (A → ℕ) → List A → ℕ
weigh f [] = 0
weigh f (x ∷ xs) = f x + weigh f xs

-- each element occurs equally often in both: whatever the elements weigh, both lists weigh the same
abbrev pub SameBag : {A : Type 0} → List A → List A → Type 0
SameBag {A} xs ys = (f : A → ℕ) → weigh f xs ≡ weigh f ys

-- no element occurs more often in the first: whatever the elements weigh, it weighs no more
abbrev pub SubBag : {A : Type 0} → List A → List A → Type 0
SubBag {A} xs ys = (f : A → ℕ) → weigh f xs ≤ weigh f ys

-- how often the row occurs in the list
abbrev pub times : List Value → List (List Value) → ℕ
times row rows = weigh (λ r. if row_eq row r then 1 else 0) rows
