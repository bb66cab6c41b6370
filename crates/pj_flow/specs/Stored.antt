-- The stores of the punctuations that came to a union, one for each input.
use Rattle.std.specs.Prelude.{ℕ, ◌+◌, ◌-◌, ◌≡◌, ◌⊎◌, ⊤, true, false, Bool, ◌==◌, List, [], ◌∷◌, ◌++◌, length, take, if◌then◌else◌}
use Rattle.pj_value.specs.declared.values.Value.{Value}
use Rattle.pj_events.specs.Patterns.{Pattern, is_wild, matches_value}
use Rattle.pj_events.specs.Operators.{Sent}
use Rattle.pj_puncts.specs.declared.store.NumberedPunct.{NumberedPunct}
use Rattle.pj_puncts.specs.Givens.{marked}
use Rattle.pj_puncts.specs.Stores.{Store}
use Rattle.pj_flow.specs.declared.sample.Sample.{Sample}
use Rattle.pj_flow.specs.Insides.{newest, sent_at}

-- the punctuations of an input among these, numbered by their places from this one on
abbrev pub of_input : ℕ → ℕ → List Sent → List NumberedPunct
of_input k at [] = []
of_input k at (q ∷ came) = if q.input == k then (record { punct = q.patterns; number = at } ∷ of_input k (at + 1) came) else of_input k (at + 1) came

-- the store has the punctuations of an input
pub record IsStore (arity : ℕ) (came : List Sent) (k : ℕ) (store : Store) : Type 0 where
  pub wide : store.arity ≡ arity
  pub has : store.kept ≡ of_input k 0 came

-- these are the stores of the inputs from this one on
abbrev pub AreStored : ℕ → List Sent → ℕ → List Store → Type 0
AreStored arity came k [] = ⊤
AreStored arity came k (store ∷ stores) = IsStore arity came k store × AreStored arity came (k + 1) stores

-- all but the newest
abbrev pub older : List Sent → List Sent
older came = take (length came - 1) came

abbrev pub FitsNewest : ℕ → List Sent → Type 0
FitsNewest arity came = length (sent_at came (newest came)).patterns ≡ arity

-- ---- samples

-- a value that the pattern matches in each marked column, and a wildcard in each other one
abbrev pub IsSample : List Pattern → List Bool → List Value → Type 0
IsSample [] [] [] = ⊤
IsSample [] [] (v ∷ vs) = ⊥
IsSample [] (mark ∷ marks) vs = ⊥
IsSample (p ∷ ps) [] vs = ⊥
IsSample (p ∷ ps) (false ∷ marks) vs = (is_wild p ≡ true) × IsSample ps marks vs
IsSample (p ∷ ps) (true ∷ marks) [] = ⊥
IsSample (p ∷ ps) (true ∷ marks) (v ∷ vs) = (matches_value p v ≡ true) × IsSample ps marks vs

pub record IsSampleOf (arity : ℕ) (patterns : List Pattern) (sample : Sample) : Type 0 where
  pub wide : length sample.scheme ≡ arity
  pub count : length sample.values ≡ marked sample.scheme
  pub matched : IsSample patterns sample.scheme sample.values

-- one cell more
abbrev pub TakesCell : Pattern → List Bool → List Value → List Bool → List Value → Type 0
TakesCell p marks vs marked_now taken =
    ((is_wild p ≡ true) × (marked_now ≡ marks ++ false ∷ []) × (taken ≡ vs))
    ⊎ ((v : Value) × (matches_value p v ≡ true) × (marked_now ≡ marks ++ true ∷ []) × (taken ≡ vs ++ v ∷ []))
