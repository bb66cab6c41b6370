-- From every input there is a saturation.
use Rattle.std.proofs.Common.{ℕ, zero, suc, ◌<◌, ◌≤◌, ◌≡◌, ◌⊎◌, length, arith, Bool, true, false, List, [], ◌∷◌, ◌++◌, refl, sym, ap, ◌∙◌, subst, inl, inr}
use Rattle.std.proofs.lemmas.Bool.{cases_eq, false≢true}
use Rattle.pj_value.specs.Lists.{has}
use Rattle.pj_shape.specs.declared.joins.CertStep.{CertStep}
use Rattle.pj_shape.specs.declared.joins.JoinSpec.{JoinSpec}
use Rattle.pj_shape.specs.Sets.{IsClosed, is_usable, schemes_of}
use Rattle.pj_graph.specs.Certificates.{IsNextStep, IsSaturation}
use Rattle.pj_graph.proofs.Saturations.{no_scheme, one_fewer, step_in_range, unknown}

-- ---- the first number that passes a test

abbrev NoneBelow : (ℕ → Bool) → ℕ → Type 0
NoneBelow test n = (k : ℕ) → k < n → test k ≡ false

record IsLeast (test : ℕ → Bool) (n : ℕ) : Type 0 where
  number : ℕ
  within : number < n
  holds : test number ≡ true
  before : NoneBelow test number

first_below : (test : ℕ → Bool) (n : ℕ) → NoneBelow test n ⊎ IsLeast test n
first_below test zero = inl (λ k lt. absurd (omega (arith, lt)))
first_below test (suc n) = go (test n) refl (first_below test n)
  where
    last : test n ≡ false → NoneBelow test n → NoneBelow test (suc n)
    last e none k lt = elim (cases_eq k n) [ inl same ↦ ap test same ∙ e | inr differ ↦ none k (omega (arith, lt, differ)) ]

    go : (b : Bool) → test n ≡ b → NoneBelow test n ⊎ IsLeast test n → NoneBelow test (suc n) ⊎ IsLeast test (suc n)
    go true e (inl none) = inr (record { number = n; within = omega arith; holds = e; before = none })
    go false e (inl none) = inl (last e none)
    go true e (inr least) = inr (record { number = least.number; within = omega (arith, least.within); holds = least.holds; before = least.before })
    go false e (inr least) = inr (record { number = least.number; within = omega (arith, least.within); holds = least.holds; before = least.before })

-- ---- one input

-- the input is known, or none of its schemes can be used
abbrev IsPassed : JoinSpec → List (List (List Bool)) → List ℕ → ℕ → Type 0
IsPassed spec schemes known k = has known k ≡ false → NoneBelow (is_usable (has known) spec schemes k) (length (schemes_of schemes k))

-- the input is not known, and this is the first of its schemes that can be used
record IsTaken (spec : JoinSpec) (schemes : List (List (List Bool))) (known : List ℕ) (k : ℕ) : Type 0 where
  out : has known k ≡ false
  scheme : IsLeast (is_usable (has known) spec schemes k) (length (schemes_of schemes k))

passed_or_taken : (spec : JoinSpec) (schemes : List (List (List Bool))) (known : List ℕ) (k : ℕ) → IsPassed spec schemes known k ⊎ IsTaken spec schemes known k
passed_or_taken spec schemes known k = go (has known k) refl (first_below (is_usable (has known) spec schemes k) (length (schemes_of schemes k)))
  where
    go : (b : Bool) → has known k ≡ b
        → NoneBelow (is_usable (has known) spec schemes k) (length (schemes_of schemes k)) ⊎ IsLeast (is_usable (has known) spec schemes k) (length (schemes_of schemes k))
        → IsPassed spec schemes known k ⊎ IsTaken spec schemes known k
    go true e found = inl (λ out. absurd (false≢true (sym out ∙ e)))
    go false e (inl none) = inl (λ out. none)
    go false e (inr least) = inr (record { out = e; scheme = least })

-- ---- all inputs

-- the first input that is taken
record IsFirst (spec : JoinSpec) (schemes : List (List (List Bool))) (known : List ℕ) : Type 0 where
  input : ℕ
  taken : IsTaken spec schemes known input
  before : (k : ℕ) → k < input → IsPassed spec schemes known k

all_or_first : (spec : JoinSpec) (schemes : List (List (List Bool))) (known : List ℕ) (n : ℕ)
    → ((k : ℕ) → k < n → IsPassed spec schemes known k) ⊎ IsFirst spec schemes known
all_or_first spec schemes known zero = inl (λ k lt. absurd (omega (arith, lt)))
all_or_first spec schemes known (suc n) = go (all_or_first spec schemes known n) (passed_or_taken spec schemes known n)
  where
    last : IsPassed spec schemes known n → ((k : ℕ) → k < n → IsPassed spec schemes known k) → (k : ℕ) → k < suc n → IsPassed spec schemes known k
    last passed before k lt out = elim (cases_eq k n) [
      | inl same ↦ λ s. passed_at same s
      | inr differ ↦ before k (omega (arith, lt, differ)) out
    ]
      where
        passed_at : k ≡ n → NoneBelow (is_usable (has known) spec schemes k) (length (schemes_of schemes k))
        passed_at same = subst (IsPassed spec schemes known) (sym same) passed out

    go : ((k : ℕ) → k < n → IsPassed spec schemes known k) ⊎ IsFirst spec schemes known → IsPassed spec schemes known n ⊎ IsTaken spec schemes known n
        → ((k : ℕ) → k < suc n → IsPassed spec schemes known k) ⊎ IsFirst spec schemes known
    go (inr first) found = inr first
    go (inl before) (inl passed) = inl (last passed before)
    go (inl before) (inr taken) = inr (record { input = n; taken = taken; before = before })

-- a step that is the next one
record HasNext (spec : JoinSpec) (schemes : List (List (List Bool))) (known : List ℕ) : Type 0 where
  step : CertStep
  is_next : IsNextStep spec schemes known step

closed_or_next : (spec : JoinSpec) (schemes : List (List (List Bool))) (known : List ℕ) → IsClosed spec schemes (has known) ⊎ HasNext spec schemes known
closed_or_next spec schemes known = elim (all_or_first spec schemes known (length schemes)) [
  | inl passed ↦ inl (λ k s out lt. passed k (no_scheme schemes k s lt) out s lt)
  | inr first ↦ inr (next first)
]
  where
    next : IsFirst spec schemes known → HasNext spec schemes known
    next first =
        let scheme = first.taken.scheme in
        record {
          step = record { input = first.input; scheme = scheme.number };
          is_next = record {
            is_step = record { given = scheme.within; usable = scheme.holds };
            is_new = first.taken.out;
            first = scheme.before;
            least = λ k s lt out within. first.before k lt out s within;
          };
        }

-- ---- the steps

-- steps from these inputs on, to a closed set
pub record Saturates (spec : JoinSpec) (schemes : List (List (List Bool))) (known : List ℕ) : Type 0 where
  pub steps : List CertStep
  pub is_saturation : IsSaturation spec schemes known steps

fewer : (spec : JoinSpec) (schemes : List (List (List Bool))) (known : List ℕ) (next : HasNext spec schemes known)
    → unknown (known ++ next.step.input ∷ []) (length schemes) < unknown known (length schemes)
fewer spec schemes known next = one_fewer known next.step.input (length schemes) (step_in_range spec schemes known next.step next.is_next.is_step) next.is_next.is_new

saturates_by : (spec : JoinSpec) (schemes : List (List (List Bool))) (most : ℕ) (known : List ℕ) → unknown known (length schemes) ≤ most → Saturates spec schemes known
saturates_by spec schemes zero known few = elim (closed_or_next spec schemes known) [
  | inl closed ↦ record { steps = []; is_saturation = closed }
  | inr next ↦ absurd (omega (arith, few, fewer spec schemes known next))
]
saturates_by spec schemes (suc most) known few = elim (closed_or_next spec schemes known) [
  | inl closed ↦ record { steps = []; is_saturation = closed }
  | inr next ↦ let rest = saturates_by spec schemes most (known ++ next.step.input ∷ []) (omega (arith, few, fewer spec schemes known next)) in
      record { steps = next.step ∷ rest.steps; is_saturation = (next.is_next, rest.is_saturation) }
]

pub saturates : (spec : JoinSpec) (schemes : List (List (List Bool))) (known : List ℕ) → Saturates spec schemes known
saturates spec schemes known = saturates_by spec schemes (unknown known (length schemes)) known (omega arith)
