-- What the tests of closed sets and of certificates look at.
use Rattle.std.specs.Prelude.{ℕ, zero, suc, ◌+◌, Bool, true, not, ◌&&◌, ◌||◌, nat_lt, List, [], ◌∷◌, ◌++◌, length, slice_index_or}
use Rattle.std.specs.List.{list_any}
use Rattle.pj_shape.specs.declared.joins.CertStep.{CertStep}
use Rattle.pj_shape.specs.declared.joins.ClassCol.{ClassCol}
use Rattle.pj_shape.specs.declared.joins.JoinSpec.{JoinSpec}
use Rattle.pj_shape.specs.Sets.{are_bound, is_bound, schemes_of}
use Rattle.pj_value.specs.Lists.{has}

-- whether the column is not marked, or is bound
abbrev pub is_met : List (List ClassCol) → List ℕ → ClassCol → Bool → Bool
is_met classes known at mark = not mark || is_bound (has known) classes at.input at.column

-- whether one of these schemes of the input can be used
abbrev pub any_usable : List (List ClassCol) → List ℕ → ℕ → List (List Bool) → Bool
any_usable classes known input list = list_any (λ marks. are_bound (has known) classes input 0 marks) list

-- whether the input is known or none of these schemes of it can be used
abbrev pub passes : List (List ClassCol) → List ℕ → ℕ → List (List Bool) → Bool
passes classes known input list = has known input || not (any_usable classes known input list)

-- whether each input from this one on is known or has no scheme that can be used
abbrev pub closed_from : List (List ClassCol) → List ℕ → ℕ → List (List (List Bool)) → Bool
closed_from classes known input [] = true
closed_from classes known input (list ∷ lists) =
    passes classes known input list && closed_from classes known (input + 1) lists

-- whether the first so many numbers all are known
abbrev pub all_known : List ℕ → ℕ → Bool
all_known known zero = true
all_known known (suc n) = has known n && all_known known n

-- whether there is a scheme with this number, and it can be used
abbrev pub can_use : List (List ClassCol) → List ℕ → ℕ → List (List Bool) → ℕ → Bool
can_use classes known input list scheme = nat_lt scheme (length list) && are_bound (has known) classes input 0 (slice_index_or list scheme [])

-- whether the step adds an input that is not known, by a scheme that can be used
abbrev pub step_holds : JoinSpec → List (List (List Bool)) → List ℕ → CertStep → Bool
step_holds spec schemes known step =
    not (has known step.input) && can_use spec.classes known step.input (schemes_of schemes step.input) step.scheme

-- whether each step does so, and all inputs are known behind the last
abbrev pub steps_hold : JoinSpec → List (List (List Bool)) → List ℕ → List CertStep → Bool
steps_hold spec schemes known [] = all_known known (length spec.inputs)
steps_hold spec schemes known (step ∷ steps) = step_holds spec schemes known step && steps_hold spec schemes (known ++ step.input ∷ []) steps
