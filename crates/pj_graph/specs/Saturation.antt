-- What an input reaches, and its certificate, by the saturation from this input alone.
use Rattle.std.specs.Prelude.{ℕ, zero, suc, Bool, not, ◌&&◌, if◌then◌else◌, List, [], ◌∷◌, ◌++◌, Option, Some, None, map, length}
use Rattle.std.specs.List.{find, flat_map, range_with_len}
use Rattle.pj_shape.specs.declared.joins.CertStep.{CertStep}
use Rattle.pj_shape.specs.declared.joins.JoinSpec.{JoinSpec}
use Rattle.pj_shape.specs.Sets.{is_usable, schemes_of}
use Rattle.pj_shape.specs.Certificates.{inputs_of}
use Rattle.pj_graph.specs.declared.answers.Reach.{Reach}
use Rattle.pj_graph.specs.declared.answers.Reach.TheVariants.{All, Stuck}
use Rattle.pj_value.specs.Lists.{has}

-- the step that adds this input by its scheme of this number
abbrev pub step_by : ℕ → ℕ → CertStep
step_by input scheme = record { input = input; scheme = scheme }

-- a step for each scheme of the input, in order
abbrev pub steps_by : List (List (List Bool)) → ℕ → List CertStep
steps_by schemes input = map (step_by input) (range_with_len 0 (length (schemes_of schemes input)))

-- the same of all inputs, in order
abbrev pub all_steps : List (List (List Bool)) → List CertStep
all_steps schemes = flat_map (steps_by schemes) (range_with_len 0 (length schemes))

-- whether the step adds an input that is not known, by a scheme all of whose marked columns lie in classes with a column of a known one
abbrev pub can_add : JoinSpec → List (List (List Bool)) → List ℕ → CertStep → Bool
can_add spec schemes known step = not (has known step.input) && is_usable (has known) spec schemes step.input step.scheme

-- the first such step: it adds the least input that can be added, by its first scheme that allows it
abbrev pub next_step : JoinSpec → List (List (List Bool)) → List ℕ → Option CertStep
next_step spec schemes known = find (can_add spec schemes known) (all_steps schemes)

-- the step and what comes after it, where these inputs were known before it
abbrev pub with_step : List ℕ → Option CertStep → (List ℕ → List CertStep) → List CertStep
with_step known None after = []
with_step known (Some step) after = step ∷ after (known ++ step.input ∷ [])

-- the next steps, at most so many, where these inputs are known
abbrev pub next_steps : JoinSpec → List (List (List Bool)) → ℕ → List ℕ → List CertStep
next_steps spec schemes zero known = []
next_steps spec schemes (suc most) known = with_step known (next_step spec schemes known) (next_steps spec schemes most)

-- the next steps from the input alone: until none is left, since each input is added once at most
abbrev pub certificate_of : JoinSpec → List (List (List Bool)) → ℕ → List CertStep
certificate_of spec schemes input = next_steps spec schemes (length spec.inputs) (input ∷ [])

-- ---- what the input reaches

-- the inputs that are known at the end: this one, and those that were added
abbrev pub known_of : JoinSpec → List (List (List Bool)) → ℕ → List ℕ
known_of spec schemes input = input ∷ inputs_of (certificate_of spec schemes input)

-- those of the first so many numbers that are among these, in order
abbrev pub sorted_below : List ℕ → ℕ → List ℕ
sorted_below known zero = []
sorted_below known (suc n) = sorted_below known n ++ (if has known n then n ∷ [] else [])

-- the number that is missing, or this one where none was and it is not known
abbrev pub or_missing : Option ℕ → Bool → ℕ → Option ℕ
or_missing (Some missing) is_known n = Some missing
or_missing None is_known n = if is_known then None else Some n

-- the least of the first so many numbers that is none of these, if there is one
abbrev pub missing_below : List ℕ → ℕ → Option ℕ
missing_below known zero = None
missing_below known (suc n) = or_missing (missing_below known n) (has known n) n

-- the certificate where no input is missing, else the inputs that are reached, and the missing one
abbrev pub answer_by : List CertStep → List ℕ → Option ℕ → Reach
answer_by cert reached None = All cert
answer_by cert reached (Some missing) = Stuck reached missing

-- what the input reaches: all, with its certificate, where every input is known at the end; else the known ones in order, and
-- the least other
abbrev pub reach_of : JoinSpec → List (List (List Bool)) → ℕ → Reach
reach_of spec schemes input =
    answer_by (certificate_of spec schemes input) (sorted_below (known_of spec schemes input) (length spec.inputs))
    (missing_below (known_of spec schemes input) (length spec.inputs))
