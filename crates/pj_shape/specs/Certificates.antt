-- Certificates of an input of a join.
use Rattle.std.specs.Prelude.{ℕ, ◌<◌, ◌≡◌, ◌≢◌, true, ◌==◌, if◌then◌else◌, List, [], ◌∷◌, ◌++◌, Bool, length, map}
use Rattle.pj_value.specs.Lists.{In, has}
use Rattle.pj_value.specs.Bags.{weigh}
use Rattle.pj_shape.specs.declared.joins.CertStep.{CertStep}
use Rattle.pj_shape.specs.declared.joins.JoinSpec.{JoinSpec}
use Rattle.pj_shape.specs.Sets.{is_usable, schemes_of}

-- the inputs of these steps
abbrev pub inputs_of : List CertStep → List ℕ
inputs_of steps = map (λ step. step.input) steps

-- how many of these steps are of the input
abbrev pub steps_at : List CertStep → ℕ → ℕ
steps_at steps input = weigh (λ step. if step.input == input then 1 else 0) steps

-- the step's scheme is one of its input, and its marked columns lie in classes with a column of a known input
pub record IsStep (spec : JoinSpec) (schemes : List (List (List Bool))) (known : List ℕ) (step : CertStep) : Type 0 where
  pub given : step.scheme < length (schemes_of schemes step.input)
  pub usable : is_usable (has known) spec schemes step.input step.scheme ≡ true

-- each step is one, where these inputs and those of the steps before it are known
abbrev pub AreSteps : JoinSpec → List (List (List Bool)) → List ℕ → List CertStep → Type 0
AreSteps spec schemes known [] = Unit {0}
AreSteps spec schemes known (step ∷ steps) =
    IsStep spec schemes known step × AreSteps spec schemes (known ++ step.input ∷ []) steps

-- every other input stands in the list once and nothing else does, and each step's scheme is one of its input, with its
-- marked columns in classes with a column of this input or of that of an earlier step
pub record IsCertificate (spec : JoinSpec) (schemes : List (List (List Bool))) (input : ℕ) (cert : List CertStep) : Type 0 where
  pub once : (other : ℕ) → other < length spec.inputs → other ≢ input → steps_at cert other ≡ 1
  pub only : (step : CertStep) → In step cert → (step.input < length spec.inputs) × (step.input ≢ input)
  pub steps : AreSteps spec schemes (input ∷ []) cert
