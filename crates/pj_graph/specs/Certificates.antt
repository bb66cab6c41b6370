-- Steps of the search for a certificate.
use Rattle.std.specs.Prelude.{ℕ, ◌<◌, ◌≡◌, Bool, false, List, [], ◌∷◌, ◌++◌, length}
use Rattle.pj_value.specs.Lists.{has}
use Rattle.pj_shape.specs.declared.joins.CertStep.{CertStep}
use Rattle.pj_shape.specs.declared.joins.JoinSpec.{JoinSpec}
use Rattle.pj_shape.specs.Sets.{IsClosed, is_usable, schemes_of}
use Rattle.pj_shape.specs.Certificates.{IsStep}

-- the step adds the least input that is not known and has a scheme that can be used, by the first such scheme
pub record IsNextStep (spec : JoinSpec) (schemes : List (List (List Bool))) (known : List ℕ) (step : CertStep) : Type 0 where
  pub is_step : IsStep spec schemes known step
  pub is_new : has known step.input ≡ false
  pub first : (scheme : ℕ) → scheme < step.scheme → is_usable (has known) spec schemes step.input scheme ≡ false
  pub least : (input scheme : ℕ) → input < step.input → has known input ≡ false → scheme < length (schemes_of schemes input)
      → is_usable (has known) spec schemes input scheme ≡ false

-- each step is the next one, where these inputs and those of the steps before it are known, and none comes after the last
abbrev pub IsSaturation : JoinSpec → List (List (List Bool)) → List ℕ → List CertStep → Type 0
IsSaturation spec schemes known [] = IsClosed spec schemes (has known)
IsSaturation spec schemes known (step ∷ steps) =
    IsNextStep spec schemes known step × IsSaturation spec schemes (known ++ step.input ∷ []) steps
