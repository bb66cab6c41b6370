-- What is answered for an input of a join.
use Rattle.std.specs.Prelude.{ℕ, ◌<◌, ◌≤◌, ◌↔◌, Bool, List, [], ◌∷◌, length}
use Rattle.pj_value.specs.Lists.{In, has, AreRising}
use Rattle.pj_shape.specs.declared.joins.CertStep.{CertStep}
use Rattle.pj_shape.specs.declared.joins.JoinSpec.{JoinSpec}
use Rattle.pj_graph.specs.declared.answers.Reach.{Reach}
use Rattle.pj_graph.specs.declared.answers.Reach.TheVariants.{All, Stuck}
use Rattle.pj_shape.specs.Sets.{IsClosed, Reaches, schemes_of}
use Rattle.pj_shape.specs.Certificates.{IsCertificate}
use Rattle.pj_graph.specs.Certificates.{IsSaturation}

-- each input has at most 256 schemes
abbrev pub AreFewSchemes : List (List (List Bool)) → Type 0
AreFewSchemes schemes = (input : ℕ) → length (schemes_of schemes input) ≤ 256

-- every input is reached, and the certificate is that of the saturation from the input alone
pub record IsWhole (spec : JoinSpec) (schemes : List (List (List Bool))) (input : ℕ) (cert : List CertStep) : Type 0 where
  pub all : (other : ℕ) → other < length spec.inputs → Reaches spec schemes input other
  pub certified : IsCertificate spec schemes input cert
  pub saturated : IsSaturation spec schemes (input ∷ []) cert

-- these are exactly the inputs that are reached, in order, and the least of the others is missing
pub record IsStuck (spec : JoinSpec) (schemes : List (List (List Bool))) (input : ℕ) (reached : List ℕ) (missing : ℕ) : Type 0 where
  pub exactly : (other : ℕ) → In other reached ↔ ((other < length spec.inputs) × Reaches spec schemes input other)
  pub in_order : AreRising reached
  pub closed : IsClosed spec schemes (has reached)
  pub missing_is_input : missing < length spec.inputs
  pub missed : ¬ Reaches spec schemes input missing
  pub least : (other : ℕ) → other < missing → Reaches spec schemes input other

-- the answer tells what the input reaches
abbrev pub IsReach : JoinSpec → List (List (List Bool)) → ℕ → Reach → Type 0
IsReach spec schemes input (All cert) = IsWhole spec schemes input cert
IsReach spec schemes input (Stuck reached missing) = IsStuck spec schemes input reached missing
