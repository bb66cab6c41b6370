-- What is found of a plan: the certificates of a safe one, or the first node at a risk, and what is told of it.
use Rattle.std.specs.Prelude.{ℕ, ◌<◌, ◌≡◌, ◌↔◌, ◌==◌, Bool, false, List, [], ◌∷◌, ◌++◌, map, codes}
use Rattle.std.specs.List.{list_any}
use Rattle.pj_value.specs.Lists.{In, AreRising}
use Rattle.pj_shape.specs.Sets.{Reaches}
use Rattle.pj_plan.specs.declared.node.PlanNode.{PlanNode}
use Rattle.pj_plan.specs.Nodes.{inputs_of}
use Rattle.pj_plan.specs.Canonical.{node_at, node_name}
use Rattle.pj_cert.specs.Verdicts.{reached_text, unreached_text}
use Rattle.pj_safety.specs.declared.risk.PlanRisk.{PlanRisk}
use Rattle.pj_safety.specs.declared.risk.PlanRisk.TheVariants.{Stuck}
use Rattle.pj_safety.specs.Certificates.{AreCertificates, certificates_of}
use Rattle.pj_safety.specs.Safety.{IsFirstRisk, IsSafePlan, inputs_at, schemes_at, spec_at}
use Rattle.pj_judge.specs.declared.safety.Judged.{Judged}
use Rattle.pj_judge.specs.declared.safety.Judged.TheVariants.{Safe, Unsafe as Refused}
use Rattle.pj_judge.specs.declared.safety.Unsafe.{Unsafe}

-- ---- what is told

-- these are the inputs that an input of the join reaches, in their order
pub record AreReached (nodes : List PlanNode) (join input : ℕ) (reached : List ℕ) : Type 0 where
  pub rising : AreRising reached
  pub exactly : (to : ℕ) → In to reached ↔ ((to < inputs_at nodes join) × Reaches (spec_at nodes join) (schemes_at nodes join) input to)

-- the names of a join's inputs
abbrev pub input_names : List PlanNode → ℕ → List (List ℕ)
input_names nodes join = map (node_name nodes) (inputs_of (node_at nodes join))

-- the line of a stuck input with what it does not reach, and that of what it reaches
abbrev pub unsafe_lines : List PlanNode → ℕ → ℕ → ℕ → List ℕ → List (List ℕ)
unsafe_lines nodes join input missing reached =
    unreached_text (node_name nodes join) (input_names nodes join) input missing ∷ reached_text (input_names nodes join) reached ∷ []

-- these are the lines of a node at this risk: of a stuck input its two
abbrev pub AreUnsafeLines : List PlanNode → ℕ → PlanRisk → List (List ℕ) → Type 0
AreUnsafeLines nodes n (Stuck input missing) lines = (reached : List ℕ) × AreReached nodes n input reached × (lines ≡ unsafe_lines nodes n input missing reached)

-- the line begins with `#`, and has its only line feed at its end
pub record IsNote (line : List ℕ) : Type 0 where
  pub text : List ℕ
  pub form : line ≡ codes "#" ++ text ++ codes "\n"
  pub no_feed : list_any (λ b. b == 10) text ≡ false

-- the lines that are told of an unsafe plan are such lines
abbrev pub HasUnsafeLines : Unsafe → Type 0
HasUnsafeLines found = (line : List ℕ) → In line found.lines → IsNote line

-- the same, if there are any
abbrev pub AreLinesNotes : Judged → Type 0
AreLinesNotes (Safe certs) = Unit {0}
AreLinesNotes (Refused found) = HasUnsafeLines found

-- ---- the judgment

-- the plan is safe, with its certificates; or its first node at a risk was found, with its risk and its lines
abbrev pub IsJudgment : List PlanNode → Judged → Type 0
IsJudgment nodes (Safe certs) = IsSafePlan nodes × (certs ≡ certificates_of nodes) × AreCertificates nodes
IsJudgment nodes (Refused found) = IsFirstRisk nodes found.node found.risk × AreUnsafeLines nodes found.node found.risk found.lines
