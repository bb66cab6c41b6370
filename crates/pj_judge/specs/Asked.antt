-- What is asked of one node of a plan where it is a join, and which of its inputs is the first that does not reach all.
use Rattle.std.specs.Prelude.{ℕ, ◌<◌, ◌≡◌, Bool, true, false, ◌&&◌, List, [], ◌∷◌, Option, Some, None, map, length}
use Rattle.std.specs.List.{list_all, range_with_len}
use Rattle.pj_shape.specs.declared.joins.CertStep.{CertStep}
use Rattle.pj_shape.specs.declared.joins.JoinSpec.{JoinSpec}
use Rattle.pj_shape.specs.Certificates.{IsCertificate}
use Rattle.pj_shape.specs.Sound.{IsSoundSpec, FitSchemes}
use Rattle.pj_plan.specs.declared.node.PlanNode.{PlanNode}
use Rattle.pj_plan.specs.Canonical.{node_at, node_name}
use Rattle.pj_plan.specs.Names.{is_name_byte}
use Rattle.pj_plan.specs.Nodes.{is_join}
use Rattle.pj_graph.specs.declared.answers.Reach.{Reach}
use Rattle.pj_graph.specs.declared.answers.Reach.TheVariants.{All, Stuck as StuckAt}
use Rattle.pj_graph.specs.Reaching.{AreFewSchemes, IsStuck}
use Rattle.pj_graph.specs.Saturation.{certificate_of}
use Rattle.pj_cert.specs.Verdicts.{reached_text, unreached_text}
use Rattle.pj_safety.specs.declared.risk.PlanRisk.{PlanRisk}
use Rattle.pj_safety.specs.declared.risk.PlanRisk.TheVariants.{Stuck}
use Rattle.pj_safety.specs.Safety.{FirstReachAll, IsFirstRisk, IsFirstStuck, IsRisk, IsSafeNode, schemes_at, spec_at}
use Rattle.pj_judge.specs.declared.safety.Unsafe.{Unsafe}
use Rattle.pj_judge.specs.declared.safety.Verdict.{Verdict}
use Rattle.pj_judge.specs.declared.safety.Verdict.TheVariants.{Certified, Free, Refused}
use Rattle.pj_judge.specs.Judgments.{HasUnsafeLines, input_names}

-- ---- one join

-- a join: its shape, the schemes of its inputs, its name and theirs
pub record Asked : Type 0 where
  pub spec : JoinSpec
  pub schemes : List (List (List Bool))
  pub name : List ℕ
  pub names : List (List ℕ)

-- the join of this number
abbrev pub asked_of : List PlanNode → ℕ → Asked
asked_of nodes join = record {
  spec = spec_at nodes join;
  schemes = schemes_at nodes join;
  name = node_name nodes join;
  names = input_names nodes join;
}

-- whether the name has small letters, digits and `_` alone
abbrev pub is_plain : List ℕ → Bool
is_plain name = list_all is_name_byte name

-- whether the name of the join and those of its inputs are plain
abbrev pub has_plain_names : Asked → Bool
has_plain_names asked = is_plain asked.name && list_all is_plain asked.names

-- the shape is sound, the schemes are as long as its inputs' columns, at most 256 for each input, and the names are plain
pub record IsAskable (asked : Asked) : Type 0 where
  pub sound : IsSoundSpec asked.spec
  pub fitting : FitSchemes asked.spec.inputs asked.schemes
  pub few : AreFewSchemes asked.schemes
  pub plain : has_plain_names asked ≡ true

-- ---- its first stuck input

-- an input of the join is at this risk
abbrev pub IsAtRisk : Asked → PlanRisk → Type 0
IsAtRisk asked (Stuck input missing) = IsFirstStuck asked.spec asked.schemes input missing

-- so many inputs of the join, the first ones, reach all; or the join is at this risk
abbrev pub IsFirstOf : Asked → ℕ → Option PlanRisk → Type 0
IsFirstOf asked count None = FirstReachAll asked.spec asked.schemes count
IsFirstOf asked count (Some risk) = IsAtRisk asked risk

-- all inputs of the join reach all; or the join is at this risk
abbrev pub IsRiskOf : Asked → Option PlanRisk → Type 0
IsRiskOf asked found = IsFirstOf asked (length asked.spec.inputs) found

-- the risk of a join, where this is what was found of the inputs before this one, and that is what this one reaches
abbrev pub or_stuck : Option PlanRisk → ℕ → Reach → Option PlanRisk
or_stuck (Some risk) input found = Some risk
or_stuck None input (All cert) = None
or_stuck None input (StuckAt reached missing) = Some (Stuck input missing)

-- ---- the first node at a risk

-- the node is safe; or it is at this risk
abbrev pub IsRiskAt : List PlanNode → ℕ → Option PlanRisk → Type 0
IsRiskAt nodes n None = IsSafeNode nodes n
IsRiskAt nodes n (Some risk) = IsRisk nodes n risk

-- so many nodes of the plan, the first ones, are safe; or this is the first that is not, and its risk
abbrev pub IsFirstIn : List PlanNode → ℕ → Option (ℕ × PlanRisk) → Type 0
IsFirstIn nodes count None = (n : ℕ) → n < count → IsSafeNode nodes n
IsFirstIn nodes count (Some (n, risk)) = IsFirstRisk nodes n risk

-- the first node at a risk, where this is what was found of the nodes before this one, and that of this one
abbrev pub or_risk : Option (ℕ × PlanRisk) → ℕ → Option PlanRisk → Option (ℕ × PlanRisk)
or_risk (Some first) n found = Some first
or_risk None n None = None
or_risk None n (Some risk) = Some (n, risk)

-- ---- certificates

-- those of so many inputs of the join, the first ones
abbrev pub first_certificates : Asked → ℕ → List (List CertStep)
first_certificates asked count = map (certificate_of asked.spec asked.schemes) (range_with_len 0 count)

-- so many inputs of the join, the first ones, reach all, and these are their certificates
pub record AreCertified (asked : Asked) (count : ℕ) (certs : List (List CertStep)) : Type 0 where
  pub everywhere : FirstReachAll asked.spec asked.schemes count
  pub in_order : certs ≡ first_certificates asked count
  pub valid : (input : ℕ) → input < count → IsCertificate asked.spec asked.schemes input (certificate_of asked.spec asked.schemes input)

-- ---- the lines of a stuck input

-- what it does not reach, and what it reaches
abbrev pub stuck_lines : Asked → ℕ → ℕ → List ℕ → List (List ℕ)
stuck_lines asked input missing reached = unreached_text asked.name asked.names input missing ∷ reached_text asked.names reached ∷ []

-- these are the two lines of the input
pub record AreStuckLines (asked : Asked) (input missing : ℕ) (lines : List (List ℕ)) : Type 0 where
  pub reached : List ℕ
  pub stuck : IsStuck asked.spec asked.schemes input reached missing
  pub told : lines ≡ stuck_lines asked input missing reached

-- these are the lines of the join at this risk
abbrev pub AreRiskLines : Asked → PlanRisk → List (List ℕ) → Type 0
AreRiskLines asked (Stuck input missing) lines = AreStuckLines asked input missing lines

-- ---- what is found of a node

-- this node was found to be a join at this risk, with its lines, which are notes
pub record IsRefusal (asked : Asked) (n : ℕ) (found : Unsafe) : Type 0 where
  pub same : found.node ≡ n
  pub at_risk : IsAtRisk asked found.risk
  pub told : AreRiskLines asked found.risk found.lines
  pub notes : HasUnsafeLines found

-- the join is safe, with its certificates; or it is at a risk
abbrev pub IsJoinJudged : Asked → ℕ → Verdict → Type 0
IsJoinJudged asked n Free = ⊥
IsJoinJudged asked n (Certified certs) = AreCertified asked (length asked.spec.inputs) certs
IsJoinJudged asked n (Refused found) = IsRefusal asked n found

-- the node is no join; or it is one that is judged so
abbrev pub IsNodeJudged : List PlanNode → ℕ → Verdict → Type 0
IsNodeJudged nodes n Free = is_join (node_at nodes n) ≡ false
IsNodeJudged nodes n (Certified certs) = (is_join (node_at nodes n) ≡ true) × IsJoinJudged (asked_of nodes n) n (Certified certs)
IsNodeJudged nodes n (Refused found) = (is_join (node_at nodes n) ≡ true) × IsJoinJudged (asked_of nodes n) n (Refused found)
