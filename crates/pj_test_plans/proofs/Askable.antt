-- The joins of a sound plan may be asked about.
use Rattle.std.proofs.Common.{ℕ, ◌<◌, ◌≡◌, length, Bool, List, Some, map, refl}
use Rattle.pj_shape.specs.declared.joins.JoinSpec.{JoinSpec}
use Rattle.pj_plan.specs.declared.node.Outline.{Outline}
use Rattle.pj_plan.specs.Canonical.{node_at, node_name}
use Rattle.pj_plan.specs.Kept.{IsMadeAgain}
use Rattle.pj_plan.specs.Nodes.{inputs_of, join_in}
use Rattle.pj_plan.specs.Sound.{IsSoundPlan}
use Rattle.pj_scheme.specs.Derived.{inputs_schemes, schemes_of}
use Rattle.pj_scheme.specs.Laws.{JoinsFit, SchemesAreFew}
use Rattle.pj_judge.proofs.Joins.{parts_askable}
use Rattle.pj_test_plans.specs.Joins.{IsAskable}

pub askable_at : (plan : Outline) (n : ℕ) (spec : JoinSpec) (schemes : List (List (List Bool))) → IsSoundPlan plan.nodes → IsMadeAgain plan → JoinsFit → SchemesAreFew
    → n < length plan.nodes → Some spec ≡ join_in (node_at plan.nodes n) → schemes ≡ inputs_schemes (schemes_of plan.nodes) (inputs_of (node_at plan.nodes n))
    → IsAskable spec schemes
askable_at plan n spec schemes sound made fit few lt is those =
    let asked = parts_askable plan n
    (record { spec = spec; schemes = schemes; name = node_name plan.nodes n; names = map (node_name plan.nodes) (inputs_of (node_at plan.nodes n)) })
    (record { spec = is; schemes = those; name = refl; names = refl }) sound made fit few lt in
    record { sound = asked.sound; fitting = asked.fitting; few = asked.few }
