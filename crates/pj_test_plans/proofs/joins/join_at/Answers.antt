use Rattle.std.proofs.Common.{Bool, List, Some, ap, ◌∙◌}
use Rattle.pj_plan.specs.Canonical.{node_at}
use Rattle.pj_plan.specs.Nodes.{inputs_of}
use Rattle.pj_scheme.specs.Derived.{inputs_schemes}
use Rattle.pj_test_plans.proofs.Askable.{askable_at}
use Rattle.pj_test_plans.proofs.joins.join_at.Goals as goal

pub returns : goal.returns
returns c =
    askable_at c.args.plan.now c.args.node c.in_ok-spec.spec c.in_ok-schemes.schemes c.nodes-count.ensures.sound c.nodes-count.ensures.made
    c.schemes_fit.ensures.inputs c.schemes_fit.ensures.few c.requires.there (ap Some c.in_ok-spec.ensures ∙ c.requires.spec)
    (c.in_ok-schemes.ensures ∙ ap (λ (all : List (List (List Bool))). inputs_schemes all (inputs_of (node_at c.args.plan.now.nodes c.args.node))) c.in_ok-all.ensures.schemes)
