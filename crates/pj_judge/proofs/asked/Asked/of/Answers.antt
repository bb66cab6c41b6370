use Rattle.std.proofs.Common.{Bool, List, ap, ◌∙◌}
use Rattle.pj_plan.specs.Canonical.{node_at}
use Rattle.pj_plan.specs.Nodes.{inputs_of}
use Rattle.pj_scheme.specs.Derived.{inputs_schemes}
use Rattle.pj_judge.proofs.Joins.{AreParts, all_there, parts_askable, parts_asked}
use Rattle.pj_judge.proofs.asked.Asked.of.Goals as goal

pub join_schemes-requires-clause-all : goal.join_schemes-requires-clause-all
join_schemes-requires-clause-all c = all_there c.args.plan.now.nodes c.args.all.now c.nodes-count.ensures.sound c.schemes_fit.ensures.nodes c.requires.all

pub invariant_of-result : goal.invariant_of-result
invariant_of-result c =
    parts_askable c.args.plan.now c.args.node _
    (record {
      spec = c.requires.spec;
      schemes = c.in_ok-schemes.ensures ∙ ap (λ (all : List (List (List Bool))). inputs_schemes all (inputs_of (node_at c.args.plan.now.nodes c.args.node))) c.requires.all;
      name = c.name.ensures;
      names = c.in_ok-names.ensures;
    })
    c.nodes-count.ensures.sound c.nodes-count.ensures.made c.schemes_fit.ensures.inputs c.schemes_fit.ensures.few c.requires.there
