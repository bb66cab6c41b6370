use Rattle.std.proofs.Common.{Bool, List, ap₂, sym, ◌∙◌}
use Rattle.pj_plan.specs.declared.node.Node.{Node as Operation}
use Rattle.pj_plan.specs.Nodes.{inputs_of}
use Rattle.pj_scheme.specs.Derived.{inputs_schemes}
use Rattle.pj_safe_core.proofs.OneByOne.{at_join}
use Rattle.pj_safe_core.proofs.checks.is_verified_at.Goals as goal

pub returns : goal.returns
returns c =
    at_join c.args.plan.now.nodes c.args.join c.in-Join.inputs c.in-Join.spec c.in_ok-schemes-in-Join.schemes c.args.certs.now c.are_certificates.result (sym c.node.ensures ∙ c.in-Join.is)
    (c.in_ok-schemes-in-Join.ensures ∙ ap₂ (λ (all : List (List (List Bool))) (node : Operation). inputs_schemes all (inputs_of node)) c.requires.all (sym c.node.ensures ∙ c.in-Join.is))
    c.are_certificates.ensures
