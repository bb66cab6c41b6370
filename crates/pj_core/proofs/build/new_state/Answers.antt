use Rattle.std.proofs.Common.{Bool, List, ap₂, sym, subst, ◌∙◌}
use Rattle.pj_plan.specs.declared.node.Node.{Node as Operation}
use Rattle.pj_plan.specs.Nodes.{inputs_of}
use Rattle.pj_scheme.specs.Derived.{inputs_schemes}
use Rattle.pj_shape.specs.Sound.{IsSoundSpec}
use Rattle.pj_core.proofs.Makes.{certified_join, sound_join}
use Rattle.pj_core.proofs.build.new_state.Goals as goal

pub new-requires-in-Join-clause-sound : goal.new-requires-in-Join-clause-sound
new-requires-in-Join-clause-sound c =
    subst IsSoundSpec (sym c.in_ok-copy-in-Join.ensures)
    (sound_join c.args.plan.now.nodes c.args.number c.in-Join.inputs c.in-Join.spec c.nodes-nodes.ensures.sound c.requires.there (sym c.node.ensures ∙ c.in-Join.is))

pub new-requires-in-Join-clause-certified : goal.new-requires-in-Join-clause-certified
new-requires-in-Join-clause-certified c =
    certified_join c.args.plan.now.nodes c.args.limit c.args.number c.args.certs c.in-Join.inputs c.in-Join.spec c.in_ok-copy-in-Join.field-0 c.in_ok-schemes-in-Join.schemes (sym c.node.ensures ∙ c.in-Join.is)
    c.requires.certified c.in_ok-copy-in-Join.ensures
    (c.in_ok-schemes-in-Join.ensures ∙ ap₂ (λ (all : List (List (List Bool))) (node : Operation). inputs_schemes all (inputs_of node)) c.requires.all (sym c.node.ensures ∙ c.in-Join.is))
