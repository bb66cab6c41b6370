use Rattle.std.proofs.Common.{sym, ◌∙◌}
use Rattle.pj_graph.proofs.Steps.{lists_length}
use Rattle.pj_cert.proofs.TestedSteps.{verified}
use Rattle.pj_cert.proofs.verified.verify.Goals as goal

pub returns : goal.returns
returns c =
    let h = verified c.args.spec.now c.args.schemes.now c.args.input c.args.cert.now (lists_length c.args.spec.now.inputs c.args.schemes.now c.requires.fitting) in
    (λ t. h.0 (sym c.steps_hold.ensures ∙ t), λ is. c.steps_hold.ensures ∙ h.1 is)
