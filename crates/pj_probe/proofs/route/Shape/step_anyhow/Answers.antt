use Rattle.std.proofs.Common.{List, ◌∙◌, ap, sym}
use Rattle.pj_probe.proofs.Routed.{begun_plain}
use Rattle.pj_probe.specs.Routes.{is_reached}
use Rattle.pj_probe.specs.declared.route.ProbeStep.{ProbeStep}
use Rattle.pj_probe.proofs.route.Shape.step_anyhow.Goals as goal

pub returns-clause-begun : goal.returns-clause-begun
returns-clause-begun c =
    begun_plain c.args.self.now.classes.now c.args.self.now.row_states.now c.args.self.now.own c.args.steps.now c.push.new.self c.args.input c.requires.begun c.requires.there
    (sym c.if-is_reached.false ∙ c.is_reached.ensures ∙ ap (λ (steps : List ProbeStep). is_reached c.args.self.now.own steps c.args.input) c.as_slice.ensures) c.in_ok-push.ensures.ok
