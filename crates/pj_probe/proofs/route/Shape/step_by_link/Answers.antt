use Rattle.std.proofs.Common.{[], List, ◌∙◌, ap, get_or, sym, subst}
use Rattle.pj_probe.proofs.Routed.{begun_linked}
use Rattle.pj_probe.specs.Routes.{LeadsTo, columns_of, is_reached}
use Rattle.pj_probe.specs.declared.route.ProbeStep.{ProbeStep}
use Rattle.pj_probe.proofs.route.Shape.step_by_link.Goals as goal

pub returns-in_ok-push-in-Some : goal.returns-in_ok-push-in-Some
returns-in_ok-push-in-Some c =
    begun_linked c.args.self.now.classes.now c.args.self.now.row_states.now c.args.self.now.own c.args.steps.now c.push.new.self c.args.input c.in-Some.link c.requires.begun c.requires.there
    (sym c.if-is_reached.false ∙ c.is_reached.ensures ∙ ap (λ (steps : List ProbeStep). is_reached c.args.self.now.own steps c.args.input) c.as_slice.ensures) c.in-Some.ensures.class
    (subst (λ (steps : List ProbeStep). LeadsTo (get_or (columns_of c.args.self.now.row_states.now) c.args.input []) c.args.self.now.own steps c.in-Some.link) c.as_slice-2.ensures c.in-Some.ensures.leads) c.in_ok-push-in-Some.ensures.ok
