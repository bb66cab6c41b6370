use Rattle.std.proofs.Common.{ap, subst, sym}
use Rattle.pj_recheck.specs.declared.routes.RecheckRoute.{RecheckRoute}
use Rattle.pj_events.specs.Join.{CertEntry, entry_of}
use Rattle.pj_recheck.specs.Recheck.{IsRecheckRoute, RouteFits}
use Rattle.pj_recheck.specs.Watching.{PathView, asker}
use Rattle.pj_recheck.proofs.Compiled.{all_more, entry_here, entry_is, kept_more, routes_next, routes_past}
use Rattle.pj_recheck.proofs.compiling.Path.add_route.Goals as goal

pub returns-then-step-input-clause-routes : goal.returns-then-step-input-clause-routes
returns-then-step-input-clause-routes c =
    routes_past (asker c.args.self.now) c.args.entry c.args.input (entry_of c.self.inside.schemes.now c.at-step.result.now) c.args.routes.now (entry_here c.args.self.now.cert c.self.inside.schemes.now c.self.inside.cert.now c.args.entry c.at-step.result.now (ap (λ (p : PathView). p.cert) (sym c.self.view_is)) c.at-step.ensures) c.if-step-input.true

pub returns-clause-routes : goal.returns-clause-routes
returns-clause-routes c =
    routes_next (asker c.args.self.now) c.args.entry c.args.input (entry_of c.self.inside.schemes.now c.at-step.result.now) c.args.routes.now c.push.new.self c.in_ok-route.field-0 (entry_here c.args.self.now.cert c.self.inside.schemes.now c.self.inside.cert.now c.args.entry c.at-step.result.now (ap (λ (p : PathView). p.cert) (sym c.self.view_is)) c.at-step.ensures)
    c.in_ok-push.ensures.ok
    (subst (λ (e : CertEntry). IsRecheckRoute (asker c.args.self.now) c.args.entry e c.in_ok-route.field-0) (entry_is c.self.inside.schemes.now c.at-step.result.now c.args.input c.in_ok-scheme.scheme c.if-step-input.false c.in_ok-scheme.ensures) c.in_ok-route.ensures.route)

pub returns-clause-fit : goal.returns-clause-fit
returns-clause-fit c = λ all. all_more (λ (r : RecheckRoute). RouteFits c.args.self.now.row_states r) c.args.routes.now c.push.new.self c.in_ok-route.field-0 c.in_ok-push.ensures.ok all c.in_ok-route.ensures.fits

pub returns-clause-keeps : goal.returns-clause-keeps
returns-clause-keeps c = kept_more c.args.routes.now c.push.new.self c.in_ok-route.field-0 c.in_ok-push.ensures.ok
