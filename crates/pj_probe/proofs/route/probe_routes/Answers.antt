use Rattle.pj_probe.specs.Routes.{columns_of}
use Rattle.pj_probe.proofs.Routed.{routes_more}
use Rattle.pj_probe.proofs.route.probe_routes.Goals as goal

pub loop-own-preserved : goal.loop-own-preserved
loop-own-preserved c = routes_more c.args.classes.now (columns_of c.args.row_states.now) c.loop-own.own c.loop-own.routes c.push.new.self c.in_ok-route.field-0 c.loop-own.invariant c.in_ok-route.ensures c.in_ok-push.ensures.ok
