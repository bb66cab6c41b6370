use Rattle.pj_events.specs.Join.{In}
use Rattle.pj_recheck.specs.declared.routes.RecheckRoute.{RecheckRoute}
use Rattle.pj_recheck.specs.Recheck.{HaveRoutes, RoutesFit}
use Rattle.pj_recheck.specs.Watching.{asker}
use Rattle.pj_recheck.proofs.compiling.Path.add_routes.Given as goal

abbrev pub invariant-loop-entry : goal.invariant-loop-entry
invariant-loop-entry l = HaveRoutes (asker l.self) l.entry l.input l.routes × (RoutesFit l.self.row_states l.fn.routes → RoutesFit l.self.row_states l.routes) × ((route : RecheckRoute) → In route l.fn.routes → In route l.routes)
