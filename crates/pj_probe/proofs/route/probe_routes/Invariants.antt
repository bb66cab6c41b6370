use Rattle.pj_probe.specs.Routes.{AreRoutesTo, columns_of}
use Rattle.pj_probe.proofs.route.probe_routes.Given as goal

abbrev pub invariant-loop-own : goal.invariant-loop-own
invariant-loop-own l = AreRoutesTo l.classes (columns_of l.row_states) l.own l.routes
