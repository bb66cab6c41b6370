use Rattle.pj_recheck.specs.Recheck.{AreRoutes}
use Rattle.pj_recheck.proofs.compiling.routes_of.Given as goal

abbrev pub invariant-loop-input : goal.invariant-loop-input
invariant-loop-input l = AreRoutes l.join l.row_states l.input l.routes.items
