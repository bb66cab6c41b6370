use Rattle.pj_probe.specs.Routes.{AreBegun, columns_of}
use Rattle.pj_probe.proofs.route.Shape.route.Given as goal

abbrev pub invariant-loop-round : goal.invariant-loop-round
invariant-loop-round l = AreBegun l.self.classes.now (columns_of l.self.row_states.now) l.self.own l.steps
