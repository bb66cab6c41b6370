use Rattle.pj_probe.specs.Routes.{AreBegun, AreReached, columns_of}
use Rattle.pj_probe.proofs.route.Shape.step_to_rest.Given as goal

abbrev pub invariant-loop-input : goal.invariant-loop-input
invariant-loop-input l = AreBegun l.self.classes.now (columns_of l.self.row_states.now) l.self.own l.steps × AreReached l.input l.self.own l.steps
