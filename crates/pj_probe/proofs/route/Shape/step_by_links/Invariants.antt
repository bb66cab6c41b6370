use Rattle.pj_probe.specs.Routes.{AreBegun, columns_of}
use Rattle.pj_probe.proofs.route.Shape.step_by_links.Given as goal

abbrev pub invariant-loop-input : goal.invariant-loop-input
invariant-loop-input l = AreBegun l.self.classes.now (columns_of l.self.row_states.now) l.self.own l.steps
