use Rattle.pj_probe.specs.Routes.{AreOwnLinks, columns_of}
use Rattle.pj_probe.proofs.route.Shape.own_links.Given as goal

abbrev pub invariant-loop-class : goal.invariant-loop-class
invariant-loop-class l = AreOwnLinks l.self.classes.now (columns_of l.self.row_states.now) l.self.own l.links
