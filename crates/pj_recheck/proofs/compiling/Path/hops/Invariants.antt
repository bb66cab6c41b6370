use Rattle.pj_recheck.specs.Recheck.{HopsFit}
use Rattle.pj_recheck.specs.Watching.{asker}
use Rattle.pj_recheck.proofs.Compiled.{HopsFrom}
use Rattle.pj_recheck.proofs.compiling.Path.hops.Given as goal

abbrev pub invariant-loop-at : goal.invariant-loop-at
invariant-loop-at l = HopsFrom (asker l.self) l.fn.at l.at l.hops × HopsFit l.self.row_states l.hops

abbrev pub decreases-loop-at : goal.decreases-loop-at
decreases-loop-at l = l.at
