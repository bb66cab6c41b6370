use Rattle.pj_recheck.specs.Recheck.{AreStops, StopsFit, entry_with}
use Rattle.pj_recheck.specs.Watching.{asker}
use Rattle.pj_recheck.proofs.compiling.Path.stops.Given as goal

abbrev pub invariant-loop-at : goal.invariant-loop-at
invariant-loop-at l = AreStops (asker l.self) l.entry (entry_with l.input l.scheme) l.stops × StopsFit l.self.row_states l.stops
