use Rattle.std.proofs.Common.{◌-◌}
use Rattle.pj_puncts.proofs.Chains.{IsHalved}
use Rattle.pj_puncts.proofs.index.first_in_chain.Given as goal

abbrev pub invariant-loop-low : goal.invariant-loop-low
invariant-loop-low g l = IsHalved l.kept (g.C.Cells.cells l.cells) l.places l.low l.high l.found

abbrev pub decreases-loop-low : goal.decreases-loop-low
decreases-loop-low g l = l.high - l.low
