use Rattle.std.proofs.Common.{◌≡◌, take, map}
use Rattle.pj_events.specs.Operators.{picked_cells}
use Rattle.pj_algebra.proofs.passing.projected.Given as goal

abbrev pub invariant-loop-row : goal.invariant-loop-row
invariant-loop-row l = l.made ≡ map (picked_cells l.columns) (take l.row-index l.rows)
