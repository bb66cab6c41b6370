use Rattle.std.proofs.Common.{◌≡◌, take}
use Rattle.pj_events.specs.Operators.{picked_cells}
use Rattle.pj_algebra.proofs.passing.picked.Given as goal

abbrev pub invariant-loop-column : goal.invariant-loop-column
invariant-loop-column l = l.values ≡ picked_cells (take l.column-index l.columns) l.row
