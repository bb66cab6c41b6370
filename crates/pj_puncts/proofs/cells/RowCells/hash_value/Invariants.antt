use Rattle.std.proofs.Common.{◌≡◌, drop}
use Rattle.pj_puncts.specs.Hashes.{hash_from, row_cells}
use Rattle.pj_puncts.proofs.cells.RowCells.hash_value.Given as goal

abbrev pub invariant-loop-column : goal.invariant-loop-column
invariant-loop-column l = hash_from 0 l.marks (row_cells l.self) ≡ hash_from l.hash_value (drop l.column l.marks) (drop l.column (row_cells l.self))
