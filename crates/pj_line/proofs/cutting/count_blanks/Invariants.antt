use Rattle.std.proofs.Common.{◌≡◌, drop}
use Rattle.pj_line.specs.Cells.{cells_of}
use Rattle.pj_line.proofs.cutting.count_blanks.Given as goal

abbrev pub invariant-loop-at : goal.invariant-loop-at
invariant-loop-at l = cells_of (drop l.at l.line) ≡ cells_of l.line
