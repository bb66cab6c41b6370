use Rattle.std.proofs.Common.{◌≡◌, take, filter}
use Rattle.pj_pattern.specs.Columns.{matches_row}
use Rattle.pj_algebra.proofs.passing.selected.Given as goal

abbrev pub invariant-loop-row : goal.invariant-loop-row
invariant-loop-row l = l.kept ≡ filter (matches_row l.test) (take l.row-index l.rows)
