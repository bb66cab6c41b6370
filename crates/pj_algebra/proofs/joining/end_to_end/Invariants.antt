use Rattle.std.proofs.Common.{◌≡◌, take}
use Rattle.pj_shape.specs.Joining.{joined_row, parts_on}
use Rattle.pj_algebra.proofs.joining.end_to_end.Given as goal

abbrev pub invariant-loop-row : goal.invariant-loop-row
invariant-loop-row l = l.parts ≡ joined_row (parts_on 0 (take l.row-index l.rows))
