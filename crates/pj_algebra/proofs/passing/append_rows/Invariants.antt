use Rattle.std.proofs.Common.{◌≡◌, ◌++◌, take}
use Rattle.pj_algebra.proofs.passing.append_rows.Given as goal

abbrev pub invariant-loop-row : goal.invariant-loop-row
invariant-loop-row l = l.out ≡ l.fn.out ++ take l.row-index l.rows
