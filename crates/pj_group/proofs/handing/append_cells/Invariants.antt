use Rattle.std.proofs.Common.{◌≡◌, ◌++◌, take}
use Rattle.pj_group.proofs.handing.append_cells.Given as goal

abbrev pub invariant-loop-column : goal.invariant-loop-column
invariant-loop-column l = l.values ≡ l.fn.values ++ take l.column l.row
