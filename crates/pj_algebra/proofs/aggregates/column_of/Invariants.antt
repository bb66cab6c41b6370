use Rattle.std.proofs.Common.{◌≡◌, take}
use Rattle.pj_events.specs.Operators.{column_of}
use Rattle.pj_algebra.proofs.aggregates.column_of.Given as goal

abbrev pub invariant-loop-row : goal.invariant-loop-row
invariant-loop-row l = l.values ≡ column_of l.column (take l.row-index l.rows)
