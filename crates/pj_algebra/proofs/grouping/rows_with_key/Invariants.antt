use Rattle.std.proofs.Common.{◌≡◌, take}
use Rattle.pj_events.specs.Tables.{rows_with_key}
use Rattle.pj_algebra.proofs.grouping.rows_with_key.Given as goal

abbrev pub invariant-loop-row : goal.invariant-loop-row
invariant-loop-row l = l.own ≡ rows_with_key l.spec (take l.row-index l.rows) l.key
