use Rattle.std.proofs.Common.{◌≡◌, take, map}
use Rattle.pj_events.specs.Operators.{group_row}
use Rattle.pj_algebra.proofs.grouping.rows_of_keys.Given as goal

abbrev pub invariant-loop-key : goal.invariant-loop-key
invariant-loop-key l = l.made ≡ map (group_row l.spec l.rows) (take l.key-index l.keys)
