use Rattle.std.proofs.Common.{◌≡◌, take}
use Rattle.pj_value.proofs.rows.Row.same.Given as goal

abbrev pub invariant-loop-column : goal.invariant-loop-column
invariant-loop-column l = take l.column l.self ≡ take l.column l.other
