use Rattle.std.proofs.Common.{◌≡◌, ◌+◌, drop}
use Rattle.pj_plan.specs.Made.{column_number}
use Rattle.pj_plan.proofs.names.column_number.Given as goal

abbrev pub invariant-loop-at : goal.invariant-loop-at
invariant-loop-at l = column_number l.columns l.name ≡ l.at + column_number (drop l.at l.columns) l.name
