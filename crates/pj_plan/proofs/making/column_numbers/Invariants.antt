use Rattle.std.proofs.Common.{◌≡◌, ◌++◌, drop, map}
use Rattle.pj_plan.specs.Made.{column_number}
use Rattle.pj_plan.proofs.making.column_numbers.Given as goal

abbrev pub invariant-loop-name : goal.invariant-loop-name
invariant-loop-name l = l.numbers ++ map (column_number l.columns) (drop l.name-index l.names) ≡ map (column_number l.columns) l.names
