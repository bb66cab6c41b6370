use Rattle.std.proofs.Common.{◌≡◌, ◌++◌, drop, map}
use Rattle.pj_plan.specs.Canonical.{column_name}
use Rattle.pj_statements.proofs.stating.column_names.Given as goal

abbrev pub invariant-loop-number : goal.invariant-loop-number
invariant-loop-number l = l.names ++ map (column_name l.columns) (drop l.number-index l.numbers) ≡ map (column_name l.columns) l.numbers
