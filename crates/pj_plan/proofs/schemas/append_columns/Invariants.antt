use Rattle.std.proofs.Common.{◌≡◌, ◌++◌, take}
use Rattle.pj_plan.proofs.schemas.append_columns.Given as goal

abbrev pub invariant-loop-column : goal.invariant-loop-column
invariant-loop-column l = l.out ≡ l.fn.out ++ take l.column-index l.columns
