use Rattle.std.proofs.Common.{◌≡◌, drop}
use Rattle.pj_plan.specs.Made.{column_kind}
use Rattle.pj_plan.proofs.names.column_kind.Given as goal

abbrev pub invariant-loop-column : goal.invariant-loop-column
invariant-loop-column l = column_kind l.columns l.name ≡ column_kind (drop l.column-index l.columns) l.name
