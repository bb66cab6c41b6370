use Rattle.std.proofs.Common.{◌<◌}
use Rattle.std.specs.List.{All}
use Rattle.pj_join.proofs.starting.append_columns.Given as goal

abbrev pub invariant-loop-at : goal.invariant-loop-at
invariant-loop-at l = All (λ column. column < l.arity) l.fn.columns → All (λ column. column < l.arity) l.columns
