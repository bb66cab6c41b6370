use Rattle.std.proofs.Common.{◌≡◌, drop}
use Rattle.pj_recheck.specs.Watching.{first_column}
use Rattle.pj_recheck.proofs.compiling.first_column.Given as goal

abbrev pub invariant-loop-at : goal.invariant-loop-at
invariant-loop-at l = first_column l.class l.input ≡ first_column (drop l.at-index l.class) l.input
