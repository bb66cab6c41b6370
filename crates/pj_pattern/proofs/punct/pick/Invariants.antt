use Rattle.std.proofs.Common.{◌≡◌, take}
use Rattle.pj_pattern.specs.Columns.{picked_patterns}
use Rattle.pj_pattern.proofs.punct.pick.Given as goal

abbrev pub invariant-loop-column : goal.invariant-loop-column
invariant-loop-column l = l.chosen ≡ picked_patterns (take l.column-index l.columns) l.patterns
