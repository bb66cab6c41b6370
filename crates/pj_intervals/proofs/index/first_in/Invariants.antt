use Rattle.std.proofs.Common.{drop}
use Rattle.pj_intervals.proofs.Levels.{LooksOn}
use Rattle.pj_intervals.proofs.index.first_in.Given as goal

abbrev pub invariant-loop-level : goal.invariant-loop-level
invariant-loop-level l = LooksOn l.levels (drop l.level-index l.levels) l.value
