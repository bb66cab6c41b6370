use Rattle.pj_intervals.specs.Intervals.{IsAsGood}
use Rattle.pj_intervals.proofs.merging.settle.Given as goal

abbrev pub invariant-loop : goal.invariant-loop
invariant-loop l = IsAsGood l.fn.levels.items l.levels.items
