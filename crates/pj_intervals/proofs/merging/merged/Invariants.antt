use Rattle.std.proofs.Common.{◌≡◌, ◌≤◌, ◌+◌, ◌++◌, length}
use Rattle.std.specs.Vec.{vec_capacity}
use Rattle.pj_intervals.specs.Steps.{merged}
use Rattle.pj_intervals.proofs.merging.merged.Given as goal

abbrev pub invariant-loop-step : goal.invariant-loop-step
invariant-loop-step l = record {
  steps : l.merged.items ++ merged l.older.items l.newer.items ≡ merged l.fn.older l.fn.newer;
  fits : length l.merged.items + (length l.older.items + length l.newer.items) ≤ vec_capacity l.merged;
}

abbrev pub decreases-loop-step : goal.decreases-loop-step
decreases-loop-step l = length l.older.items + length l.newer.items
