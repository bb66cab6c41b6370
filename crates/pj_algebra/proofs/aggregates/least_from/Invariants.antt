use Rattle.std.proofs.Common.{◌≡◌, drop}
use Rattle.pj_events.specs.Operators.{least_from}
use Rattle.pj_algebra.proofs.aggregates.least_from.Given as goal

abbrev pub invariant-loop-value : goal.invariant-loop-value
invariant-loop-value l = least_from l.least (drop l.value-index l.others) ≡ least_from l.first l.others
