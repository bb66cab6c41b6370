use Rattle.std.proofs.Common.{◌≡◌, drop}
use Rattle.pj_events.specs.Operators.{greatest_from}
use Rattle.pj_algebra.proofs.aggregates.greatest_from.Given as goal

abbrev pub invariant-loop-value : goal.invariant-loop-value
invariant-loop-value l = greatest_from l.greatest (drop l.value-index l.others) ≡ greatest_from l.first l.others
