use Rattle.std.proofs.Common.{◌≡◌, take, map}
use Rattle.pj_events.specs.Operators.{aggregate}
use Rattle.pj_algebra.proofs.grouping.aggregates.Given as goal

abbrev pub invariant-loop-agg : goal.invariant-loop-agg
invariant-loop-agg l = l.values ≡ map (aggregate l.rows) (take l.agg-index l.aggs)
