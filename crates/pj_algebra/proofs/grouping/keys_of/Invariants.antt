use Rattle.std.proofs.Common.{[], drop}
use Rattle.pj_events.specs.Operators.{keys_from}
use Rattle.pj_algebra.proofs.DistinctKeys.{LeadTo}
use Rattle.pj_algebra.proofs.grouping.keys_of.Given as goal

abbrev pub invariant-loop-row : goal.invariant-loop-row
invariant-loop-row l = LeadTo l.spec (drop l.row-index l.rows) l.keys (keys_from [] l.spec l.rows)
