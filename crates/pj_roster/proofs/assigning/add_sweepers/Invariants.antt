use Rattle.std.proofs.Common.{◌≤◌, ◌+◌, ◌++◌, length, vec_capacity}
use Rattle.pj_roster.specs.Assigned.{sweepers}
use Rattle.pj_roster.proofs.Handing.{IsHanding}
use Rattle.pj_roster.proofs.assigning.add_sweepers.Given as goal

abbrev pub invariant-loop-places : goal.invariant-loop-places
invariant-loop-places g l =
    IsHanding (l.initial.duties.items ++ sweepers 0 l.fn.shares.items) l.duties.items (sweepers l.index l.rest.rest.items)
    × (length l.duties.items + length l.rest.rest.items ≤ vec_capacity l.duties) × (l.index + length l.rest.rest.items ≤ 16)

abbrev pub decreases-loop-places : goal.decreases-loop-places
decreases-loop-places g l = l.rest.rest.len
