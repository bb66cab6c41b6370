use Rattle.std.proofs.Common.{◌≡◌, ◌≤◌, ◌+◌, ◌++◌, length, vec_capacity}
use Rattle.pj_roster.specs.Assigned.{feeders}
use Rattle.pj_roster.proofs.Handing.{IsHanding}
use Rattle.pj_roster.proofs.assigning.add_feeders.Given as goal

abbrev pub invariant-loop-feed : goal.invariant-loop-feed
invariant-loop-feed g l =
    IsHanding (l.initial.duties.items ++ feeders 0 l.fn.keep l.fn.feeds.items) l.duties.items (feeders l.stream l.fn.keep l.rest.rest.items)
    × (length l.duties.items + length l.rest.rest.items ≤ vec_capacity l.duties) × (l.stream + length l.rest.rest.items ≤ 16)
    × (vec_capacity l.duties ≡ vec_capacity l.initial.duties)

abbrev pub decreases-loop-feed : goal.decreases-loop-feed
decreases-loop-feed g l = l.rest.rest.len
