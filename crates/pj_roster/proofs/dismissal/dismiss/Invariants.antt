use Rattle.std.proofs.Common.{◌≤◌, ◌+◌, length, vec_capacity}
use Rattle.pj_roster.specs.Dismissed.{feeds_in, rows_in}
use Rattle.pj_roster.proofs.Taking.{IsTaking}
use Rattle.pj_roster.proofs.dismissal.dismiss.Given as goal

abbrev pub invariant-loop-duty : goal.invariant-loop-duty
invariant-loop-duty g l =
    IsTaking l.fn.duties.items l.rest.rest.items l.feeds.items l.rows.items l.causes
    × (length l.feeds.items + length (feeds_in l.rest.rest.items) ≤ vec_capacity l.feeds) × (length l.rows.items + length (rows_in l.rest.rest.items) ≤ vec_capacity l.rows)

abbrev pub decreases-loop-duty : goal.decreases-loop-duty
decreases-loop-duty g l = l.rest.rest.len
