use Rattle.std.proofs.Common.{◌≡◌}
use Rattle.pj_pattern.specs.Elements.{rows_of}
use Rattle.pj_events.specs.Outcomes.{elements_of}
use Rattle.pj_feed.specs.Feeds.{IsSameFeed}
use Rattle.pj_laws.specs.Seats.{made_by}
use Rattle.pj_workers.specs.Rounds.{FollowsFeeding, IsRound, Whole}
use Rattle.pj_workers.specs.Feeds.{IsFeeding, with_rows}
use Rattle.pj_workers.proofs.feeding.feed.Given as goal

abbrev pub invariant-loop : goal.invariant-loop
invariant-loop g l =
    let h = g.H.Hub in
    let n = h.number l.fn.seat in
    (h.seat_name l.seat ≡ h.seat_name l.fn.seat)
    × (h.number l.seat ≡ n)
    × Whole (IsRound FollowsFeeding n) (made_by n (h.seen l.fn.seat)) (made_by n (h.seen l.seat))
    × IsFeeding (h.plan l.fn.hub) n (made_by n (h.seen l.seat)) l.from
    × IsSameFeed l.fn.from l.from
    × (l.kept ≡ with_rows l.fn.kept (rows_of (elements_of n (made_by n (h.seen l.seat)))))
