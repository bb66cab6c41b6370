use Rattle.std.proofs.Common.{◌≡◌}
use Rattle.pj_laws.specs.Seats.{made_by}
use Rattle.pj_workers.specs.Rounds.{FollowsProbing, IsRound, Whole}
use Rattle.pj_workers.proofs.probing.probe.Given as goal

abbrev pub invariant-loop : goal.invariant-loop
invariant-loop g l =
    let h = g.H.Hub in
    let n = h.number l.fn.seat in
    (h.seat_name l.seat ≡ h.seat_name l.fn.seat)
    × (h.number l.seat ≡ n)
    × Whole (IsRound FollowsProbing n) (made_by n (h.seen l.fn.seat)) (made_by n (h.seen l.seat))
