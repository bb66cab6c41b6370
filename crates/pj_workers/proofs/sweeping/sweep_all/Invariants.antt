use Rattle.std.proofs.Common.{◌++◌, ◌≡◌, ◌≤◌, length, take}
use Rattle.pj_laws.specs.Seats.{made_by}
use Rattle.pj_workers.specs.Rounds.{FollowsSweeping, IsRound, Whole, swept_each}
use Rattle.pj_workers.proofs.sweeping.sweep_all.Given as goal

abbrev pub invariant-loop : goal.invariant-loop
invariant-loop g l =
    let h = g.H.Hub in
    let n = h.number l.fn.seat in
    (h.seat_name l.seat ≡ h.seat_name l.fn.seat)
    × (h.number l.seat ≡ n)
    × Whole (IsRound (FollowsSweeping l.fn.places) n) (made_by n (h.seen l.fn.seat)) (made_by n (h.seen l.seat))

abbrev pub invariant-loop-join : goal.invariant-loop-join
invariant-loop-join g l =
    let h = g.H.Hub in
    let n = h.number l.fn.seat in
    (h.seat_name l.seat ≡ h.seat_name l.fn.seat)
    × (h.number l.seat ≡ n)
    × (l.join-index ≤ length l.fn.places)
    × (made_by n (h.seen l.seat) ≡ made_by n (h.seen l.initial.seat) ++ swept_each n (take l.join-index l.fn.places))
