use Rattle.std.proofs.Common.{◌≡◌}
use Rattle.pj_laws.specs.Seats.{MayFeedAll, made_by}
use Rattle.pj_test_threads.proofs.hubs.feed_all.Given as goal

abbrev pub invariant-loop-element : goal.invariant-loop-element
invariant-loop-element g l =
    let n = g.H.Hub.number l.fn.seat in
    (g.H.Hub.seat_name l.seat ≡ g.H.Hub.seat_name l.fn.seat)
    × (g.H.Hub.number l.seat ≡ n)
    × MayFeedAll (g.H.Hub.plan l.fn.hub).nodes l.fn.stream (made_by n (g.H.Hub.seen l.seat)) l.element-iterator.rest.items
