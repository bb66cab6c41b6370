use Rattle.std.proofs.Common.{◌≡◌}
use Rattle.pj_test_threads.proofs.hubs.await_ends.Given as goal

abbrev pub invariant-loop : goal.invariant-loop
invariant-loop g l =
    (goal.iterator-loop g).can_next l.iterator' × (goal.iterator-loop g).is_finite l.iterator'
    × (g.H.Hub.seat_name l.seat ≡ g.H.Hub.seat_name l.fn.seat) × (g.H.Hub.number l.seat ≡ g.H.Hub.number l.fn.seat)
