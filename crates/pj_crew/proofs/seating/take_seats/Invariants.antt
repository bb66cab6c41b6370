use Rattle.std.proofs.Common.{◌≡◌, ◌≤◌, length, reverse, vec_capacity, ◌+◌}
use Rattle.pj_crew.specs.Seats.{seat_state, seated}
use Rattle.pj_crew.proofs.Places.{IsSeating}
use Rattle.pj_crew.proofs.seating.take_seats.Given as goal

abbrev pub invariant-loop-duty : goal.invariant-loop-duty
invariant-loop-duty g l =
    IsSeating seat_state (reverse (seated seat_state l.initial.seats.items l.initial.duties.items)) l.seats.items l.duties.items l.tasks.items
    × (length l.tasks.items + length l.duties.items ≤ vec_capacity l.tasks)
    × (vec_capacity l.seats ≡ vec_capacity l.initial.seats) × (vec_capacity l.duties ≡ vec_capacity l.initial.duties)

abbrev pub decreases-loop-duty : goal.decreases-loop-duty
decreases-loop-duty g l = length l.duties.items
