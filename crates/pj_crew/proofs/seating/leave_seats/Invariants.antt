use Rattle.std.proofs.Common.{◌≡◌, ◌≤◌, length, reverse, vec_capacity, ◌+◌}
use Rattle.pj_crew.specs.Seats.{seat_state}
use Rattle.pj_crew.proofs.Places.{IsLeaving}
use Rattle.pj_crew.proofs.seating.leave_seats.Given as goal

abbrev pub invariant-loop-task : goal.invariant-loop-task
invariant-loop-task g l =
    IsLeaving seat_state (reverse l.initial.tasks.items) l.seats.items l.duties.items l.tasks.items
    × (length l.seats.items + length l.tasks.items ≤ vec_capacity l.seats) × (length l.duties.items + length l.tasks.items ≤ vec_capacity l.duties)
    × (vec_capacity l.seats ≡ vec_capacity l.initial.seats)

abbrev pub decreases-loop-task : goal.decreases-loop-task
decreases-loop-task g l = length l.tasks.items
