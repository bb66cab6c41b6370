use Rattle.std.proofs.Common.{◌≡◌}
use Rattle.pj_turn.specs.Seats.{seat_name, seat_number}
use Rattle.pj_bench_turns.proofs.turning.look_often.Given as goal

abbrev pub invariant-loop : goal.invariant-loop
invariant-loop g l = (seat_name l.seat ≡ seat_name l.initial.seat) × (seat_number l.seat ≡ seat_number l.initial.seat)
