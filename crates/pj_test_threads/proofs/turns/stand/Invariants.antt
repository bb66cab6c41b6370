use Rattle.std.proofs.Common.{◌≤◌}
use Rattle.pj_test_threads.proofs.turns.stand.Given as goal

abbrev pub invariant-loop-seat : goal.invariant-loop-seat
invariant-loop-seat l = l.next ≤ l.turns
