use Rattle.std.specs.Prelude.{true}
use Rattle.pj_test_scripts.specs.Replays.{IsRunning}
use Rattle.pj_test_scripts.proofs.hands.bids_come.Given as goal

abbrev pub invariant-loop-price : goal.invariant-loop-price
invariant-loop-price l = IsRunning true l.hand
