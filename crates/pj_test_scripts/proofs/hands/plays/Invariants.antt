use Rattle.std.specs.Prelude.{false}
use Rattle.pj_test_scripts.specs.Replays.{IsRunning}
use Rattle.pj_test_scripts.proofs.hands.plays.Given as goal

abbrev pub invariant-loop-step : goal.invariant-loop-step
invariant-loop-step l = IsRunning false l.hand
