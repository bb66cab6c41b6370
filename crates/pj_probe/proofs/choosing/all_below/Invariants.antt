use Rattle.std.proofs.Common.{◌≡◌, take}
use Rattle.pj_state.specs.States.{pairs, rows_below}
use Rattle.pj_probe.proofs.choosing.all_below.Given as goal

abbrev pub invariant-loop-at : goal.invariant-loop-at
invariant-loop-at l = (l.rows ≡ l.state.rows) × (l.found ≡ pairs (rows_below l.below (take l.at l.state.rows)))
