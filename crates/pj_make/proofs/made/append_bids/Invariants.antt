use Rattle.std.proofs.Common.{◌≡◌, ◌<◌, ◌+◌, ◌++◌}
use Rattle.pj_make.specs.Draws.{state_after}
use Rattle.pj_make.specs.Inputs.{bids_up_to}
use Rattle.pj_make.proofs.made.append_bids.Given as goal

abbrev pub invariant-loop-before : goal.invariant-loop-before
invariant-loop-before l = record {
  text : l.text ≡ l.fn.text ++ bids_up_to l.seed l.before;
  state : l.state ≡ state_after l.seed (l.before + l.before);
  small : l.state < 2147483648;
}
