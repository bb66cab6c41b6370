use Rattle.std.proofs.Common.{◌-◌}
use Rattle.pj_state.proofs.Between.{IsProbed}
use Rattle.pj_state.proofs.halving.place_in_many.Given as goal

abbrev pub invariant-loop-low : goal.invariant-loop-low
invariant-loop-low g l = IsProbed g.T.Ticketed.number l.ticket l.items l.low l.high l.middle

abbrev pub decreases-loop-low : goal.decreases-loop-low
decreases-loop-low g l = l.high - l.low
