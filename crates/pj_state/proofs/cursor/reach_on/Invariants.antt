use Rattle.std.proofs.Common.{◌≤◌}
use Rattle.pj_state.specs.Reaching.{AreBefore}
use Rattle.pj_state.proofs.cursor.reach_on.Given as goal

abbrev pub invariant-loop-block : goal.invariant-loop-block
invariant-loop-block l = AreBefore l.blocks l.block l.before × (l.before ≤ l.at)
