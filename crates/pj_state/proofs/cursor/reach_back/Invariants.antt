use Rattle.std.proofs.Common.{◌<◌, ◌-◌}
use Rattle.pj_state.specs.Reaching.{AreBefore}
use Rattle.pj_state.proofs.cursor.reach_back.Given as goal

abbrev pub invariant-loop-back : goal.invariant-loop-back
invariant-loop-back l = AreBefore l.blocks (l.from.block - l.back) l.before × (l.at < l.before)
