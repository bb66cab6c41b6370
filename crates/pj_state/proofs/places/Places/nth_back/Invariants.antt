use Rattle.pj_state.proofs.Blocks.{IsBefore}
use Rattle.pj_state.proofs.places.Places.nth_back.Given as goal

abbrev pub invariant-loop-behind : goal.invariant-loop-behind
invariant-loop-behind l = IsBefore l.self-inside.blocks.items l.at l.behind l.left

abbrev pub decreases-loop-behind : goal.decreases-loop-behind
decreases-loop-behind l = l.behind
