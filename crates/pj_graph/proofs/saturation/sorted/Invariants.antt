use Rattle.std.proofs.Common.{◌≡◌}
use Rattle.pj_graph.specs.Saturation.{sorted_below}
use Rattle.pj_graph.proofs.saturation.sorted.Given as goal

abbrev pub invariant-loop-k : goal.invariant-loop-k
invariant-loop-k l = l.numbers ≡ sorted_below l.known l.k
