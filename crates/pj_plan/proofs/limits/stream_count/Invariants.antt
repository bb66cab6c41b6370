use Rattle.std.proofs.Common.{◌≡◌, ◌+◌, ◌≤◌, drop}
use Rattle.pj_plan.specs.Faults.{stream_count}
use Rattle.pj_plan.proofs.limits.stream_count.Given as goal

abbrev pub invariant-loop-node : goal.invariant-loop-node
invariant-loop-node l = (stream_count l.nodes ≡ l.count + stream_count (drop l.node-index l.nodes)) × (l.count ≤ l.node-index)
