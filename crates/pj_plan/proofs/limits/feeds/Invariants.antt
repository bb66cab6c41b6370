use Rattle.std.proofs.Common.{◌≡◌, drop, flat_map}
use Rattle.pj_plan.specs.Nodes.{inputs_of}
use Rattle.pj_value.specs.Lists.{has}
use Rattle.pj_plan.proofs.limits.feeds.Given as goal

abbrev pub invariant-loop-node : goal.invariant-loop-node
invariant-loop-node l = has (flat_map (λ node. inputs_of node.node) l.nodes) l.number ≡ has (flat_map (λ node. inputs_of node.node) (drop l.node-index l.nodes)) l.number
