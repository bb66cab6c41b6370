use Rattle.std.proofs.Common.{◌≡◌, ◌++◌, drop, flat_map}
use Rattle.pj_plan.specs.Canonical.{node_statements}
use Rattle.pj_statements.proofs.stating.append_nodes.Given as goal

abbrev pub invariant-loop-node : goal.invariant-loop-node
invariant-loop-node l = l.out ++ flat_map (node_statements l.nodes) (drop l.node-index l.nodes) ≡ l.fn.out ++ flat_map (node_statements l.nodes) l.nodes
