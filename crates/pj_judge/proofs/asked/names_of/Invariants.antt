use Rattle.std.proofs.Common.{◌≡◌, ◌++◌, drop, map}
use Rattle.pj_plan.specs.Canonical.{node_name}
use Rattle.pj_plan.specs.Nodes.{inputs_of}
use Rattle.pj_judge.proofs.asked.names_of.Given as goal

abbrev pub invariant-loop-at : goal.invariant-loop-at
invariant-loop-at l = l.names ++ map (node_name l.plan.nodes) (drop l.at (inputs_of l.node)) ≡ map (node_name l.plan.nodes) (inputs_of l.node)
