use Rattle.std.proofs.Common.{◌≡◌, ◌++◌, drop, map}
use Rattle.pj_plan.specs.Canonical.{node_name}
use Rattle.pj_statements.proofs.stating.node_names.Given as goal

abbrev pub invariant-loop-number : goal.invariant-loop-number
invariant-loop-number l = l.names ++ map (node_name l.nodes) (drop l.number-index l.numbers) ≡ map (node_name l.nodes) l.numbers
