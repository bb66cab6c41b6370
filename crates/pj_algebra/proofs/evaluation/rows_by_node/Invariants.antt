use Rattle.std.proofs.Common.{◌≡◌, drop}
use Rattle.pj_algebra.specs.Answers.{node_rows, nodes_give, rows_by_node}
use Rattle.pj_algebra.proofs.evaluation.rows_by_node.Given as goal

abbrev pub invariant-loop-n : goal.invariant-loop-n
invariant-loop-n l = nodes_give node_rows l.made l.left (drop l.n l.plan.nodes) ≡ rows_by_node l.plan.nodes l.rows
