use Rattle.std.proofs.Common.{List, ◌∙◌, ap₂}
use Rattle.pj_value.specs.declared.values.Value.{Value}
use Rattle.pj_algebra.specs.Answers.{node_rows, rows_by_node}
use Rattle.pj_algebra.proofs.NodesInOrder.{one_node}
use Rattle.pj_algebra.proofs.evaluation.rows_by_node.Goals as goal

pub loop-n-preserved : goal.loop-n-preserved
loop-n-preserved c =
    one_node c.args.plan.now.nodes c.loop-n.n c.node-node.result.now c.loop-n.made c.push.new.self c.loop-n.left.now c.left_behind-left.result.now c.in_ok-given.given (rows_by_node c.args.plan.now.nodes c.args.rows.now) (rw (← c.nodes-n-end.ensures.count) c.loop-n-test.true) c.node-node.ensures
    (c.in_ok-given.ensures ∙ ap₂ (λ (before : List (List (List Value))) (arrived : List (List Value)). node_rows before arrived c.node-node.result.now) c.as_slice.ensures c.rows_of.ensures)
    c.in_ok-push.ensures.ok c.left_behind-left.ensures c.loop-n.invariant
