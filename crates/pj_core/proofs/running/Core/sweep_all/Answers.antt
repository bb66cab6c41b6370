use Rattle.std.proofs.Common.{arith}
use Rattle.pj_operator.proofs.Emits.{err_through}
use Rattle.pj_core.proofs.Places.{sweeps-end, sweeps-more, sweeps-stop}
use Rattle.pj_core.proofs.running.Core.sweep_all.Goals as goal

pub loop-node-preserved : goal.loop-node-preserved
loop-node-preserved c =
    (sweeps-more c.args.self.now c.loop-node.self c.sweep_node.new.self c.loop-node.node c.node_count-nodes.result c.node_count-nodes.ensures.count c.loop-node-test.true c.loop-node.invariant.0 c.in_ok-sweep_node.ensures.ok, c.in_ok-sweep_node.ensures.quiet)

pub returns-in_err-sweep_node-clause-err : goal.returns-in_err-sweep_node-clause-err
returns-in_err-sweep_node-clause-err c =
    err_through _ c.from_residual.result c.in_err-sweep_node.field-0.0 c.from_residual.ensures.1
    (sweeps-stop c.args.self.now c.loop-node.self c.sweep_node.new.self c.loop-node.node c.node_count-nodes.result c.in_err-sweep_node.field-0.0 c.node_count-nodes.ensures.sound c.node_count-nodes.ensures.count c.loop-node-test.true
    c.loop-node.invariant.0 c.in_err-sweep_node.ensures.err)

pub returns-clause-ok : goal.returns-clause-ok
returns-clause-ok c =
    let most = c.loop-node.auto.node-end in
    let all = c.loop-node-test.false in
    let count = c.node_count-nodes.ensures.count in
    sweeps-end c.args.self.now c.loop-node.self c.loop-node.node c.node_count-nodes.ensures.sound (omega (arith, most, all, count)) c.loop-node.invariant.0
