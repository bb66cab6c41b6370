use Rattle.std.proofs.Common.{arith}
use Rattle.pj_operator.proofs.Emits.{err_through}
use Rattle.pj_core.proofs.Quiet.{makes-none, quiet-all}
use Rattle.pj_core.proofs.Turning.{probes-end, probes-more, probes-stop}
use Rattle.pj_core.proofs.running.Core.probe_from.Goals as goal

pub loop-node-init : goal.loop-node-init
loop-node-init c = (makes-none c.args.self.now c.args.first c.requires.on c.requires.quiet, c.requires.quiet)

pub loop-node-preserved : goal.loop-node-preserved
loop-node-preserved c = (probes-more c.args.self.now c.loop-node.self c.probe_node.new.self c.loop-node.node c.loop-node.invariant.0 c.in_ok-probe_node.ensures.ok, c.in_ok-probe_node.ensures.quiet c.loop-node.invariant.1)

pub returns-in_err-probe_node-clause-err : goal.returns-in_err-probe_node-clause-err
returns-in_err-probe_node-clause-err c =
    err_through _ c.from_residual.result c.in_err-probe_node.field-0.0 c.from_residual.ensures.1
    (probes-stop c.args.self.now c.loop-node.self c.probe_node.new.self c.loop-node.node c.node_count-nodes.result c.in_err-probe_node.field-0.0 c.node_count-nodes.ensures.count c.loop-node-test.true
    c.loop-node.invariant.0 c.in_err-probe_node.ensures.err)

pub returns-clause-ok : goal.returns-clause-ok
returns-clause-ok c =
    let most = c.loop-node.auto.node-end in
    let all = c.loop-node-test.false in
    let count = c.node_count-nodes.ensures.count in
    probes-end c.args.self.now c.loop-node.self c.loop-node.node (omega (arith, most, all, count)) c.loop-node.invariant.0

pub returns-clause-quiet : goal.returns-clause-quiet
returns-clause-quiet c =
    let most = c.loop-node.auto.node-end in
    let all = c.loop-node-test.false in
    let count = c.node_count-nodes.ensures.count in
    quiet-all c.args.self.now c.loop-node.self c.loop-node.node (omega (arith, most, all, count)) c.loop-node.invariant.0.plan c.loop-node.invariant.1
