use Rattle.pj_operator.proofs.Emits.{err_through}
use Rattle.pj_core.proofs.Places.{inputs-more, inputs-stop}
use Rattle.pj_core.proofs.running.Core.sweep_node.Goals as goal

pub loop-input-preserved : goal.loop-input-preserved
loop-input-preserved c = (inputs-more c.args.self.now c.loop-input.self c.sweep_and_probe.new.self c.args.node c.loop-input.input c.loop-input.invariant.0 c.in_ok-sweep_and_probe.ensures.ok, c.in_ok-sweep_and_probe.ensures.quiet)

pub returns-in_err-sweep_and_probe-clause-err : goal.returns-in_err-sweep_and_probe-clause-err
returns-in_err-sweep_and_probe-clause-err c =
    err_through _ c.from_residual.result c.in_err-sweep_and_probe.field-0.0 c.from_residual.ensures.1
    (inputs-stop c.args.self.now c.loop-input.self c.sweep_and_probe.new.self c.args.node c.loop-input.input c.places-inputs.result c.in_err-sweep_and_probe.field-0.0 c.places-inputs.ensures c.loop-input-test.true
    c.loop-input.invariant.0 c.in_err-sweep_and_probe.ensures.err)
