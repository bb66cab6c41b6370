use Rattle.std.proofs.Common.{length, ap, arith}
use Rattle.pj_core.specs.Plans.{RunPlan}
use Rattle.pj_operator.proofs.Emits.{err_through}
use Rattle.pj_core.proofs.Making.{makes-sweeping, stops-at-sweep, stops-sweeping}
use Rattle.pj_core.proofs.Quiet.{quiet-below}
use Rattle.pj_core.proofs.running.Core.sweep_and_probe.Goals as goal

pub probe_from-requires-clause-there : goal.probe_from-requires-clause-there
probe_from-requires-clause-there c =
    let lt = c.requires.there.0.0 in
    let l = ap (λ (plan : RunPlan). length plan.nodes) c.in_ok-_count.ensures.ok.notes.plan in
    omega (arith, lt, l)

pub probe_from-requires-clause-quiet : goal.probe_from-requires-clause-quiet
probe_from-requires-clause-quiet c =
    let lt = c.requires.there.0.0 in
    c.in_ok-_count.ensures.quiet (quiet-below c.args.self.now c.args.join (omega (arith, lt)) c.requires.quiet)

pub returns-clause-ok : goal.returns-clause-ok
returns-clause-ok c =
    makes-sweeping c.args.self.now c.sweep_one.new.self c.probe_from.new.self c.args.join c.args.input c.in_ok-_count._count c.in_ok-_count.ensures.ok c.in_ok-probe_from.ensures.ok

pub returns-in_err-probe_from-clause-err : goal.returns-in_err-probe_from-clause-err
returns-in_err-probe_from-clause-err c =
    err_through _ c.from_residual-in_err-probe_from.result c.in_err-probe_from.field-0.0 c.from_residual-in_err-probe_from.ensures.1
    (stops-sweeping c.args.self.now c.sweep_one.new.self c.probe_from.new.self c.args.join c.args.input c.in_ok-_count._count c.in_err-probe_from.field-0.0 c.in_ok-_count.ensures.ok c.in_err-probe_from.ensures.err)

pub returns-in_err-_count-clause-err : goal.returns-in_err-_count-clause-err
returns-in_err-_count-clause-err c =
    err_through _ c.from_residual.result c.in_err-_count.field-0.0 c.from_residual.ensures.1
    (stops-at-sweep c.args.self.now c.sweep_one.new.self c.args.join c.args.input c.in_err-_count.field-0.0 c.in_err-_count.ensures.err.0 c.in_err-_count.ensures.err.1)
