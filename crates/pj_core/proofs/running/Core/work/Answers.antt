use Rattle.std.proofs.Common.{arith}
use Rattle.pj_operator.proofs.Emits.{err_through}
use Rattle.pj_core.proofs.Making.{makes-working, stops-at-probes, stops-working}
use Rattle.pj_core.proofs.running.Core.work.Goals as goal

pub probe_from-requires-clause-quiet : goal.probe_from-requires-clause-quiet
probe_from-requires-clause-quiet c = λ n lt. absurd (omega (arith, lt))

pub returns-clause-ok : goal.returns-clause-ok
returns-clause-ok c =
    makes-working c.args.self.now c.probe_from.new.self c.sweep_where.new.self c.args.sweeps c.in_ok-probe_from.ensures.ok c.in_ok-sweep_where.ensures.ok

pub returns-in_err-sweep_where-clause-err : goal.returns-in_err-sweep_where-clause-err
returns-in_err-sweep_where-clause-err c =
    err_through _ c.from_residual-in_err-sweep_where.result c.in_err-sweep_where.field-0.0 c.from_residual-in_err-sweep_where.ensures.1
    (stops-working c.args.self.now c.probe_from.new.self c.sweep_where.new.self c.args.sweeps c.in_err-sweep_where.field-0.0 c.in_ok-probe_from.ensures.ok c.in_err-sweep_where.ensures.err)

pub returns-in_err-probe_from-clause-err : goal.returns-in_err-probe_from-clause-err
returns-in_err-probe_from-clause-err c =
    err_through _ c.from_residual.result c.in_err-probe_from.field-0.0 c.from_residual.ensures.1
    (stops-at-probes c.args.self.now c.probe_from.new.self c.args.sweeps c.in_err-probe_from.field-0.0 c.in_err-probe_from.ensures.err)
