use Rattle.std.proofs.Common.{refl, true}
use Rattle.pj_core.specs.Calls.{closing_of}
use Rattle.pj_operator.proofs.Emits.{err_through}
use Rattle.pj_core.proofs.TurnEnds.{makes-turn, turn-refused, turn-stopped}
use Rattle.pj_core.proofs.running.Core.closing_turn.Goals as goal

pub returns-clause-ok : goal.returns-clause-ok
returns-clause-ok c =
    makes-turn c.args.self.now c.close_stream.new.self c.finish_turn.new.self (closing_of c.args.self.now c.args.stream) true c.in_ok-outs.outs refl c.in_ok-close_stream.ensures.ok c.in_ok-outs.ensures.ok

pub returns-in_err-outs-clause-err : goal.returns-in_err-outs-clause-err
returns-in_err-outs-clause-err c =
    err_through _ c.from_residual-in_err-outs.result c.in_err-outs.field-0.0 c.from_residual-in_err-outs.ensures.1
    (turn-stopped c.args.self.now c.close_stream.new.self c.finish_turn.new.self (closing_of c.args.self.now c.args.stream) true c.in_err-outs.field-0.0 refl c.in_ok-close_stream.ensures.ok c.in_err-outs.ensures.err)

pub returns-in_err-close_stream-clause-err : goal.returns-in_err-close_stream-clause-err
returns-in_err-close_stream-clause-err c =
    err_through _ c.from_residual.result c.in_err-close_stream.field-0.0 c.from_residual.ensures.1
    (turn-refused c.args.self.now c.close_stream.new.self (closing_of c.args.self.now c.args.stream) c.in_err-close_stream.field-0.0 c.in_err-close_stream.ensures.err)
