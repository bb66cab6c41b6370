use Rattle.pj_core.specs.Calls.{arriving_of}
use Rattle.pj_operator.proofs.Emits.{err_through}
use Rattle.pj_core.proofs.TurnEnds.{makes-turn, turn-refused, turn-stopped}
use Rattle.pj_core.proofs.running.Core.turn.Goals as goal

pub returns-clause-ok : goal.returns-clause-ok
returns-clause-ok c =
    makes-turn c.args.self.now c.arrive.new.self c.finish_turn.new.self (arriving_of c.args.stream c.args.element) c.is_punct-sweeps.result c.in_ok-outs.outs c.is_punct-sweeps.ensures
    c.in_ok-arrive.ensures.ok c.in_ok-outs.ensures.ok

pub returns-in_err-outs-clause-err : goal.returns-in_err-outs-clause-err
returns-in_err-outs-clause-err c =
    err_through _ c.from_residual-in_err-outs.result c.in_err-outs.field-0.0 c.from_residual-in_err-outs.ensures.1
    (turn-stopped c.args.self.now c.arrive.new.self c.finish_turn.new.self (arriving_of c.args.stream c.args.element) c.is_punct-sweeps.result c.in_err-outs.field-0.0 c.is_punct-sweeps.ensures
    c.in_ok-arrive.ensures.ok c.in_err-outs.ensures.err)

pub returns-in_err-arrive-clause-err : goal.returns-in_err-arrive-clause-err
returns-in_err-arrive-clause-err c =
    err_through _ c.from_residual.result c.in_err-arrive.field-0.0 c.from_residual.ensures.1
    (turn-refused c.args.self.now c.arrive.new.self (arriving_of c.args.stream c.args.element) c.in_err-arrive.field-0.0 c.in_err-arrive.ensures.err)
