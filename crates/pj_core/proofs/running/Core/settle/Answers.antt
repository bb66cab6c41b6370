use Rattle.std.proofs.Common.{sym, ◌∙◌}
use Rattle.pj_core.proofs.Words.{settling-again, settling-stopped}
use Rattle.pj_core.proofs.running.Core.settle.Goals as goal

pub returns-in-Some-clause-err : goal.returns-in-Some-clause-err
returns-in-Some-clause-err c = settling-again _ c.args.self.now c.in-Some.stop (sym c.stopped.ensures.is ∙ c.in-Some.is) c.in-Some.ensures.again

pub returns-in-Err-clause-err : goal.returns-in-Err-clause-err
returns-in-Err-clause-err c = settling-stopped _ c.args.self.now c.finish_turn.new.self c.in-Err.stop (sym c.stopped.ensures.is ∙ c.in-None.is) c.in-Err.ensures.err
