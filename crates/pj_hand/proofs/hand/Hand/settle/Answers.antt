use Rattle.std.proofs.Common.{sym, ◌∙◌}
use Rattle.pj_hand.proofs.Settles.{settles, settling-refused, settling-stopped}
use Rattle.pj_hand.proofs.hand.Hand.settle.Goals as goal

pub returns-in-Ok-settle_core-clause-ok : goal.returns-in-Ok-settle_core-clause-ok
returns-in-Ok-settle_core-clause-ok c =
    settles c.args.self.now c.give_all.new.self c.settle_core.new.self c.stopped.ensures.sound c.in-Ok.ensures.ok c.in-Ok.ensures.none c.in-Ok-settle_core.outs c.in-Ok-settle_core.ensures.ok c.settle_core.ensures.taken

pub returns-in-Err-settle_core-clause-err : goal.returns-in-Err-settle_core-clause-err
returns-in-Err-settle_core-clause-err c =
    settling-stopped c.args.self.now c.give_all.new.self c.settle_core.new.self c.in-Err-settle_core.stop c.stopped.ensures.sound c.in-Ok.ensures.ok c.in-Ok.ensures.none c.in-Err-settle_core.ensures.err

pub returns-in-Err-clause-err : goal.returns-in-Err-clause-err
returns-in-Err-clause-err c = settling-refused c.args.self.now c.give_all.new.self c.in-Err.stop (sym c.stopped.ensures.is ∙ c.in-None.is) c.in-Err.ensures.err
