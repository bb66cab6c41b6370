use Rattle.std.proofs.Common.{sym, ◌∙◌}
use Rattle.pj_hand.proofs.Standing.{give-refused, gives-one}
use Rattle.pj_hand.proofs.hand.Hand.give.Goals as goal

pub returns-in-Ok-clause-ok : goal.returns-in-Ok-clause-ok
returns-in-Ok-clause-ok c = gives-one c.in-Ok.made c.args.self.now c.give_one.new.self c.args.join c.args.ticket c.stopped.ensures.sound (sym c.stopped.ensures.is ∙ c.in-None.is) c.in-Ok.ensures.ok

pub returns-in-Err-clause-err : goal.returns-in-Err-clause-err
returns-in-Err-clause-err c = give-refused c.args.self.now c.give_one.new.self c.args.join c.args.ticket c.in-Err.stop (sym c.stopped.ensures.is ∙ c.in-None.is) c.in-Err.ensures.err
