use Rattle.pj_hand.proofs.Giving.{fewer, gives-begin, gives-end, gives-more, gives-stop, one-now}
use Rattle.pj_hand.proofs.hand.Hand.give_all.Goals as goal

pub giving-init : goal.giving-init
giving-init c = gives-begin c.args.self.now c.requires.sound c.requires.on c.requires.stands

pub giving-preserved : goal.giving-preserved
giving-preserved c = gives-more c.args.self.now c.giving.self c.give_first.new.self c.giving.invariant (rw c.in-Ok-true.field-0-test at c.in-Ok-true.ensures.ok)

pub returns-in-Err-clause-err : goal.returns-in-Err-clause-err
returns-in-Err-clause-err c = gives-stop c.args.self.now c.giving.self c.give_first.new.self c.giving.invariant c.in-Err.stop c.in-Err.ensures.err

pub give_first-requires-clause-stands : goal.give_first-requires-clause-stands
give_first-requires-clause-stands c = one-now c.args.self.now c.giving.self c.giving.invariant

pub giving-smaller : goal.giving-smaller
giving-smaller c = fewer c.giving.self c.give_first.new.self (rw c.in-Ok-true.field-0-test at c.in-Ok-true.ensures.ok)

pub returns-in-Ok-false-clause-ok : goal.returns-in-Ok-false-clause-ok
returns-in-Ok-false-clause-ok c = gives-end c.args.self.now c.giving.self c.give_first.new.self c.giving.invariant (rw c.in-Ok-false.field-0-test at c.in-Ok-false.ensures.ok)
