use Rattle.pj_recheck.proofs.Roused.{marked_now}
use Rattle.pj_recheck.proofs.marks.DueRechecks.mark_or_all.Goals as goal

pub returns-in-Ok-clause-marked : goal.returns-in-Ok-clause-marked
returns-in-Ok-clause-marked c = marked_now c.args.self.now c.mark.new.self c.args.tickets.now c.mark.ensures.from c.in-Ok.ensures.ok
