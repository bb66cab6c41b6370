use Rattle.pj_waiting.proofs.Listed.{keeps_listed}
use Rattle.pj_waiting.proofs.waiting.Waiting.list.Goals as goal

pub returns-clause-keeps : goal.returns-clause-keeps
returns-clause-keeps c = rw (← c.self.view_is) (keeps_listed c.self.inside.by_blocker.keys c.insert.new.self (c.args.blocker, c.args.ticket) c.in_ok-insert.ensures.updates)
