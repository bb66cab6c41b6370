use Rattle.pj_core.proofs.TurnEnds.{finishes}
use Rattle.pj_core.proofs.running.Core.finish_turn.Goals as goal

pub returns-clause-ok : goal.returns-clause-ok
returns-clause-ok c =
    finishes c.args.sweeps c.args.self.now c.work.new.self c.drain.new.self c.drain.result c.in_ok-work.ensures.ok
    c.drain.ensures.handed c.drain.ensures.left c.drain.ensures.notes
