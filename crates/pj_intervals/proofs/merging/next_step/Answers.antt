use Rattle.pj_intervals.proofs.MergedSteps.{gives_older}
use Rattle.pj_intervals.proofs.merging.next_step.Goals as goal

pub returns-in-Some-None : goal.returns-in-Some-None
returns-in-Some-None c =
    gives_older c.pop_front-in-Some-None.result c.args.older.now.items c.args.newer.now.items c.pop_front-in-Some-None.new.self.items c.in-Some-None.ensures.item.3.0 c.in-Some-None.ensures'.item.3 c.pop_front-in-Some-None.ensures.items c.pop_front-in-Some-None.ensures.rest
