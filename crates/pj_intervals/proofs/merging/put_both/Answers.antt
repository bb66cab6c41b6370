use Rattle.pj_intervals.proofs.Levels.{good_merged}
use Rattle.pj_intervals.proofs.merging.put_both.Goals as goal

pub returns-in-Some : goal.returns-in-Some
returns-in-Some c = good_merged c.args.levels.now.items c.push_reserved-in-Some.new.self.items c.args.older c.args.newer c.merged.result c.merged.ensures c.push_reserved-in-Some.ensures.items
