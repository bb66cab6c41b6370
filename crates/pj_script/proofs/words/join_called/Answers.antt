use Rattle.pj_script.proofs.Numbers.{joins_are}
use Rattle.pj_script.proofs.words.join_called.Goals as goal

pub returns-in-Some-clause-join : goal.returns-in-Some-clause-join
returns-in-Some-clause-join c = joins_are c.args.plan.now.nodes c.joins-joins.result.now c.in-Some.place c.joins-joins.ensures c.in-Some.ensures.within
