use Rattle.std.proofs.Common.{arith}
use Rattle.pj_script.proofs.Numbers.{joins_are}
use Rattle.pj_roster.proofs.places.share_of.Goals as goal

pub add_where-requires : goal.add_where-requires
add_where-requires c = joins_are c.args.plan.now.nodes c.joins-joins.result.now c.loop-k.k c.joins-joins.ensures (omega (arith, c.loop-k-test.true))
