use Rattle.std.proofs.Common.{length}
use Rattle.pj_hand.proofs.Giving.{GivesSoFar}
use Rattle.pj_hand.proofs.hand.Hand.give_all.Given as goal

abbrev pub invariant-giving : goal.invariant-giving
invariant-giving l = GivesSoFar l.fn.self l.self

abbrev pub decreases-giving : goal.decreases-giving
decreases-giving l = length l.self.taken
