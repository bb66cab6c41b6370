use Rattle.pj_feed.proofs.Opens.{AreShut}
use Rattle.pj_feed.proofs.feeds.first_open.Given as goal

abbrev pub invariant-loop-place : goal.invariant-loop-place
invariant-loop-place g l = AreShut l.feeds l.from l.place
