use Rattle.pj_roster.proofs.Shares.{IsSharing}
use Rattle.pj_roster.proofs.places.share_of.Given as goal

abbrev pub invariant-loop-k : goal.invariant-loop-k
invariant-loop-k l = IsSharing l.fn.plan.nodes l.fn.sweepers l.fn.sweeper l.k l.joins l.share
