use Rattle.pj_waiting.proofs.Listed.{ListsUnder}
use Rattle.pj_waiting.proofs.waiting.Waiting.blocked_by.Given as goal

abbrev pub invariant-loop-blocker : goal.invariant-loop-blocker
invariant-loop-blocker l = ListsUnder l.self l.blockers l.blocker-index l.next l.listed
