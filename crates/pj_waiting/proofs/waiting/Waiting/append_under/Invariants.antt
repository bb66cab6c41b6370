use Rattle.pj_waiting.proofs.Listed.{TakesUnder}
use Rattle.pj_waiting.proofs.waiting.Waiting.append_under.Given as goal

abbrev pub invariant-loop-listing : goal.invariant-loop-listing
invariant-loop-listing l = TakesUnder l.blocker l.initial.listing-iterator l.listing-iterator l.initial.listed l.listed
