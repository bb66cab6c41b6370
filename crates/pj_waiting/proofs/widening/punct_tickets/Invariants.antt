use Rattle.std.proofs.Common.{◌≡◌, map, take}
use Rattle.pj_waiting.proofs.widening.punct_tickets.Given as goal

abbrev pub invariant-loop-listing : goal.invariant-loop-listing
invariant-loop-listing l = l.tickets ≡ map (λ q. q.1) (take l.listing-index l.listed)
