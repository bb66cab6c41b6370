use Rattle.pj_cover.specs.Making.{IsBegun}
use Rattle.pj_cover.proofs.route.purge_route.Given as goal

abbrev pub invariant-loop-at : goal.invariant-loop-at
invariant-loop-at l = IsBegun l.spec l.schemes l.cert l.own l.at l.known.items l.route
