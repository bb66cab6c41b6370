use Rattle.pj_recheck.specs.Judging.{join_data}
use Rattle.pj_join.specs.Purges.{ArePurgeRoutes}
use Rattle.pj_join.proofs.starting.purge_routes.Given as goal

abbrev pub invariant-loop-input : goal.invariant-loop-input
invariant-loop-input l = ArePurgeRoutes (join_data l.spec l.schemes l.certs) l.input l.routes.items
