use Rattle.std.proofs.Common.{IfSome, List, subst}
use Rattle.pj_recheck.specs.declared.routes.Hop.{Hop}
use Rattle.pj_recheck.specs.Recheck.{HopsLead}
use Rattle.pj_recheck.proofs.Backward.{way_leads}
use Rattle.pj_recheck.proofs.reaching.owners.Goals as goal

pub returns-in_ok-own-in-Some : goal.returns-in_ok-own-in-Some
returns-in_ok-own-in-Some c =
    way_leads c.args.row_states.now c.args.way.now c.args.tickets.now c.in-Some.next c.in_ok-hop_back.field-0 c.in_ok-own-in-Some.own c.in-Some.is c.in_ok-hop_back.ensures
    (subst (λ (hops : List Hop). IfSome c.in_ok-own-in-Some.own (HopsLead c.args.row_states.now hops c.in-Some.next)) c.as_slice.ensures c.in_ok-own-in-Some.ensures)
