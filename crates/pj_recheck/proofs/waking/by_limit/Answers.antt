use Rattle.pj_recheck.proofs.Rechecked.{limit_indexed, stop_by_limit}
use Rattle.pj_recheck.proofs.waking.by_limit.Goals as goal

pub matching_tickets-requires : goal.matching_tickets-requires
matching_tickets-requires c = limit_indexed c.args.row_states.now c.args.stop.now.input c.in-Some.state.now c.args.stop.now.leads c.as_slice.result.now c.args.punct.now c.in-Some-limit_of.limit.column c.in-Some-limit_of.limit.pattern.now c.requires.fits.leads c.in-Some.ensures c.as_slice.ensures c.in-Some-limit_of.ensures

pub returns-in_ok-found-in-Some-way : goal.returns-in_ok-found-in-Some-way
returns-in_ok-found-in-Some-way c =
    stop_by_limit c.args.row_states.now c.args.stop.now c.args.punct.now c.in-Some.state.now c.as_slice.result.now c.in-Some-limit_of.limit.column c.in-Some-limit_of.limit.pattern.now c.in_ok-tickets-in-Some-way.tickets c.as_slice-in-Some-way.result.now c.in_ok-found-in-Some-way.found c.in-Some-way.way
    c.requires.wide c.requires.fits c.in-Some.ensures c.as_slice.ensures c.in-Some-limit_of.ensures c.in-Some-way.is c.in_ok-tickets-in-Some-way.ensures c.as_slice-in-Some-way.ensures c.in_ok-found-in-Some-way.ensures
