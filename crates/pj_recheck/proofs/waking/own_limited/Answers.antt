use Rattle.pj_recheck.proofs.Rechecked.{limit_indexed, own_by_limit}
use Rattle.pj_recheck.proofs.waking.own_limited.Goals as goal

pub matching_tickets-requires : goal.matching_tickets-requires
matching_tickets-requires c = limit_indexed c.args.row_states.now c.args.route.now.owner c.in-Some.state.now c.args.route.now.own c.as_slice.result.now c.args.punct.now c.in-Some-limit_of.limit.column c.in-Some-limit_of.limit.pattern.now c.requires.fits.own c.in-Some.ensures c.as_slice.ensures c.in-Some-limit_of.ensures

pub returns-in_ok-found-in-Some-limit_of : goal.returns-in_ok-found-in-Some-limit_of
returns-in_ok-found-in-Some-limit_of c =
    own_by_limit c.args.row_states.now c.args.route.now c.args.punct.now c.in-Some.state.now c.as_slice.result.now c.in-Some-limit_of.limit.column c.in-Some-limit_of.limit.pattern.now c.in_ok-found-in-Some-limit_of.found
    c.requires.wide c.requires.fits c.in-Some.ensures c.as_slice.ensures c.in-Some-limit_of.ensures c.in_ok-found-in-Some-limit_of.ensures
