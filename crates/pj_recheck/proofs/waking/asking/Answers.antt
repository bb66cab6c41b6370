use Rattle.pj_recheck.proofs.Rechecked.{stops_fit, stops_told}
use Rattle.pj_recheck.proofs.waking.asking.Goals as goal

pub behind_by_key-requires-clause-fit : goal.behind_by_key-requires-clause-fit
behind_by_key-requires-clause-fit c = stops_fit c.args.row_states.now c.args.route.now c.as_slice.result.now c.requires.fits c.as_slice.ensures

pub returns-in-Some : goal.returns-in-Some
returns-in-Some c = stops_told c.args.row_states.now c.args.route.now c.args.punct.now c.as_slice.result.now c.in_ok-found.field-0 c.in-Some.found c.as_slice.ensures c.in-Some.is c.in_ok-found.ensures
