use Rattle.pj_recheck.proofs.Rechecked.{stops_fit, stops_may}
use Rattle.pj_recheck.proofs.waking.limited.Goals as goal

pub behind_by_limit-requires-clause-fit : goal.behind_by_limit-requires-clause-fit
behind_by_limit-requires-clause-fit c = stops_fit c.args.row_states.now c.args.route.now c.as_slice.result.now c.requires.fits c.as_slice.ensures

pub returns-in_ok-found-in-None : goal.returns-in_ok-found-in-None
returns-in_ok-found-in-None c = stops_may c.args.row_states.now c.args.route.now c.args.punct.now c.as_slice.result.now c.in_ok-found-in-None.found c.as_slice.ensures c.in_ok-found-in-None.ensures
