use Rattle.pj_recheck.proofs.Rechecked.{item_in, stops_find}
use Rattle.pj_recheck.proofs.waking.behind_by_key.Goals as goal

pub by_key-requires-clause-fits : goal.by_key-requires-clause-fits
by_key-requires-clause-fits c = c.requires.fit c.stop-item.result (item_in c.args.stops.now c.loop-stop.stop-index c.stop-item.result c.loop-stop-test.true c.stop-item.is)

pub returns-in-Some : goal.returns-in-Some
returns-in-Some c = stops_find c.args.row_states.now c.args.stops.now c.args.punct.now c.loop-stop.stop-index c.stop-item.result c.in_ok-by_key.field-0 c.in-Some.found c.loop-stop-test.true c.stop-item.is c.in-Some.is c.in_ok-by_key.ensures
