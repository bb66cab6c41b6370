use Rattle.pj_recheck.proofs.Rechecked.{leads_indexed, stop_by_key}
use Rattle.pj_recheck.proofs.waking.by_key.Goals as goal

pub fewest_keyed-requires : goal.fewest_keyed-requires
fewest_keyed-requires c = leads_indexed c.args.row_states.now c.args.stop.now.input c.in-Some.state.now c.args.stop.now.leads c.as_slice.result.now c.requires.fits.leads c.in-Some.ensures c.as_slice.ensures

pub returns-in_ok-found-in-Some-fewest_keyed : goal.returns-in_ok-found-in-Some-fewest_keyed
returns-in_ok-found-in-Some-fewest_keyed c =
    stop_by_key c.args.row_states.now c.args.stop.now c.args.punct.now c.in-Some.state.now c.as_slice.result.now c.in-Some-fewest_keyed.tickets.now c.in_ok-found-in-Some-fewest_keyed.found c.in-Some-way.way
    c.requires.wide c.requires.fits c.in-Some.ensures c.as_slice.ensures c.in-Some-fewest_keyed.ensures c.in-Some-way.is c.in_ok-found-in-Some-fewest_keyed.ensures
