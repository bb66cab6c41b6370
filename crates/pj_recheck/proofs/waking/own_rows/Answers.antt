use Rattle.pj_recheck.proofs.Rechecked.{leads_indexed, own_by_key}
use Rattle.pj_recheck.proofs.waking.own_rows.Goals as goal

pub fewest_keyed-requires : goal.fewest_keyed-requires
fewest_keyed-requires c = leads_indexed c.args.row_states.now c.args.route.now.owner c.in-Some.state.now c.args.route.now.own c.as_slice.result.now c.requires.fits.own c.in-Some.ensures c.as_slice.ensures

pub returns-in-Some : goal.returns-in-Some
returns-in-Some c =
    own_by_key (λ tickets. tickets.now) c.args.row_states.now c.args.route.now c.args.punct.now c.in-Some.state.now c.as_slice.result.now c.fewest_keyed.result c.requires.wide c.requires.fits c.in-Some.ensures c.as_slice.ensures c.fewest_keyed.ensures
