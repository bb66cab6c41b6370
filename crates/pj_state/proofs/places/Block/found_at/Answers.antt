use Rattle.std.proofs.Common.{◌<◌, length, arith}
use Rattle.pj_state.specs.Stores.{place_ticket}
use Rattle.pj_state.proofs.Between.{found_here}
use Rattle.pj_state.proofs.Near.{item-there}
use Rattle.pj_state.proofs.places.Block.found_at.Goals as goal

pub returns : goal.returns
returns c =
    let there : c.args.at < length c.args.self.now = omega (arith, c.if-at-len.false, c.len.ensures) in
    found_here place_ticket c.args.ticket c.args.self.now c.args.at c.at-place.result there (item-there c.args.self.now c.args.at c.at-place.result there c.at-place.ensures) c.if-place-ticket.false
