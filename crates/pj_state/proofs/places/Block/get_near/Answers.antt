use Rattle.std.proofs.Common.{refl}
use Rattle.pj_state.specs.Stores.{place_ticket}
use Rattle.pj_state.proofs.Between.{found_first}
use Rattle.pj_state.proofs.Near.{item-there}
use Rattle.pj_state.proofs.places.Block.get_near.Goals as goal

pub returns-in-Some : goal.returns-in-Some
returns-in-Some c =
    found_first place_ticket c.args.ticket c.args.self.now c.args.self.now c.in-Some.at c.at.result refl
    (item-there c.args.self.now c.in-Some.at c.at.result c.in-Some.ensures.within c.at.ensures) c.in-Some.ensures.within c.in-Some.ensures.found
