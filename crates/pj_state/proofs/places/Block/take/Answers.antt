use Rattle.std.proofs.Common.{refl, ◌∙◌}
use Rattle.pj_state.specs.Stores.{place_ticket}
use Rattle.pj_state.proofs.Between.{found_first, found_left, missing_left}
use Rattle.pj_state.proofs.Near.{item-there}
use Rattle.pj_state.proofs.places.Block.take.Goals as goal

pub returns-in-None-clause-left : goal.returns-in-None-clause-left
returns-in-None-clause-left c = missing_left place_ticket c.args.ticket c.args.self.now c.args.self.now refl c.in-None.ensures.missing

pub returns-in-Some-clause-taken : goal.returns-in-Some-clause-taken
returns-in-Some-clause-taken c =
    found_first place_ticket c.args.ticket c.args.self.now c.args.self.now c.in-Some.at c.remove.result refl
    (item-there c.args.self.now c.in-Some.at c.remove.result c.in-Some.ensures.within c.remove.ensures.taken) c.in-Some.ensures.within c.in-Some.ensures.found

pub returns-in-Some-clause-left : goal.returns-in-Some-clause-left
returns-in-Some-clause-left c = λ rising.
    c.remove.ensures.left ∙ found_left place_ticket c.args.ticket c.args.self.now c.args.self.now c.in-Some.at c.remove.result refl c.in-Some.ensures.within c.in-Some.ensures.found rising
