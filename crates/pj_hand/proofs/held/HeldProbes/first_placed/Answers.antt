use Rattle.std.proofs.Common.{ap, ◌∙◌}
use Rattle.pj_hand.specs.Held.{first_place}
use Rattle.pj_hand.proofs.Placed.{first-place, plain}
use Rattle.pj_hand.proofs.held.HeldProbes.first_placed.Goals as goal

pub returns-in-Some : goal.returns-in-Some
returns-in-Some c =
    first-place c.self.inside.placed.entries c.in-Some.place.now c.in-Some.field-0-1.now c.self.invariant c.in-Some.ensures.first
    ∙ ap first_place (plain c.args.self.now c.self.inside.placed.entries c.self.inside.waiting c.self.view_is c.requires).1
