use Rattle.std.proofs.Common.{Some, ap, ◌∙◌}
use Rattle.pj_hand.proofs.Placed.{found-there}
use Rattle.pj_hand.proofs.held.HeldProbes.work_at.Goals as goal

pub returns-in-None : goal.returns-in-None
returns-in-None c = c.in-None.ensures.value ∙ found-there c.args.self.now c.self.inside.placed.entries c.self.inside.waiting c.args.join c.args.ticket c.self.view_is c.requires c.self.invariant

pub returns-in-Ok : goal.returns-in-Ok
returns-in-Ok c =
    ap Some c.in-Ok.ensures
    ∙ c.in-Some.ensures.value
    ∙ found-there c.args.self.now c.self.inside.placed.entries c.self.inside.waiting c.args.join c.args.ticket c.self.view_is c.requires c.self.invariant
