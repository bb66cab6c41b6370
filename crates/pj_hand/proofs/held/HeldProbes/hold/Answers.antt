use Rattle.pj_hand.proofs.Placed.{held-with, keyed-with}
use Rattle.pj_hand.proofs.held.HeldProbes.hold.Goals as goal

pub invariant_of-self : goal.invariant_of-self
invariant_of-self c = keyed-with c.self.inside.placed.entries c.insert.new.self.entries (c.join.result, c.ticket.result) c.args.probe c.self.invariant (λ i. (c.join.ensures i, c.ticket.ensures i)) c.in-Ok.ensures.entries

pub returns-in-Ok : goal.returns-in-Ok
returns-in-Ok c =
    held-with c.args.self.now c.self.inside.placed.entries c.insert.new.self.entries c.self.inside.waiting (c.join.result, c.ticket.result) c.args.probe c.self.view_is c.requires c.self.invariant
    (λ i. (c.join.ensures i, c.ticket.ensures i)) c.in-Ok.ensures.entries
