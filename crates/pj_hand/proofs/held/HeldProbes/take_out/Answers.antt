use Rattle.std.proofs.Common.{◌∙◌, subst, sym}
use Rattle.std.specs.BTreeMap.{is_at}
use Rattle.pj_hand.specs.Held.{AreKeyed, place_cmp}
use Rattle.pj_hand.proofs.Placed.{found-there, held-without, keyed-removed}
use Rattle.pj_hand.proofs.held.HeldProbes.take_out.Goals as goal

pub invariant_of-self : goal.invariant_of-self
invariant_of-self c = subst AreKeyed (sym c.remove.ensures.entries) (keyed-removed (is_at (place_cmp (c.args.join, c.args.ticket))) c.self.inside.placed.entries c.self.invariant)

pub returns-clause-value : goal.returns-clause-value
returns-clause-value c = c.remove.ensures.value ∙ found-there c.args.self.now c.self.inside.placed.entries c.self.inside.waiting c.args.join c.args.ticket c.self.view_is c.requires c.self.invariant

pub returns-clause-left : goal.returns-clause-left
returns-clause-left c =
    held-without c.args.self.now c.self.inside.placed.entries c.remove.new.self.entries c.self.inside.waiting c.args.join c.args.ticket c.self.view_is c.requires c.self.invariant c.remove.ensures.entries
