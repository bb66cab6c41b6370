use Rattle.std.proofs.Common.{length, ap, sym, ◌∙◌, subst}
use Rattle.pj_state.specs.Rising.{IsRising}
use Rattle.pj_state.specs.States.{ticket_of}
use Rattle.pj_state.proofs.Slots.{length-rows, rising-rows}
use Rattle.pj_state.proofs.store.Store.len.Goals as goal

pub returns-clause-len : goal.returns-clause-len
returns-clause-len c =
    c.len.ensures ∙ (c.self.invariant.count ∙ (sym (length-rows c.self.inside.slab.slots c.self.inside.places) ∙ ap length c.self.view_is))

pub returns-clause-rising : goal.returns-clause-rising
returns-clause-rising c = subst (IsRising ticket_of) c.self.view_is (rising-rows c.self.inside.slab.slots c.self.inside.places c.self.invariant.rising)
