use Rattle.std.proofs.Common.{ap, sym, ◌∙◌}
use Rattle.std.specs.Option.{is_some}
use Rattle.pj_state.specs.Rising.{first_with}
use Rattle.pj_state.specs.States.{ticket_of}
use Rattle.pj_state.proofs.Slots.{first-row, held-first, row-found, row_for}
use Rattle.pj_state.proofs.store.Store.get_near.Goals as goal

pub returns-in-None-clause-missing : goal.returns-in-None-clause-missing
returns-in-None-clause-missing c =
    let slots = c.self.inside.slab.slots in
    ap (first_with ticket_of c.args.ticket) (sym c.self.view_is) ∙ (first-row slots c.args.ticket c.self.inside.places ∙ ap (row_for slots) (sym (c.in-None.ensures c.self.invariant.rising)))

pub index-requires : goal.index-requires
index-requires c =
    ap is_some (held-first c.self.inside.slab.slots c.args.ticket c.self.inside.places c.in-Some.place c.self.invariant.held (sym (c.in-Some.ensures c.self.invariant.rising))).1

pub returns-in-Some-clause-found : goal.returns-in-Some-clause-found
returns-in-Some-clause-found c =
    ap (first_with ticket_of c.args.ticket) (sym c.self.view_is)
    ∙ row-found c.self.inside.slab.slots c.args.ticket c.self.inside.places c.in-Some.place c.index.result.now (c.in-Some.ensures c.self.invariant.rising) c.index.ensures
