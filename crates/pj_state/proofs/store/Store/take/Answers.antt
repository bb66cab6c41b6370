use Rattle.std.proofs.Common.{refl, ap, sym, ◌∙◌, subst}
use Rattle.std.specs.Option.{is_some}
use Rattle.pj_state.specs.Rising.{IsRising, first_with, without}
use Rattle.pj_state.specs.States.{ticket_of}
use Rattle.pj_state.specs.Stores.{IsStore}
use Rattle.pj_state.proofs.Slots.{held-first, rising-rows, store-missing, store-take, written-at}
use Rattle.pj_state.proofs.store.Store.take.Goals as goal

pub invariant_of-self : goal.invariant_of-self
invariant_of-self c =
    subst (IsStore c.self.inside.slab.slots) (sym (store-missing c.self.inside.slab.slots c.args.ticket c.self.inside.places c.take.new.self c.self.invariant
    (c.in-None.ensures.taken c.self.invariant.rising) (c.in-None.ensures.left c.self.invariant.rising)).0) c.self.invariant

pub remove-requires : goal.remove-requires
remove-requires c =
    ap is_some (held-first c.self.inside.slab.slots c.args.ticket c.self.inside.places c.in-Some.place c.self.invariant.held (sym (c.in-Some.ensures.taken c.self.invariant.rising))).1

pub invariant_of-self-in-Some : goal.invariant_of-self-in-Some
invariant_of-self-in-Some c =
    let r = c.remove.ensures in
    (store-take c.self.inside.slab.slots c.remove.new.self.slots c.args.ticket c.self.inside.places c.take.new.self c.in-Some.place c.remove.result c.self.invariant
    (c.in-Some.ensures.taken c.self.invariant.rising) (c.in-Some.ensures.left c.self.invariant.rising) r.value (written-at c.self.inside.slab c.remove.new.self _ _ _ r.updates refl) r.len).0

pub returns-in-None-clause-taken : goal.returns-in-None-clause-taken
returns-in-None-clause-taken c =
    (store-missing c.self.inside.slab.slots c.args.ticket c.self.inside.places c.take.new.self c.self.invariant
    (c.in-None.ensures.taken c.self.invariant.rising) (c.in-None.ensures.left c.self.invariant.rising)).1
    ∙ ap (first_with ticket_of c.args.ticket) c.self.view_is

pub returns-in-None-clause-left : goal.returns-in-None-clause-left
returns-in-None-clause-left c =
    (store-missing c.self.inside.slab.slots c.args.ticket c.self.inside.places c.take.new.self c.self.invariant
    (c.in-None.ensures.taken c.self.invariant.rising) (c.in-None.ensures.left c.self.invariant.rising)).2
    ∙ ap (without ticket_of c.args.ticket) c.self.view_is

pub returns-in-None-clause-rising : goal.returns-in-None-clause-rising
returns-in-None-clause-rising c = subst (IsRising ticket_of) c.self.view_is (rising-rows c.self.inside.slab.slots c.self.inside.places c.self.invariant.rising)

pub returns-in-Some-clause-taken : goal.returns-in-Some-clause-taken
returns-in-Some-clause-taken c =
    let r = c.remove.ensures in
    (store-take c.self.inside.slab.slots c.remove.new.self.slots c.args.ticket c.self.inside.places c.take.new.self c.in-Some.place c.remove.result c.self.invariant
    (c.in-Some.ensures.taken c.self.invariant.rising) (c.in-Some.ensures.left c.self.invariant.rising) r.value (written-at c.self.inside.slab c.remove.new.self _ _ _ r.updates refl) r.len).2
    ∙ ap (first_with ticket_of c.args.ticket) c.self.view_is

pub returns-in-Some-clause-left : goal.returns-in-Some-clause-left
returns-in-Some-clause-left c =
    let r = c.remove.ensures in
    (store-take c.self.inside.slab.slots c.remove.new.self.slots c.args.ticket c.self.inside.places c.take.new.self c.in-Some.place c.remove.result c.self.invariant
    (c.in-Some.ensures.taken c.self.invariant.rising) (c.in-Some.ensures.left c.self.invariant.rising) r.value (written-at c.self.inside.slab c.remove.new.self _ _ _ r.updates refl) r.len).1
    ∙ ap (without ticket_of c.args.ticket) c.self.view_is

pub returns-in-Some-clause-rising : goal.returns-in-Some-clause-rising
returns-in-Some-clause-rising c = subst (IsRising ticket_of) c.self.view_is (rising-rows c.self.inside.slab.slots c.self.inside.places c.self.invariant.rising)
