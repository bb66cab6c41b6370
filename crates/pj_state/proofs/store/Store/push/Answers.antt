use Rattle.std.proofs.Common.{ap, sym, ◌∙◌, subst}
use Rattle.slab.specs.Slab.{Slab}
use Rattle.pj_value.specs.declared.values.Value.{Value}
use Rattle.pj_state.specs.Rising.{AllBelow, IsRising}
use Rattle.pj_state.specs.States.{stored, ticket_of}
use Rattle.pj_state.specs.declared.shared.Stored.{Stored}
use Rattle.std.proofs.Common.{List, ◌++◌, ◌∷◌, []}
use Rattle.pj_state.proofs.Slots.{put-row, rising-rows}
use Rattle.pj_state.proofs.store.Store.push.Goals as goal

pub invariant_of-self-in-Ok-push : goal.invariant_of-self-in-Ok-push
invariant_of-self-in-Ok-push c =
    let i = c.insert_reserved.ensures in
    (put-row c.self.inside.slab c.reserve.new.self c.insert_reserved.new.self c.self.inside.places c.push.new.self (record { ticket = c.args.ticket; key = c.vacant_key-key.result })
    c.args.row c.insert_reserved.result (ap (λ (s : Slab (List Value)). s.slots) c.reserve.ensures.rest_kept) c.self.invariant i.updates (i.key ∙ sym c.vacant_key-key.ensures.value) i.was_vacant i.len
    (subst (AllBelow ticket_of c.args.ticket) (sym c.self.view_is) c.requires) c.in-Ok-push.ensures.ok).0

pub returns-in-Err-clause-rising : goal.returns-in-Err-clause-rising
returns-in-Err-clause-rising c = subst (IsRising ticket_of) c.self.view_is (rising-rows c.self.inside.slab.slots c.self.inside.places c.self.invariant.rising)

pub returns-in-Err-push-clause-rising : goal.returns-in-Err-push-clause-rising
returns-in-Err-push-clause-rising c = subst (IsRising ticket_of) c.self.view_is (rising-rows c.self.inside.slab.slots c.self.inside.places c.self.invariant.rising)

pub returns-in-Ok-push-clause-ok : goal.returns-in-Ok-push-clause-ok
returns-in-Ok-push-clause-ok c =
    let i = c.insert_reserved.ensures in
    (put-row c.self.inside.slab c.reserve.new.self c.insert_reserved.new.self c.self.inside.places c.push.new.self (record { ticket = c.args.ticket; key = c.vacant_key-key.result })
    c.args.row c.insert_reserved.result (ap (λ (s : Slab (List Value)). s.slots) c.reserve.ensures.rest_kept) c.self.invariant i.updates (i.key ∙ sym c.vacant_key-key.ensures.value) i.was_vacant i.len
    (subst (AllBelow ticket_of c.args.ticket) (sym c.self.view_is) c.requires) c.in-Ok-push.ensures.ok).1
    ∙ ap (λ (rows : List Stored). rows ++ stored c.args.ticket c.args.row ∷ []) c.self.view_is

pub returns-in-Ok-push-clause-rising : goal.returns-in-Ok-push-clause-rising
returns-in-Ok-push-clause-rising c = subst (IsRising ticket_of) c.self.view_is (rising-rows c.self.inside.slab.slots c.self.inside.places c.self.invariant.rising)
