use Rattle.std.proofs.Common.{sym, ◌∙◌, ap, subst}
use Rattle.std.specs.Prelude.{nat_eq}
use Rattle.pj_events.specs.Operators.{picked_cells}
use Rattle.indexmap.specs.IndexMap.{get}
use Rattle.pj_group.specs.Renewing.{Renews}
use Rattle.pj_group.specs.Slots.{open_groups}
use Rattle.pj_group.specs.Steps.{next_tallies}
use Rattle.pj_group.proofs.Bounds.{on_err}
use Rattle.pj_group.proofs.Indexed.{indexes_renewed}
use Rattle.pj_group.proofs.OpenGroups.{new_cleared, open_cleared, states_cleared}
use Rattle.pj_group.proofs.Taking.{renewed_by}
use Rattle.pj_group.specs.Insides.{AllStates}
use Rattle.pj_group.proofs.group.take_row.Goals as goal

pub add-requires-clause-new : goal.add-requires-clause-new
add-requires-clause-new c =
    new_cleared c.args.slots.now.entries c.renew_at.new.slots.entries c.clear_all.new.slots.entries c.of-key.result
    (subst (Renews (next_tallies c.args.row.now c.args.spec.now.aggs) c.args.slots.now.entries c.of-key.result c.renew_at.new.slots.entries) c.in-Closed.is c.in_ok-renew_at.ensures.is) c.clear_all.ensures.slots

pub add-requires-clause-states : goal.add-requires-clause-states
add-requires-clause-states c =
    states_cleared c.args.count c.args.spec.now c.args.slots.now.entries c.renew_at.new.slots.entries c.clear_all.new.slots.entries c.of-key.result
    (subst (Renews (next_tallies c.args.row.now c.args.spec.now.aggs) c.args.slots.now.entries c.of-key.result c.renew_at.new.slots.entries) c.in-Closed.is c.in_ok-renew_at.ensures.is) c.clear_all.ensures.slots
    c.requires.states

pub returns-in_err-add-in-Closed-clause-err : goal.returns-in_err-add-in-Closed-clause-err
returns-in_err-add-in-Closed-clause-err c =
    on_err _ _ (ap open_groups c.in_err-add-in-Closed.ensures.err
    ∙ open_cleared c.args.slots.now.entries c.renew_at.new.slots.entries c.clear_all.new.slots.entries c.of-key.result
    (subst (Renews (next_tallies c.args.row.now c.args.spec.now.aggs) c.args.slots.now.entries c.of-key.result c.renew_at.new.slots.entries) c.in-Closed.is c.in_ok-renew_at.ensures.is) c.clear_all.ensures.slots)

pub returns-in_err-add-in-Closed-clause-left : goal.returns-in_err-add-in-Closed-clause-left
returns-in_err-add-in-Closed-clause-left c =
    on_err _ _ (subst (AllStates c.args.count c.args.spec.now) (sym c.in_err-add-in-Closed.ensures.err)
    (states_cleared c.args.count c.args.spec.now c.args.slots.now.entries c.renew_at.new.slots.entries c.clear_all.new.slots.entries c.of-key.result
    (subst (Renews (next_tallies c.args.row.now c.args.spec.now.aggs) c.args.slots.now.entries c.of-key.result c.renew_at.new.slots.entries) c.in-Closed.is c.in_ok-renew_at.ensures.is) c.clear_all.ensures.slots
    c.requires.states))

pub returns-in-Open-clause-keeps : goal.returns-in-Open-clause-keeps
returns-in-Open-clause-keeps c = λ rows e.
    renewed_by c.args.spec.now rows c.args.row.now c.args.slots.now.entries c.renew_at.new.slots.entries c.of-key.result (c.of-key.ensures ∙ ap (λ ks. picked_cells ks c.args.row.now) c.as_slice.ensures)
    (subst (Renews (next_tallies c.args.row.now c.args.spec.now.aggs) c.args.slots.now.entries c.of-key.result c.renew_at.new.slots.entries) c.in-Open.is c.in_ok-renew_at.ensures.is) e

pub returns-in-Open-clause-indexed : goal.returns-in-Open-clause-indexed
returns-in-Open-clause-indexed c =
    indexes_renewed (next_tallies c.args.row.now c.args.spec.now.aggs) c.args.slots.now.entries c.renew_at.new.slots.entries c.of-key.result (get nat_eq c.args.indexes.now)
    (subst (Renews (next_tallies c.args.row.now c.args.spec.now.aggs) c.args.slots.now.entries c.of-key.result c.renew_at.new.slots.entries) c.in-Open.is c.in_ok-renew_at.ensures.is) c.requires.indexed

pub returns-in_ok-add-in-Closed-clause-keeps : goal.returns-in_ok-add-in-Closed-clause-keeps
returns-in_ok-add-in-Closed-clause-keeps c = λ rows e.
    c.in_ok-add-in-Closed.ensures.keeps rows
    (open_cleared c.args.slots.now.entries c.renew_at.new.slots.entries c.clear_all.new.slots.entries c.of-key.result
    (subst (Renews (next_tallies c.args.row.now c.args.spec.now.aggs) c.args.slots.now.entries c.of-key.result c.renew_at.new.slots.entries) c.in-Closed.is c.in_ok-renew_at.ensures.is) c.clear_all.ensures.slots ∙ e)
