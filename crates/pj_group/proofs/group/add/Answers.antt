use Rattle.std.proofs.Common.{◌≡◌, ◌∙◌, Some, None, refl, sym, subst}
use Rattle.std.specs.Prelude.{nat_eq}
use Rattle.std.specs.Map.{lookup}
use Rattle.pj_value.specs.Values.{row_eq}
use Rattle.indexmap.specs.IndexMap.{get}
use Rattle.pj_group.specs.Slots.{IsReady}
use Rattle.pj_group.proofs.Taking.{added_by}
use Rattle.pj_group.proofs.Indexed.{indexes_put}
use Rattle.pj_group.proofs.Bounds.{first_states, put_states_by}
use Rattle.pj_group.proofs.group.add.Goals as goal

pub returns-clause-keeps : goal.returns-clause-keeps
returns-clause-keeps c = λ rows e.
    let new : lookup (row_eq c.in_ok-made.made) c.args.slots.now.entries ≡ None = subst (λ k. lookup (row_eq k) c.args.slots.now.entries ≡ None) (sym c.in_ok-made.ensures) c.requires.new in
    added_by c.args.spec.now rows c.args.row.now c.args.slots.now.entries c.args.slots.now.entries c.insert.new.self.entries c.in_ok-made.made c.in_ok-tallies.tallies c.args.spec.now.keys c.as_slice.result.now
    (c.in_ok-made.ensures ∙ c.requires.is) refl c.as_slice.ensures (subst IsReady (sym new) tt) refl (sym new) c.in_ok-tallies.ensures.is c.in_ok-insert.ensures.entries e

pub returns-clause-states : goal.returns-clause-states
returns-clause-states c =
    put_states_by c.args.count c.args.spec.now c.args.slots.now.entries c.insert.new.self.entries c.in_ok-made.made c.in_ok-tallies.tallies c.as_slice.result.now c.requires.states c.as_slice.ensures
    (first_states c.args.count c.args.row.now c.as_slice.result.now c.in_ok-tallies.tallies c.in_ok-tallies.ensures.is c.in_ok-tallies.ensures.bounded) c.in_ok-insert.ensures.entries

pub returns-clause-indexed : goal.returns-clause-indexed
returns-clause-indexed c = indexes_put c.args.slots.now.entries c.insert.new.self.entries c.in_ok-made.made (Some c.in_ok-tallies.tallies) (get nat_eq c.args.indexes.now)
    (subst (λ k. lookup (row_eq k) c.args.slots.now.entries ≡ None) (sym c.in_ok-made.ensures) c.requires.new) c.in_ok-insert.ensures.entries c.requires.indexed
