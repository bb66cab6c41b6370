use Rattle.std.proofs.Common.{None, not, ◌&&◌, ap, sym, ◌∙◌, subst, rules}
use Rattle.indexmap.specs.IndexMap.{get}
use Rattle.std.specs.Prelude.{nat_eq}
use Rattle.pj_value.specs.Values.{row_eq}
use Rattle.pj_events.specs.Patterns.{matches_row}
use Rattle.pj_group.specs.Insides.{AllStates}
use Rattle.pj_group.specs.Slots.{is_open, open_groups}
use Rattle.pj_group.proofs.Indexed.{closed_one, indexes_closed}
use Rattle.pj_group.proofs.OpenGroups.{only_closed, open_left, states_filter, states_set}
use Rattle.pj_group.proofs.closing.drop_closed.Goals as goal

pub returns-in-All-clause-keeps : goal.returns-in-All-clause-keeps
returns-in-All-clause-keeps c = ap open_groups c.drop_matched.ensures ∙ open_left (matches_row c.args.kept.now) c.args.slots.now.entries

pub returns-in-All-clause-states : goal.returns-in-All-clause-states
returns-in-All-clause-states c =
    λ count spec h. subst (AllStates count spec) (sym c.drop_matched.ensures) (states_filter count spec (λ s. is_open s && not (matches_row c.args.kept.now s.0)) c.args.slots.now.entries h)

pub returns-in-One-clause-keeps : goal.returns-in-One-clause-keeps
returns-in-One-clause-keeps c =
    c.cleared.ensures.same ∙ (ap open_groups c.close_one.ensures ∙ (only_closed c.args.kept.now c.in-One.key c.args.slots.now.entries (search rules) c.requires.apart).1)

pub returns-in-One-clause-states : goal.returns-in-One-clause-states
returns-in-One-clause-states c =
    λ count spec h. c.cleared.ensures.states count spec
    (subst (AllStates count spec) (sym c.close_one.ensures) (states_set count spec (row_eq c.in-One.key) None c.args.slots.now.entries tt h))

pub cleared-requires : goal.cleared-requires
cleared-requires c = record {
  indexed =
      indexes_closed c.args.slots.now.entries c.close_one.new.slots.entries (get nat_eq c.args.indexes.now)
      (closed_one c.in-One.key c.args.slots.now.entries c.close_one.new.slots.entries c.close_one.ensures) c.requires.indexed;
}
