use Rattle.std.proofs.Common.{ap, sym, ◌∙◌, subst}
use Rattle.pj_group.specs.Insides.{AllStates}
use Rattle.pj_group.specs.Slots.{is_open, open_groups}
use Rattle.pj_group.proofs.OpenGroups.{open_filter, states_filter}
use Rattle.pj_group.proofs.closing.cleared.Goals as goal

pub returns-then-closings-places-clause-same : goal.returns-then-closings-places-clause-same
returns-then-closings-places-clause-same c = ap open_groups c.clear_all.ensures.slots ∙ open_filter c.args.slots.now.entries

pub returns-then-closings-places-clause-states : goal.returns-then-closings-places-clause-states
returns-then-closings-places-clause-states c = λ count spec h. subst (AllStates count spec) (sym c.clear_all.ensures.slots) (states_filter count spec is_open c.args.slots.now.entries h)
