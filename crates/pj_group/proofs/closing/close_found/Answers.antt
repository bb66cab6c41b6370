use Rattle.std.proofs.Common.{ap, sym, ◌∙◌, subst}
use Rattle.pj_group.specs.Insides.{AllStates}
use Rattle.pj_group.specs.Slots.{open_groups}
use Rattle.pj_group.proofs.FoundPlaces.{found_left, shut_opens_none, states_shut}
use Rattle.pj_group.proofs.closing.close_found.Goals as goal

pub returns-clause-keeps : goal.returns-clause-keeps
returns-clause-keeps c = ap open_groups c.close_places.ensures ∙ found_left c.args.kept.now c.args.slots.now.entries c.args.places.now c.requires.found

pub returns-clause-states : goal.returns-clause-states
returns-clause-states c = λ count spec h. subst (AllStates count spec) (sym c.close_places.ensures) (states_shut c.args.kept.now c.args.slots.now.entries c.args.places.now count spec h)

pub returns-clause-opens : goal.returns-clause-opens
returns-clause-opens c = shut_opens_none c.args.kept.now c.args.slots.now.entries _ c.args.places.now c.close_places.ensures
