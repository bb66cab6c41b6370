use Rattle.pj_group.proofs.FoundPlaces.{range_passes}
use Rattle.pj_group.proofs.reach.ranged.Goals as goal

pub returns-else-len-clause-ok : goal.returns-else-len-clause-ok
returns-else-len-clause-ok c =
    range_passes c.args.kept.now c.in-Some.column c.in-Some.range c.args.slots.now.entries c.in_ok-places-in-Some.places.items c.rising.result c.in-Some.ensures.needed c.in_ok-places-in-Some.ensures.ok c.rising.ensures.rises c.rising.ensures.keeps
