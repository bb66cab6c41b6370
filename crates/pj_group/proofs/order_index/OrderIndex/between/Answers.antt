use Rattle.pj_group.proofs.Ordered.{collected_has, runs_forward}
use Rattle.pj_group.proofs.order_index.OrderIndex.between.Goals as goal

pub places_in-requires : goal.places_in-requires
places_in-requires c = runs_forward c.args.range c.first_of.result c.last_of.result c.first_of.ensures c.last_of.ensures c.requires

pub returns : goal.returns
returns c = collected_has c.args.range c.first_of.result c.last_of.result c.args.self.now c.in_ok-places_in.field-0.items c.first_of.ensures c.last_of.ensures c.in_ok-places_in.ensures
