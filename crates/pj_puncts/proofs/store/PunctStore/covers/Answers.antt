use Rattle.std.proofs.Common.{◌∙◌}
use Rattle.pj_puncts.proofs.Lookups.{told_below}
use Rattle.pj_shape.specs.Instances.{instance_of}
use Rattle.pj_puncts.proofs.store.PunctStore.covers.Goals as goal

pub returns : goal.returns
returns c = c.is_below.ensures ∙ told_below c.args.self.now.kept (instance_of c.args.scheme.now c.args.given.now) c.args.below c.covering.result c.covering.ensures
