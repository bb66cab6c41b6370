use Rattle.std.proofs.Common.{subst, sym}
use Rattle.pj_puncts.specs.Indexed.{AreChained}
use Rattle.pj_puncts.proofs.Lookups.{sets_chained}
use Rattle.pj_puncts.proofs.index.least_of_sets.Goals as goal

pub first_in_set-requires : goal.first_in_set-requires
first_in_set-requires g c = subst (AreChained c.args.kept.now) (sym c.set-item.is) (sets_chained c.args.kept.now c.args.sets.now c.loop-set.set-index c.set-item.result c.loop-set-test.true c.requires)
