use Rattle.pj_join_laws.proofs.Ripe.{stays-ripe, ripe-when_covered}
use Rattle.pj_join_laws.proofs.join_laws.ripeness.Goals as goal

pub returns-clause-stays : goal.returns-clause-stays
returns-clause-stays c = stays-ripe

pub returns-clause-when_covered : goal.returns-clause-when_covered
returns-clause-when_covered c = ripe-when_covered
