use Rattle.pj_core_laws.proofs.UnderWay.{fits-under_way, opens-under_way}
use Rattle.pj_core_laws.proofs.laws.probes_under_way.Goals as goal

pub returns-clause-opens : goal.returns-clause-opens
returns-clause-opens c = opens-under_way

pub returns-clause-fits : goal.returns-clause-fits
returns-clause-fits c = fits-under_way
