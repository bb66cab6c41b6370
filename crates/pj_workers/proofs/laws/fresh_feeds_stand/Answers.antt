use Rattle.pj_workers.proofs.Fed.{fresh-stands}
use Rattle.pj_workers.proofs.laws.fresh_feeds_stand.Goals as goal

pub returns : goal.returns
returns c = fresh-stands
