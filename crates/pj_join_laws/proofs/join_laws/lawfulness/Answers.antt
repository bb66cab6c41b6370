use Rattle.pj_join_laws.proofs.Lawful.{hands_up-lawfully}
use Rattle.pj_join_laws.proofs.join_laws.lawfulness.Goals as goal

pub returns : goal.returns
returns c = hands_up-lawfully
