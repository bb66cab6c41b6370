use Rattle.pj_join_laws.proofs.Late.{settles}
use Rattle.pj_join_laws.proofs.join_laws.settling.Goals as goal

pub returns : goal.returns
returns c = settles
