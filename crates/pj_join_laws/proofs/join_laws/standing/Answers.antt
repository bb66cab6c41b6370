use Rattle.pj_join_laws.proofs.Stand.{steps-stand}
use Rattle.pj_join_laws.proofs.join_laws.standing.Goals as goal

pub returns : goal.returns
returns c = steps-stand
