use Rattle.pj_crew_laws.proofs.Arriving.{feeders-bring}
use Rattle.pj_crew_laws.proofs.laws.crews_arrive.Goals as goal

pub returns : goal.returns
returns c = feeders-bring
