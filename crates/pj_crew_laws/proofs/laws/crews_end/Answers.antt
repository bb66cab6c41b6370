use Rattle.pj_crew_laws.proofs.Ending.{whole-crews-end}
use Rattle.pj_crew_laws.proofs.laws.crews_end.Goals as goal

pub returns : goal.returns
returns c = whole-crews-end
