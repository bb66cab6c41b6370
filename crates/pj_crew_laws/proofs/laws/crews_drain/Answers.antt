use Rattle.pj_crew_laws.proofs.Draining.{writer-drains-all}
use Rattle.pj_crew_laws.proofs.laws.crews_drain.Goals as goal

pub returns : goal.returns
returns c = writer-drains-all
