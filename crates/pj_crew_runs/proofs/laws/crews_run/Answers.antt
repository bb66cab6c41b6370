use Rattle.pj_crew_runs.proofs.Fronts.{brings-fronts}
use Rattle.pj_crew_runs.proofs.laws.crews_run.Goals as goal

pub returns : goal.returns
returns c = brings-fronts
