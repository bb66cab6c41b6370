use Rattle.pj_crew_runs.proofs.Settled.{hands-out-all, settles-whole}
use Rattle.pj_crew_runs.proofs.laws.crews_settle.Goals as goal

pub returns-clause-whole : goal.returns-clause-whole
returns-clause-whole c = settles-whole

pub returns-clause-outputs : goal.returns-clause-outputs
returns-clause-outputs c = hands-out-all
