use Rattle.pj_core_laws.proofs.Settles.{settled-is-complete, work-settles}
use Rattle.pj_core_laws.proofs.laws.work_settles.Goals as goal

pub returns-clause-settles : goal.returns-clause-settles
returns-clause-settles c = work-settles

pub returns-clause-completes : goal.returns-clause-completes
returns-clause-completes c = settled-is-complete
