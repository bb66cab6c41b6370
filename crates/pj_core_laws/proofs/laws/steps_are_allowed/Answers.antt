use Rattle.pj_core_laws.proofs.Allowed.{gives-may-follow, sweeps-may-follow}
use Rattle.pj_core_laws.proofs.laws.steps_are_allowed.Goals as goal

pub returns-clause-sweeps : goal.returns-clause-sweeps
returns-clause-sweeps c = sweeps-may-follow

pub returns-clause-gives : goal.returns-clause-gives
returns-clause-gives c = gives-may-follow
