use Rattle.pj_crew_runs.proofs.Limiting.{limits-have-cause, settling-limits-have-cause}
use Rattle.pj_crew_runs.proofs.laws.crews_limit.Goals as goal

pub returns-clause-told : goal.returns-clause-told
returns-clause-told c = limits-have-cause

pub returns-clause-settled : goal.returns-clause-settled
returns-clause-settled c = settling-limits-have-cause
