use Rattle.pj_crew_laws.proofs.Stopping.{halts-have-cause, none-stops, stops-are-told}
use Rattle.pj_crew_laws.proofs.laws.crews_stop.Goals as goal

pub returns-clause-halts : goal.returns-clause-halts
returns-clause-halts c = halts-have-cause

pub returns-clause-told : goal.returns-clause-told
returns-clause-told c = stops-are-told

pub returns-clause-none : goal.returns-clause-none
returns-clause-none c = none-stops
