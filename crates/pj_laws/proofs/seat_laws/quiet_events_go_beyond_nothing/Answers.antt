use Rattle.pj_laws.proofs.Quiet.{quiet-within, take-within}
use Rattle.pj_laws.proofs.seat_laws.quiet_events_go_beyond_nothing.Goals as goal

pub returns-clause-quiet : goal.returns-clause-quiet
returns-clause-quiet c = quiet-within

pub returns-clause-takes : goal.returns-clause-takes
returns-clause-takes c = take-within
