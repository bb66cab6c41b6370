use Rattle.pj_events.specs.History.{begun}
use Rattle.pj_laws.proofs.Lists.{halt-reached, stop-reached}
use Rattle.pj_laws.proofs.seat_laws.stops_are_listed.Goals as goal

pub returns-clause-stop : goal.returns-clause-stop
returns-clause-stop c = λ trace plan history. stop-reached trace (begun plan) history

pub returns-clause-halt : goal.returns-clause-halt
returns-clause-halt c = halt-reached
