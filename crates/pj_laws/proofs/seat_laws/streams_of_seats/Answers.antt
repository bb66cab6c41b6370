use Rattle.pj_laws.proofs.Feeding.{closed-own, elements-own}
use Rattle.pj_laws.proofs.seat_laws.streams_of_seats.Goals as goal

pub returns-clause-closings : goal.returns-clause-closings
returns-clause-closings c = closed-own

pub returns-clause-elements : goal.returns-clause-elements
returns-clause-elements c = elements-own
