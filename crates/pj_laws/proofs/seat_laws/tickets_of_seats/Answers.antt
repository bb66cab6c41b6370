use Rattle.pj_laws.proofs.Held.{held-results, holds-new, under-way}
use Rattle.pj_laws.proofs.seat_laws.tickets_of_seats.Goals as goal

pub returns-clause-stay : goal.returns-clause-stay
returns-clause-stay c = held-results

pub returns-clause-held : goal.returns-clause-held
returns-clause-held c = holds-new

pub returns-clause-under_way : goal.returns-clause-under_way
returns-clause-under_way c = under-way
