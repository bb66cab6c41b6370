use Rattle.pj_laws.proofs.Drained.{drained-gains}
use Rattle.pj_laws.proofs.seat_laws.drains_of_seats.Goals as goal

pub returns : goal.returns
returns c = drained-gains
