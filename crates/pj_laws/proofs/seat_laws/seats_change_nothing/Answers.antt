use Rattle.pj_laws.proofs.Reseat.{stands-same}
use Rattle.pj_laws.proofs.seat_laws.seats_change_nothing.Goals as goal

pub returns : goal.returns
returns c = stands-same
