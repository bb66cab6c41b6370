use Rattle.pj_roster.proofs.Begins.{begins}
use Rattle.pj_roster.proofs.laws.rosters_begin.Goals as goal

pub returns : goal.returns
returns g c = begins g.row.S.Denot
