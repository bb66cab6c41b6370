use Rattle.pj_roster.proofs.Tells.{none-told}
use Rattle.pj_roster.proofs.laws.rosters_tell.Goals as goal

pub returns : goal.returns
returns g c = none-told g.row.S.Denot
