use Rattle.pj_roster.proofs.Keeps.{keep-all}
use Rattle.pj_roster.proofs.laws.rosters_keep.Goals as goal

pub returns : goal.returns
returns g c = keep-all g.row.S.Denot
