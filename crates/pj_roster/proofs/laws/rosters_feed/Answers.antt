use Rattle.pj_roster.proofs.FedEach.{feed-each}
use Rattle.pj_roster.proofs.laws.rosters_feed.Goals as goal

pub returns : goal.returns
returns g c = feed-each g.row.S.Denot
