use Rattle.pj_laws.proofs.Follow.{join-follows, tickets-count}
use Rattle.pj_laws.proofs.JoinRuns.{join-runs}
use Rattle.pj_laws.proofs.history_laws.joins_of_histories.Goals as goal

pub returns-clause-follow : goal.returns-clause-follow
returns-clause-follow c = join-follows

pub returns-clause-tickets : goal.returns-clause-tickets
returns-clause-tickets c = tickets-count

pub returns-clause-runs : goal.returns-clause-runs
returns-clause-runs c = join-runs
