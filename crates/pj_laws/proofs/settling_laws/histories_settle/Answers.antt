use Rattle.pj_laws.proofs.SettlingHistories.{none-is-left, settling-is-complete}
use Rattle.pj_laws.proofs.settling_laws.histories_settle.Goals as goal

pub returns-clause-done : goal.returns-clause-done
returns-clause-done c = none-is-left

pub returns-clause-settles : goal.returns-clause-settles
returns-clause-settles c = settling-is-complete
