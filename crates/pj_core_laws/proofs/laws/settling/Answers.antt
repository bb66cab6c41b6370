use Rattle.pj_core.specs.Plans.{nodes_of}
use Rattle.pj_core.proofs.Planned.{planned}
use Rattle.pj_laws.proofs.SettlingHistories.{none-is-left, settling-is-complete}
use Rattle.pj_core_laws.proofs.laws.settling.Goals as goal

pub returns-clause-done : goal.returns-clause-done
returns-clause-done c = λ plan. none-is-left (nodes_of plan)

pub returns-clause-settles : goal.returns-clause-settles
returns-clause-settles c = λ plan sound certified. settling-is-complete (nodes_of plan) (planned plan sound) certified
