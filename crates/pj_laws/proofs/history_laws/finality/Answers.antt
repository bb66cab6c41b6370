use Rattle.pj_laws.proofs.FinalRows.{accepted-final, among-arrived, answer-goes-on, is-final}
use Rattle.pj_laws.proofs.history_laws.finality.Goals as goal

pub returns-clause-rows : goal.returns-clause-rows
returns-clause-rows c = is-final

pub returns-clause-goes_on : goal.returns-clause-goes_on
returns-clause-goes_on c = answer-goes-on

pub returns-clause-accepted : goal.returns-clause-accepted
returns-clause-accepted c = accepted-final

pub returns-clause-arrived : goal.returns-clause-arrived
returns-clause-arrived c = among-arrived
