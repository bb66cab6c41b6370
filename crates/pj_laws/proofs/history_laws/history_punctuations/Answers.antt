use Rattle.pj_laws.proofs.HistoryPuncts.{complete-is-puncts, swept-is-puncts}
use Rattle.pj_laws.proofs.history_laws.history_punctuations.Goals as goal

pub returns-clause-complete : goal.returns-clause-complete
returns-clause-complete c = complete-is-puncts

pub returns-clause-swept : goal.returns-clause-swept
returns-clause-swept c = swept-is-puncts
