use Rattle.pj_laws.proofs.OneThreadAnswer.{unswept-whole, unswept-answer, swept-whole, swept-answer}
use Rattle.pj_laws.proofs.SweptRun.{swept-complete, swept-groups}
use Rattle.pj_laws.proofs.history_laws.one_thread.Goals as goal

pub returns-clause-whole : goal.returns-clause-whole
returns-clause-whole c = unswept-whole

pub returns-clause-answer : goal.returns-clause-answer
returns-clause-answer c = unswept-answer

pub returns-clause-swept_whole : goal.returns-clause-swept_whole
returns-clause-swept_whole c = swept-whole

pub returns-clause-swept_answer : goal.returns-clause-swept_answer
returns-clause-swept_answer c = swept-answer

pub returns-clause-swept_complete : goal.returns-clause-swept_complete
returns-clause-swept_complete c = swept-complete

pub returns-clause-swept_groups : goal.returns-clause-swept_groups
returns-clause-swept_groups c = swept-groups
