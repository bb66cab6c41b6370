use Rattle.pj_laws.proofs.HistoryAnswers.{complete-is-answer, emptied-is-answer, given-is-answer}
use Rattle.pj_laws.proofs.history_laws.history_answers.Goals as goal

pub returns-clause-given : goal.returns-clause-given
returns-clause-given c = given-is-answer

pub returns-clause-emptied : goal.returns-clause-emptied
returns-clause-emptied c = emptied-is-answer

pub returns-clause-complete : goal.returns-clause-complete
returns-clause-complete c = complete-is-answer
