use Rattle.pj_whole_laws.proofs.Whole.{answers, is-lawful, punctuates, sorted-is-one}
use Rattle.pj_whole_laws.proofs.laws.whole_histories.Goals as goal

pub returns-clause-answer : goal.returns-clause-answer
returns-clause-answer c = answers

pub returns-clause-punctuations : goal.returns-clause-punctuations
returns-clause-punctuations c = punctuates

pub returns-clause-lawful : goal.returns-clause-lawful
returns-clause-lawful c = is-lawful

pub returns-clause-sorted : goal.returns-clause-sorted
returns-clause-sorted c = sorted-is-one
