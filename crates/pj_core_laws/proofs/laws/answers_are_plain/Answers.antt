use Rattle.pj_core_laws.proofs.PlainAnswers.{answers-are-plain, counted-are-plain, counts-are-plain, punctuations-are-plain}
use Rattle.pj_core_laws.proofs.laws.answers_are_plain.Goals as goal

pub returns-clause-rows : goal.returns-clause-rows
returns-clause-rows c = answers-are-plain

pub returns-clause-punctuations : goal.returns-clause-punctuations
returns-clause-punctuations c = punctuations-are-plain

pub returns-clause-counts : goal.returns-clause-counts
returns-clause-counts c = counts-are-plain

pub returns-clause-counted : goal.returns-clause-counted
returns-clause-counted c = counted-are-plain
