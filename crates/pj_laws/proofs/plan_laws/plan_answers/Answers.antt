use Rattle.pj_laws.proofs.WholeAnswers.{rows-are-answers}
use Rattle.pj_laws.proofs.plan_laws.plan_answers.Goals as goal

pub returns : goal.returns
returns c = rows-are-answers
