use Rattle.pj_laws.proofs.Settled.{complete-answers}
use Rattle.pj_laws.proofs.plan_laws.complete_answers.Goals as goal

pub returns : goal.returns
returns c = complete-answers
