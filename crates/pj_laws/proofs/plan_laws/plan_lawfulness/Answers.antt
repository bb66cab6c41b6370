use Rattle.pj_laws.proofs.Whole.{plan-lawful}
use Rattle.pj_laws.proofs.plan_laws.plan_lawfulness.Goals as goal

pub returns : goal.returns
returns c = plan-lawful
