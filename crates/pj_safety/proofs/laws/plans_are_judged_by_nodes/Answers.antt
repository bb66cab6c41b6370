use Rattle.pj_safety.proofs.Joins.{judged_by_nodes}
use Rattle.pj_safety.proofs.Risks.{risk_is_alone, risk_is_unsafe}
use Rattle.pj_safety.proofs.laws.plans_are_judged_by_nodes.Goals as goal

pub returns-clause-joins : goal.returns-clause-joins
returns-clause-joins c = judged_by_nodes

pub returns-clause-at_risk : goal.returns-clause-at_risk
returns-clause-at_risk c = risk_is_unsafe

pub returns-clause-alone : goal.returns-clause-alone
returns-clause-alone c = risk_is_alone
