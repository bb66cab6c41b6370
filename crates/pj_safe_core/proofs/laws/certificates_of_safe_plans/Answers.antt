use Rattle.pj_safe_core.proofs.Certified.{run_certified}
use Rattle.pj_safe_core.proofs.laws.certificates_of_safe_plans.Goals as goal

pub returns : goal.returns
returns c = λ nodes trace sound found. run_certified nodes trace sound found
