use Rattle.pj_laws.proofs.Reaching.{limits-tell}
use Rattle.pj_laws.proofs.limits_laws.limits_tell.Goals as goal

pub returns : goal.returns
returns c = limits-tell
