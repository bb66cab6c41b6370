use Rattle.pj_laws.proofs.Retract.{never-retracts}
use Rattle.pj_laws.proofs.history_laws.never_retracted.Goals as goal

pub returns : goal.returns
returns c = never-retracts
