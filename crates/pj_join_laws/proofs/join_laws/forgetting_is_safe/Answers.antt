use Rattle.pj_join_laws.proofs.Sound.{never-needed}
use Rattle.pj_join_laws.proofs.Results.{stored-suffice}
use Rattle.pj_join_laws.proofs.join_laws.forgetting_is_safe.Goals as goal

pub returns-clause-never_needed : goal.returns-clause-never_needed
returns-clause-never_needed c = never-needed

pub returns-clause-stored_suffice : goal.returns-clause-stored_suffice
returns-clause-stored_suffice c = stored-suffice
