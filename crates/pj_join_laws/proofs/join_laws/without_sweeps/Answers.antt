use Rattle.pj_join_laws.proofs.NoSweeps.{never-swept, all-is-stored}
use Rattle.pj_join_laws.proofs.join_laws.without_sweeps.Goals as goal

pub returns-clause-never_swept : goal.returns-clause-never_swept
returns-clause-never_swept c = never-swept

pub returns-clause-all_is_stored : goal.returns-clause-all_is_stored
returns-clause-all_is_stored c = all-is-stored
