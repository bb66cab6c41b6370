use Rattle.pj_join_laws.proofs.Complete.{hands_up-all_rows, hands_up-all_puncts}
use Rattle.pj_join_laws.proofs.join_laws.completeness.Goals as goal

pub returns-clause-rows : goal.returns-clause-rows
returns-clause-rows c = hands_up-all_rows

pub returns-clause-puncts : goal.returns-clause-puncts
returns-clause-puncts c = hands_up-all_puncts
