use Rattle.pj_scheme.proofs.Few.{schemes_few}
use Rattle.pj_scheme.proofs.Wide.{nodes_fit, joins_fit}
use Rattle.pj_scheme.proofs.derive.schemes_fit.Goals as goal

pub returns-clause-nodes : goal.returns-clause-nodes
returns-clause-nodes c = nodes_fit

pub returns-clause-inputs : goal.returns-clause-inputs
returns-clause-inputs c = joins_fit

pub returns-clause-few : goal.returns-clause-few
returns-clause-few c = schemes_few
