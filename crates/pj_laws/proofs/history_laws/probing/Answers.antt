use Rattle.pj_laws.proofs.NextProbe.{probes-go-on, none-is-pending}
use Rattle.pj_laws.proofs.history_laws.probing.Goals as goal

pub returns-clause-go_on : goal.returns-clause-go_on
returns-clause-go_on c = probes-go-on

pub returns-clause-pending : goal.returns-clause-pending
returns-clause-pending c = none-is-pending
