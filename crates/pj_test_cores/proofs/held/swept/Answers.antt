use Rattle.pj_test_cores.proofs.Holding.{sweeps}
use Rattle.pj_test_cores.proofs.held.swept.Goals as goal

pub returns-in-Ok : goal.returns-in-Ok
returns-in-Ok c = sweeps c.args.core.now c.sweep.new.self 2 c.args.input c.in-Ok.count c.in-Ok.ensures.ok
