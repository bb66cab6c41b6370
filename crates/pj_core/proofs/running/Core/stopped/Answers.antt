use Rattle.std.proofs.Common.{reverse}
use Rattle.pj_core.specs.Plans.{run_plan}
use Rattle.pj_core.proofs.Words.{stays-where}
use Rattle.pj_core.proofs.running.Core.stopped.Goals as goal

pub returns-clause-again : goal.returns-clause-again
returns-clause-again c =
    stays-where (run_plan c.self.inside.plan.nodes c.self.inside.certs c.self.inside.trace) c.self.inside.limit c.self.inside.operators.items (reverse c.self.inside.closed) c.self.inside.halted c.self.inside.undrained c.self.inside.stop c.args.self.now c.self.view_is c.self.invariant
