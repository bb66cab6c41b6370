use Rattle.std.proofs.Common.{reverse}
use Rattle.pj_core.specs.Plans.{run_plan}
use Rattle.pj_core.proofs.Words.{halts-now}
use Rattle.pj_core.proofs.running.Core.halt.Goals as goal

pub returns-clause-notes : goal.returns-clause-notes
returns-clause-notes c =
    halts-now (run_plan c.self.inside.plan.nodes c.self.inside.certs c.self.inside.trace) c.self.inside.limit c.self.inside.operators.items (reverse c.self.inside.closed) c.self.inside.halted c.self.inside.undrained c.self.inside.stop c.args.self.now c.self.view_is c.self.invariant
