use Rattle.std.proofs.Common.{reverse}
use Rattle.pj_core.specs.Plans.{run_plan}
use Rattle.pj_core.proofs.Words.{refused-again}
use Rattle.pj_core.proofs.running.Core.sweep.Goals as goal

pub returns-in-Some-clause-err : goal.returns-in-Some-clause-err
returns-in-Some-clause-err c = refused-again (run_plan c.self.inside.plan.nodes c.self.inside.certs c.self.inside.trace) c.self.inside.limit c.self.inside.operators.items (reverse c.self.inside.closed) c.self.inside.halted c.self.inside.undrained c.self.inside.stop c.args.self.now c.self.view_is c.self.invariant c.in-Some.stop _ c.in-Some.is
