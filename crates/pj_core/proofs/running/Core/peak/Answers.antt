use Rattle.std.proofs.Common.{reverse, arith}
use Rattle.pj_core.specs.Plans.{run_plan}
use Rattle.pj_core.proofs.Words.{is-peak-now, peak-there}
use Rattle.pj_core.proofs.running.Core.peak.Goals as goal

pub index-operator-requires : goal.index-operator-requires
index-operator-requires c = let l = peak-there (run_plan c.self.inside.plan.nodes c.self.inside.certs c.self.inside.trace) c.self.inside.limit c.self.inside.operators.items (reverse c.self.inside.closed) c.self.inside.halted c.self.inside.undrained c.self.inside.stop c.args.self.now c.self.view_is c.self.invariant c.args.join c.requires in omega (arith, l, c.self.inside.operators.ok.0)

pub returns : goal.returns
returns c = is-peak-now (run_plan c.self.inside.plan.nodes c.self.inside.certs c.self.inside.trace) c.self.inside.limit c.self.inside.operators.items (reverse c.self.inside.closed) c.self.inside.halted c.self.inside.undrained c.self.inside.stop c.args.self.now c.self.view_is c.self.invariant c.args.join c.index-operator.result.now c.stored.result c.requires c.index-operator.ensures c.stored.ensures c.max.result c.max.ensures
