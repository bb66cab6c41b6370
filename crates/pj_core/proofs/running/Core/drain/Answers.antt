use Rattle.std.proofs.Common.{reverse, subst, sym, ◌∙◌}
use Rattle.pj_events.specs.declared.events.Event.TheVariants.{Drain}
use Rattle.pj_events.specs.OneThread.{plain}
use Rattle.pj_core.specs.Cores.{Notes}
use Rattle.pj_core.specs.Parts.{core_of}
use Rattle.pj_core.specs.Plans.{run_plan}
use Rattle.pj_core.proofs.Words.{drains-now}
use Rattle.pj_core.proofs.running.Core.drain.Goals as goal

pub returns-clause-notes : goal.returns-clause-notes
returns-clause-notes c =
    subst (λ u. Notes c.args.self.now (core_of (run_plan c.self.inside.plan.nodes c.self.inside.certs c.self.inside.trace) c.self.inside.limit c.self.inside.operators.items (reverse c.self.inside.closed) c.self.inside.halted u c.self.inside.stop) (plain Drain))
    (sym (c.replace.ensures.after ∙ c.new-empty.ensures))
    (drains-now (run_plan c.self.inside.plan.nodes c.self.inside.certs c.self.inside.trace) c.self.inside.limit c.self.inside.operators.items (reverse c.self.inside.closed) c.self.inside.halted c.self.inside.undrained c.self.inside.stop c.args.self.now c.self.view_is c.self.invariant)
