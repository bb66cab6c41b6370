use Rattle.std.proofs.Common.{refl, subst}
use Rattle.pj_events.specs.declared.events.Event.TheVariants.{Sweep as Swept}
use Rattle.pj_script.specs.declared.step.ScriptStep.TheVariants.{Sweep}
use Rattle.pj_hand.specs.Hands.{HandState}
use Rattle.pj_hand.specs.Steps.{IsEventRefused, MakesStep}
use Rattle.pj_hand.proofs.Standing.{refused, sweeps}
use Rattle.pj_hand.proofs.hand.Hand.sweep.Goals as goal

pub returns-in-Ok-clause-ok : goal.returns-in-Ok-clause-ok
returns-in-Ok-clause-ok c =
    let old : HandState = record { core = c.self.inside.core; taken = c.self.inside.taken.probes } in
    let new : HandState = record { core = c.sweep.new.self; taken = c.self.inside.taken.probes } in
    subst (λ (h : HandState). MakesStep h new (Sweep c.args.join c.args.input)) c.self.view_is
    (sweeps old new c.args.join c.args.input c.in-Ok.field-0 c.self.invariant.sound refl c.in-Ok.ensures.ok)

pub returns-in-Err-clause-err : goal.returns-in-Err-clause-err
returns-in-Err-clause-err c =
    let old : HandState = record { core = c.self.inside.core; taken = c.self.inside.taken.probes } in
    let new : HandState = record { core = c.sweep.new.self; taken = c.self.inside.taken.probes } in
    subst (λ (h : HandState). IsEventRefused h new (Swept c.args.join c.args.input) c.in-Err.stop) c.self.view_is
    (refused old new (Swept c.args.join c.args.input) c.in-Err.stop refl c.in-Err.ensures.err)
