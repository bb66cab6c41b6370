use Rattle.std.proofs.Common.{refl, subst}
use Rattle.pj_events.specs.declared.events.Event.TheVariants.{Arrive}
use Rattle.pj_events.specs.OneThread.{arrival_of}
use Rattle.pj_core.specs.Calls.{arriving_of}
use Rattle.pj_hand.specs.Hands.{HandState}
use Rattle.pj_hand.specs.Steps.{HandArrives, IsEventRefused}
use Rattle.pj_hand.proofs.Standing.{arrives, refused}
use Rattle.pj_hand.proofs.hand.Hand.arrive.Goals as goal

pub returns-in-Ok-clause-ok : goal.returns-in-Ok-clause-ok
returns-in-Ok-clause-ok c =
    let old : HandState = record { core = c.self.inside.core; taken = c.self.inside.taken.probes } in
    let new : HandState = record { core = c.arrive.new.self; taken = c.self.inside.taken.probes } in
    let entry = arrival_of (arriving_of c.args.stream c.args.element) in
    subst (λ (h : HandState). HandArrives h new entry) c.self.view_is (arrives old new entry c.self.invariant.sound refl (λ n u b. refl) c.in-Ok.ensures.ok)

pub returns-in-Err-clause-err : goal.returns-in-Err-clause-err
returns-in-Err-clause-err c =
    let old : HandState = record { core = c.self.inside.core; taken = c.self.inside.taken.probes } in
    let new : HandState = record { core = c.arrive.new.self; taken = c.self.inside.taken.probes } in
    subst (λ (h : HandState). IsEventRefused h new (Arrive c.args.stream c.args.element) c.in-Err.stop) c.self.view_is
    (refused old new (Arrive c.args.stream c.args.element) c.in-Err.stop refl c.in-Err.ensures.err)
