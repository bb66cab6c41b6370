use Rattle.std.proofs.Common.{refl, subst}
use Rattle.pj_events.specs.declared.events.Event.TheVariants.{Arrive}
use Rattle.pj_events.specs.OneThread.{arrival_of}
use Rattle.pj_core.specs.Calls.{closing_of}
use Rattle.pj_hand.specs.Hands.{HandState}
use Rattle.pj_hand.specs.Steps.{HandArrives, IsEventRefused}
use Rattle.pj_hand.proofs.Standing.{arrives, refused}
use Rattle.pj_hand.proofs.hand.Hand.close_stream.Goals as goal

pub returns-in-Ok-clause-ok : goal.returns-in-Ok-clause-ok
returns-in-Ok-clause-ok c =
    let old : HandState = record { core = c.self.inside.core; taken = c.self.inside.taken.probes } in
    let new : HandState = record { core = c.close_stream.new.self; taken = c.self.inside.taken.probes } in
    subst (λ (h : HandState). HandArrives h new (arrival_of (closing_of h.core c.args.stream))) c.self.view_is
    (arrives old new (arrival_of (closing_of old.core c.args.stream)) c.self.invariant.sound refl (λ n u b. refl) c.in-Ok.ensures.ok)

pub returns-in-Err-clause-err : goal.returns-in-Err-clause-err
returns-in-Err-clause-err c =
    let old : HandState = record { core = c.self.inside.core; taken = c.self.inside.taken.probes } in
    let new : HandState = record { core = c.close_stream.new.self; taken = c.self.inside.taken.probes } in
    subst (λ (h : HandState). IsEventRefused h new (Arrive c.args.stream (closing_of h.core c.args.stream).element) c.in-Err.stop) c.self.view_is
    (refused old new (Arrive c.args.stream (closing_of old.core c.args.stream).element) c.in-Err.stop refl c.in-Err.ensures.err)
