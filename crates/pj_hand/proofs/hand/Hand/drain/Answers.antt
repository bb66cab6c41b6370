use Rattle.std.proofs.Common.{ap, refl, subst}
use Rattle.pj_events.specs.declared.events.Event.TheVariants.{Drain}
use Rattle.pj_events.specs.OneThread.{plain}
use Rattle.pj_core.specs.Cores.{CoreState}
use Rattle.pj_hand.specs.Hands.{HandState}
use Rattle.pj_hand.specs.Steps.{HandNotes}
use Rattle.pj_hand.proofs.Standing.{notes-drain}
use Rattle.pj_hand.proofs.hand.Hand.drain.Goals as goal

pub returns-clause-notes : goal.returns-clause-notes
returns-clause-notes c =
    let old : HandState = record { core = c.self.inside.core; taken = c.self.inside.taken.probes } in
    let new : HandState = record { core = c.drain.new.self; taken = c.self.inside.taken.probes } in
    subst (λ (h : HandState). HandNotes h new (plain Drain)) c.self.view_is
    (notes-drain old new c.self.invariant.sound refl (ap (λ (s : CoreState). s.kept.stop) c.drain.ensures.left) c.drain.ensures.notes)
