use Rattle.std.proofs.Common.{ap, inr, subst, ◌≡◌, ◌⊎◌, ◌∙◌}
use Rattle.pj_events.specs.declared.events.Stop.TheVariants.{NoMemory}
use Rattle.pj_script.specs.declared.step.ScriptStep.TheVariants.{Take}
use Rattle.pj_hand.specs.Hands.{HandState}
use Rattle.pj_hand.specs.Held.{put_in}
use Rattle.pj_hand.specs.Steps.{IsHandRefused, LacksMemory, MakesStep, SkipsStep}
use Rattle.pj_hand.proofs.Standing.{take-refused, takes, takes-none}
use Rattle.pj_hand.proofs.hand.Hand.take.Goals as goal

pub returns-in-Ok-Some-clause-ok : goal.returns-in-Ok-Some-clause-ok
returns-in-Ok-Some-clause-ok c =
    let old : HandState = record { core = c.self.inside.core; taken = c.self.inside.taken.probes } in
    let new : HandState = record { core = c.take.new.self; taken = c.hold.new.self.probes } in
    subst (λ (h : HandState). MakesStep h new Take) c.self.view_is
    (takes old new c.in-Ok-Some.probe c.self.invariant.sound c.in-Ok-Some.ensures.on (rw c.in-Ok-Some.field-0-is at c.in-Ok-Some.ensures.ok)
    (c.hold.ensures ∙ ap (put_in c.in-Ok-Some.probe) c.make_room.ensures.same))

pub returns-in-Ok-None-clause-ok : goal.returns-in-Ok-None-clause-ok
returns-in-Ok-None-clause-ok c =
    let old : HandState = record { core = c.self.inside.core; taken = c.self.inside.taken.probes } in
    let new : HandState = record { core = c.take.new.self; taken = c.make_room.new.self.probes } in
    subst (λ (h : HandState). SkipsStep h new Take) c.self.view_is
    (takes-none old new c.in-Ok-None.ensures.on c.make_room.ensures.same (rw c.in-Ok-None.field-0-is at c.in-Ok-None.ensures.ok))

pub returns-in-Err-take-clause-err : goal.returns-in-Err-take-clause-err
returns-in-Err-take-clause-err c =
    let old : HandState = record { core = c.self.inside.core; taken = c.self.inside.taken.probes } in
    let new : HandState = record { core = c.take.new.self; taken = c.make_room.new.self.probes } in
    subst (λ (h : HandState). LacksMemory h new c.in-Err-take.stop ⊎ IsHandRefused h.core.kept.stop h new c.in-Err-take.stop (c.in-Err-take.stop ≡ NoMemory)) c.self.view_is
    (inr (take-refused old new c.in-Err-take.stop c.make_room.ensures.same c.in-Err-take.ensures.err))
