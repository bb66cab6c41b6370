use Rattle.std.proofs.Common.{Some, subst, sym}
use Rattle.pj_probe.specs.declared.probe.Found.{Found}
use Rattle.pj_core.specs.Calls.{FitNode}
use Rattle.pj_hand.specs.Hands.{HandState, StandsForOne}
use Rattle.pj_hand.specs.Held.{IsDrawn}
use Rattle.pj_hand.proofs.Standing.{fits-node, found-in, is-open}
use Rattle.pj_hand.proofs.hand.Hand.give_one.Goals as goal

pub give-requires-clause-open : goal.give-requires-clause-open
give-requires-clause-open c = λ on.
    let old : HandState = record { core = c.self.inside.core; taken = c.self.inside.taken.probes } in
    let probe : Found = c.in-Ok-Some.probe in
    let drawn : IsDrawn (Some (probe, c.in-Ok-Some.found)) old.taken c.args.join c.args.ticket c.draw.new.self.probes = rw c.in-Ok-Some.field-0-is at c.in-Ok-Some.ensures.ok in
    is-open old c.self.invariant.sound on (subst StandsForOne (sym c.self.view_is) c.requires.stands) probe (found-in old.taken c.args.join c.args.ticket probe drawn.0)

pub give-requires-clause-fits : goal.give-requires-clause-fits
give-requires-clause-fits c = λ on.
    let old : HandState = record { core = c.self.inside.core; taken = c.self.inside.taken.probes } in
    let probe : Found = c.in-Ok-Some.probe in
    let drawn : IsDrawn (Some (probe, c.in-Ok-Some.found)) old.taken c.args.join c.args.ticket c.draw.new.self.probes = rw c.in-Ok-Some.field-0-is at c.in-Ok-Some.ensures.ok in
    subst (λ (f : Found). FitNode old.core probe.join f.rows) (sym drawn.1)
    (fits-node old c.self.invariant.sound on (subst StandsForOne (sym c.self.view_is) c.requires.stands) probe (found-in old.taken c.args.join c.args.ticket probe drawn.0))
