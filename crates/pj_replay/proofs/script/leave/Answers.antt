use Rattle.std.proofs.Common.{◌∙◌, refl, subst, sym}
use Rattle.pj_replay.specs.Playing.{stage}
use Rattle.pj_replay.specs.Plays.{StopsReplay}
use Rattle.pj_replay.proofs.Leaving.{drained-stops, over-stops}
use Rattle.pj_replay.proofs.script.leave.Goals as goal

pub returns-then-is_over-clause-stops : goal.returns-then-is_over-clause-stops
returns-then-is_over-clause-stops g c = λ run feeds k. over-stops c.args.stop run (stage c.args.hand.now feeds c.args.gathered.now (g.K.Sink.state c.args.out.now)) (sym c.is_over.ensures ∙ c.if-is_over.true) k

pub returns-clause-stops : goal.returns-clause-stops
returns-clause-stops g c = λ run feeds k.
    let d = c.drain-written.ensures in
    subst (λ stop. StopsReplay stop run feeds (g.K.Sink.state c.drain-written.new.out)) (sym c.left_by.ensures)
    (drained-stops run (stage c.args.hand.now feeds c.args.gathered.now (g.K.Sink.state c.args.out.now)) (g.K.Sink.state c.drain-written.new.out) c.drain-written.result d.told d.later d.fault d.lines
    c.args.stop (sym c.is_over.ensures ∙ c.if-is_over.false) k c.drain-written.result refl)

pub returns-clause-plan : goal.returns-clause-plan
returns-clause-plan g c = c.drain-written.ensures.notes.plan
