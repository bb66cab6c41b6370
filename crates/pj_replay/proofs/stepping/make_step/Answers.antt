use Rattle.std.proofs.Common.{arith, inl, refl, subst}
use Rattle.pj_feed.proofs.AllFeeds.{all_same}
use Rattle.pj_feed.proofs.StreamNodes.{count_numbers}
use Rattle.pj_script.specs.declared.step.ScriptStep.TheVariants.{Give, Sweep, Take}
use Rattle.pj_script.specs.Reading.{IsStepOf}
use Rattle.pj_replay.specs.Playing.{Stage, stage}
use Rattle.pj_replay.proofs.Acting.{drain-made, give-stops, sweep-stops, take-stops, work-answers, work-made}
use Rattle.pj_replay.proofs.stepping.make_step.Given.{Over}
use Rattle.pj_replay.proofs.stepping.make_step.Goals.{Start}
use Rattle.pj_replay.proofs.stepping.make_step.Goals as goal

abbrev before : (g : Over) → Start g → Stage
before g c = stage c.args.hand.now c.args.feeds.now.feeds.items c.args.gathered.now (g.K.Sink.state c.args.out.now)

pub arrive-requires-clause-there : goal.arrive-requires-clause-there
arrive-requires-clause-there g c =
    let fits = subst (IsStepOf c.args.hand.now.core.plan.nodes) c.in-Arrive.is c.requires.fits in
    let count = count_numbers c.args.hand.now.core.plan.nodes in
    omega (arith, fits, count)

pub returns-in-Ok-clause-ok : goal.returns-in-Ok-clause-ok
returns-in-Ok-clause-ok g c =
    let a = (goal.at.returns-in-Ok-clause-ok g c).Start in rw c.in-Take.is (work-answers (before g a) c.take.new.self Take tt c.requires.ready c.in-Ok.made c.in-Ok.ensures.ok)

pub returns-in-Err-clause-err : goal.returns-in-Err-clause-err
returns-in-Err-clause-err g c =
    let a = (goal.at.returns-in-Err-clause-err g c).Start in rw (c.in-Take.is, c.run_stop.ensures) (inl (take-stops (before g a) c.take.new.self Take tt c.requires.ready c.in-Err.stop c.in-Err.ensures.err))

pub returns-in-Ok-give-clause-ok : goal.returns-in-Ok-give-clause-ok
returns-in-Ok-give-clause-ok g c =
    let a = (goal.at.returns-in-Ok-give-clause-ok g c).Start in
    rw c.in-Give.is (work-answers (before g a) c.give.new.self (Give c.in-Give.join c.in-Give.ticket) tt c.requires.ready c.in-Ok-give.made c.in-Ok-give.ensures.ok)

pub returns-in-Err-give-clause-err : goal.returns-in-Err-give-clause-err
returns-in-Err-give-clause-err g c =
    let a = (goal.at.returns-in-Err-give-clause-err g c).Start in
    rw (c.in-Give.is, c.run_stop-in-Err-give.ensures) (inl (give-stops (before g a) c.give.new.self c.in-Give.join c.in-Give.ticket c.requires.ready c.in-Err-give.stop c.in-Err-give.ensures.err))

pub returns-in-Ok-sweep-clause-ok : goal.returns-in-Ok-sweep-clause-ok
returns-in-Ok-sweep-clause-ok g c =
    let a = (goal.at.returns-in-Ok-sweep-clause-ok g c).Start in
    rw c.in-Sweep.is (work-made (before g a) c.sweep.new.self (Sweep c.in-Sweep.join c.in-Sweep.input) tt c.requires.ready c.in-Ok-sweep.ensures.ok)

pub returns-in-Err-sweep-clause-err : goal.returns-in-Err-sweep-clause-err
returns-in-Err-sweep-clause-err g c =
    let a = (goal.at.returns-in-Err-sweep-clause-err g c).Start in
    rw (c.in-Sweep.is, c.run_stop-in-Err-sweep.ensures) (inl (sweep-stops (before g a) c.sweep.new.self c.in-Sweep.join c.in-Sweep.input c.requires.ready c.in-Err-sweep.stop c.in-Err-sweep.ensures.err))

pub returns-in-Ok-drain-clause-ok : goal.returns-in-Ok-drain-clause-ok
returns-in-Ok-drain-clause-ok g c =
    let a = (goal.at.returns-in-Ok-drain-clause-ok g c).Start in
    rw c.in-Drain.is
    (drain-made (before g a) c.drain.new.hand (record { results = c.drain.new.results; accepted = c.args.gathered.now.accepted }) (g.K.Sink.state c.drain.new.out) c.requires.ready c.in-Ok-drain.ensures.drained c.in-Ok-drain.ensures.notes refl
    c.in-Ok-drain.ensures.taken c.in-Ok-drain.ensures.lines c.in-Ok-drain.ensures.told c.in-Ok-drain.ensures.later)

pub returns-in-Ok-clause-same : goal.returns-in-Ok-clause-same
returns-in-Ok-clause-same g c = all_same c.args.feeds.now.feeds.items

pub returns-in-Err-clause-same : goal.returns-in-Err-clause-same
returns-in-Err-clause-same g c = all_same c.args.feeds.now.feeds.items

pub returns-in-Ok-give-clause-same : goal.returns-in-Ok-give-clause-same
returns-in-Ok-give-clause-same g c = all_same c.args.feeds.now.feeds.items

pub returns-in-Err-give-clause-same : goal.returns-in-Err-give-clause-same
returns-in-Err-give-clause-same g c = all_same c.args.feeds.now.feeds.items

pub returns-in-Ok-sweep-clause-same : goal.returns-in-Ok-sweep-clause-same
returns-in-Ok-sweep-clause-same g c = all_same c.args.feeds.now.feeds.items

pub returns-in-Err-sweep-clause-same : goal.returns-in-Err-sweep-clause-same
returns-in-Err-sweep-clause-same g c = all_same c.args.feeds.now.feeds.items

pub returns-in-Ok-drain-clause-same : goal.returns-in-Ok-drain-clause-same
returns-in-Ok-drain-clause-same g c = all_same c.args.feeds.now.feeds.items

pub returns-in-Err-drain-clause-same : goal.returns-in-Err-drain-clause-same
returns-in-Err-drain-clause-same g c = all_same c.args.feeds.now.feeds.items
