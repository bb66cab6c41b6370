use Rattle.std.proofs.Common.{◌≡◌, ◌∙◌, Some, arith, refl, subst, sym}
use Rattle.std.specs.List.{slice_get}
use Rattle.pj_feed.proofs.AllFeeds.{all_same, feeds_long, one_of}
use Rattle.pj_feed.proofs.Answered.{if_err}
use Rattle.pj_plan.specs.Nodes.{streams_in}
use Rattle.pj_script.specs.declared.step.ScriptStep.TheVariants.{Arrive}
use Rattle.pj_replay.specs.Playing.{Stage, StepStops, stage}
use Rattle.pj_replay.proofs.Made.{arrival-over, arrives-made, core-stops, ended, feed-stops, get-there, memory-stops, next-same, stops-now, there, turn-of}
use Rattle.pj_replay.proofs.arriving.arrive.Given.{Over}
use Rattle.pj_replay.proofs.arriving.arrive.Goals.{After-index}
use Rattle.pj_replay.proofs.arriving.arrive.Goals as goal

abbrev before : (g : Over) → After-index g → Stage
before g c = stage c.args.hand.now c.args.feeds.now.feeds.items c.args.gathered.now (g.K.Sink.state c.args.out.now)

here : (g : Over) (c : After-index g) → slice_get c.args.feeds.now.feeds.items c.args.stream ≡ Some c.index.result.now
here g c =
    get-there c.args.feeds.now.feeds.items c.args.stream c.index.result.now
    (let l = feeds_long 0 (streams_in c.args.hand.now.core.plan.nodes) c.args.feeds.now.feeds.items c.requires.ready.fed in omega (arith, l, c.requires.there)) c.index.ensures

pub index-requires : goal.index-requires
index-requires g c = let l = feeds_long 0 (streams_in c.args.hand.now.core.plan.nodes) c.args.feeds.now.feeds.items c.requires.ready.fed in omega (arith, l, c.requires.there)

pub returns-then-not-is_open-clause-ok : goal.returns-then-not-is_open-clause-ok
returns-then-not-is_open-clause-ok g c =
    let a = (goal.at.returns-then-not-is_open-clause-ok g c).After-index in
    ended (before g a) c.args.stream c.index.result.now c.requires.ready (here g a) (sym c.is_open.ensures ∙ c.if-not-is_open.true)

pub next_at-requires : goal.next_at-requires
next_at-requires g c =
    let a = (goal.at.next_at-requires g c).After-index in
    let streams = streams_in c.args.hand.now.core.plan.nodes in
    record { «open» = record { feed = c.index.result.now; is = here g a; fed = (one_of 0 streams c.args.feeds.now.feeds.items c.args.stream c.index.result.now c.requires.ready.fed (here g a)).fed; still = sym c.is_open.ensures ∙ c.if-not-is_open.false } }

pub returns-in_err-next-clause-err : goal.returns-in_err-next-clause-err
returns-in_err-next-clause-err g c =
    let a = (goal.at.returns-in_err-next-clause-err g c).After-index in
    if_err (λ stop. StepStops stop (before g a) (stage c.args.hand.now c.next_at.new.feeds.feeds.items c.args.gathered.now (g.K.Sink.state c.next_at.new.out)) (Arrive c.args.stream)) c.from_residual.result _ c.from_residual.ensures.1
    (feed-stops (before g a) c.next_at.new.feeds.feeds.items (g.K.Sink.state c.next_at.new.out) c.args.stream c.in_err-next.field-0.0 c.in_err-next.ensures.err c.in_err-next.ensures.written)

pub keep-requires : goal.keep-requires
keep-requires g c =
    let a = (goal.at.keep-requires g c).After-index in
    record { there = there (before g a) c.args.hand.now c.next_at.new.feeds.feeds.items c.args.gathered.now (g.K.Sink.state c.next_at.new.out) c.args.stream c.in_ok-next.next c.requires.ready c.in_ok-next.ensures.ok }

pub returns-in_err-keep-clause-err : goal.returns-in_err-keep-clause-err
returns-in_err-keep-clause-err g c =
    let a = (goal.at.returns-in_err-keep-clause-err g c).After-index in
    if_err (λ stop. StepStops stop (before g a) (stage c.args.hand.now c.next_at.new.feeds.feeds.items (record { results = c.args.gathered.now.results; accepted = c.keep.new.self }) (g.K.Sink.state c.next_at.new.out)) (Arrive c.args.stream)) c.from_residual-in_err-keep.result _ c.from_residual-in_err-keep.ensures.1
    (memory-stops (before g a) (stage c.args.hand.now c.next_at.new.feeds.feeds.items (record { results = c.args.gathered.now.results; accepted = c.keep.new.self }) (g.K.Sink.state c.next_at.new.out)) (Arrive c.args.stream)
    refl refl (next-same c.args.feeds.now.feeds.items c.next_at.new.feeds.feeds.items c.args.stream c.in_ok-next.next c.in_ok-next.ensures.ok) c.in_ok-next.ensures.written)

pub enter-requires : goal.enter-requires
enter-requires g c =
    let a = (goal.at.enter-requires g c).After-index in
    turn-of (before g a) c.args.hand.now c.next_at.new.feeds.feeds.items c.args.gathered.now (g.K.Sink.state c.next_at.new.out) c.args.stream c.in_ok-next.next c.requires.ready c.in_ok-next.ensures.ok

pub returns-in-Ok-clause-ok : goal.returns-in-Ok-clause-ok
returns-in-Ok-clause-ok g c =
    let a = (goal.at.returns-in-Ok-clause-ok g c).After-index in
    arrives-made (before g a) c.enter.new.hand c.next_at.new.feeds.feeds.items (record { results = c.args.gathered.now.results; accepted = c.keep.new.self }) (g.K.Sink.state c.next_at.new.out) c.args.stream c.in_ok-next.next c.requires.ready c.in_ok-next.ensures.ok
    c.in-Ok.ensures.ok refl c.in_ok-keep.ensures.asked c.in_ok-keep.ensures.many c.in_ok-keep.ensures.kept c.in_ok-next.ensures.written

pub returns-in-Err-clause-err : goal.returns-in-Err-clause-err
returns-in-Err-clause-err g c =
    let a = (goal.at.returns-in-Err-clause-err g c).After-index in
    let now = stage c.enter.new.hand c.next_at.new.feeds.feeds.items (record { results = c.args.gathered.now.results; accepted = c.keep.new.self }) (g.K.Sink.state c.next_at.new.out) in
    let s = stops-now _ c.args.hand.now c.enter.new.hand c.in-Err.stop _ c.requires.ready.on c.in-Err.ensures.err in
    subst (λ stop. StepStops stop (before g a) now (Arrive c.args.stream)) (sym c.run_stop.ensures)
    (core-stops (before g a) now (Arrive c.args.stream) c.in-Err.stop s.0 refl (next-same c.args.feeds.now.feeds.items c.next_at.new.feeds.feeds.items c.args.stream c.in_ok-next.next c.in_ok-next.ensures.ok) c.in_ok-next.ensures.written
    (arrival-over (before g a) c.next_at.new.feeds.feeds.items c.args.stream c.in_ok-next.next c.in_ok-next.ensures.ok c.in-Err.stop s.1))

pub returns-then-not-is_open-clause-same : goal.returns-then-not-is_open-clause-same
returns-then-not-is_open-clause-same g c = all_same c.args.feeds.now.feeds.items

pub returns-in_err-keep-clause-same : goal.returns-in_err-keep-clause-same
returns-in_err-keep-clause-same g c = next-same c.args.feeds.now.feeds.items c.next_at.new.feeds.feeds.items c.args.stream c.in_ok-next.next c.in_ok-next.ensures.ok

pub returns-in-Ok-clause-same : goal.returns-in-Ok-clause-same
returns-in-Ok-clause-same g c = next-same c.args.feeds.now.feeds.items c.next_at.new.feeds.feeds.items c.args.stream c.in_ok-next.next c.in_ok-next.ensures.ok

pub returns-in-Err-clause-same : goal.returns-in-Err-clause-same
returns-in-Err-clause-same g c = next-same c.args.feeds.now.feeds.items c.next_at.new.feeds.feeds.items c.args.stream c.in_ok-next.next c.in_ok-next.ensures.ok
