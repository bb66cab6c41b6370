use Rattle.std.proofs.Common.{◌≤◌, ◌∙◌, arith, length, vec_capacity, IfErr, IfOk, OnOk, List, Result, refl, sym, ap, subst}
use Rattle.pj_feed.specs.Feeds.{AreAllTaken, AreSameFeeds, FeedState}
use Rattle.pj_feed.proofs.AllFeeds.{all_same}
use Rattle.pj_run.specs.declared.stops.RunStop.{RunStop}
use Rattle.pj_run.specs.Cuts.{run_cut}
use Rattle.pj_run.specs.Runs.{job_in}
use Rattle.pj_run.specs.Whole.{WritesWhole}
use Rattle.pj_roster.specs.Dismissed.{feeds_in, rows_in}
use Rattle.pj_parallel.specs.declared.run.Settled.{Settled}
use Rattle.pj_parallel.specs.Causes.{StopCause}
use Rattle.pj_parallel.specs.Concluding.{Gathers}
use Rattle.pj_parallel.specs.Parallel.{IsStopped}
use Rattle.pj_parallel.proofs.Running.{ended-short, ended-well, feeds-long, few-feeds, handed-feeds, may-begin, nothing-done, nothing-written, rows-long, same-all, same-plan, stays-on, still-on, stop-cause, taken-all, taken-in-form, whole-lines}
use Rattle.pj_parallel.proofs.run.run_parallel.Goals as goal

pub enroll-requires-clause-few : goal.enroll-requires-clause-few
enroll-requires-clause-few g c = few-feeds c.args.writing c.args.core c.requires.fresh c.args.plan.now.nodes c.requires.plan c.args.feeds.items c.requires.feeds

pub run_crew-requires-clause-may : goal.run_crew-requires-clause-may
run_crew-requires-clause-may g c κs within = may-begin c.args.writing c.args.core c.requires.fresh c.args.plan.now.nodes c.requires.plan c.args.feeds.items c.requires.feeds c.in-Ok.field-0.duties.items c.in-Ok.ensures.assigned c.requires.none

pub conclude-requires-clause-feeds : goal.conclude-requires-clause-feeds
conclude-requires-clause-feeds g c =
    let long = feeds-long c.args.writing c.args.core c.requires.fresh c.args.plan.now.nodes c.requires.plan c.args.feeds.items c.requires.feeds c.in-Ok.field-0.duties.items c.in-Ok.ensures.assigned c.new-results.result c.new-results.ensures _ _ c.in-Ok-run_crew.ended c.in-Ok-run_crew.ensures.run in
    omega (arith, long, c.in-Ok.ensures.room.0)

pub conclude-requires-clause-rows : goal.conclude-requires-clause-rows
conclude-requires-clause-rows g c =
    let long = rows-long c.args.writing c.args.core c.requires.fresh c.args.plan.now.nodes c.requires.plan c.args.feeds.items c.requires.feeds c.in-Ok.field-0.duties.items c.in-Ok.ensures.assigned c.new-results.result c.new-results.ensures _ _ c.in-Ok-run_crew.ended c.in-Ok-run_crew.ensures.run in
    omega (arith, long, c.in-Ok.ensures.room.1)

pub conclude-requires-clause-on : goal.conclude-requires-clause-on
conclude-requires-clause-on g c = stays-on c.args.writing c.args.core c.requires.fresh c.args.plan.now.nodes c.requires.plan c.args.feeds.items c.requires.feeds c.in-Ok.field-0.duties.items c.in-Ok.ensures.assigned c.new-results.result c.new-results.ensures _ _ c.in-Ok-run_crew.ended c.in-Ok-run_crew.ensures.run

pub disband-requires-clause-feeds : goal.disband-requires-clause-feeds
disband-requires-clause-feeds g c =
    let handed = handed-feeds c.args.plan.now.nodes c.args.writing.check c.args.feeds.items c.in-Ok.field-0.duties.items c.in-Ok.ensures.assigned in
    subst (λ ds. length (feeds_in ds) ≤ vec_capacity c.in-Ok.field-0.room) (sym c.in-Err-run_crew.ensures.refused.0) (omega (arith, ap length handed.0, c.in-Ok.ensures.room.0))

pub disband-requires-clause-rows : goal.disband-requires-clause-rows
disband-requires-clause-rows g c =
    let handed = handed-feeds c.args.plan.now.nodes c.args.writing.check c.args.feeds.items c.in-Ok.field-0.duties.items c.in-Ok.ensures.assigned in
    subst (λ ds. length (rows_in ds) ≤ vec_capacity c.in-Ok.field-0.rows) (sym c.in-Err-run_crew.ensures.refused.0) (omega (arith, handed.1, c.in-Ok.ensures.room.1))

pub returns-in-Ok-run_crew-clause-same : goal.returns-in-Ok-run_crew-clause-same
returns-in-Ok-run_crew-clause-same g c =
    subst (AreSameFeeds c.args.feeds.items) (sym c.conclude.ensures.feeds)
    (same-all c.args.writing c.args.core c.requires.fresh c.args.plan.now.nodes c.requires.plan c.args.feeds.items c.requires.feeds c.in-Ok.field-0.duties.items c.in-Ok.ensures.assigned c.new-results.result c.new-results.ensures _ _ c.in-Ok-run_crew.ended c.in-Ok-run_crew.ensures.run)

pub returns-in-Ok-run_crew-clause-done : goal.returns-in-Ok-run_crew-clause-done
returns-in-Ok-run_crew-clause-done g c = λ told.
    subst (λ (news : List FeedState). IfOk c.conclude.result.ended (Gathers (job_in c.args.writing c.args.core) c.args.feeds.items news (g.K.Sink.state c.args.out.now) (g.K.Sink.state c.conclude.new.out))) (sym c.conclude.ensures.feeds)
    (ended-well c.args.writing c.args.core c.requires.fresh c.args.plan.now.nodes c.requires.plan c.args.feeds.items c.requires.feeds c.in-Ok.field-0.duties.items c.in-Ok.ensures.assigned c.new-results.result c.new-results.ensures _ _ c.in-Ok-run_crew.ended c.in-Ok-run_crew.ensures.run
    told (g.K.Sink.state c.conclude.new.out) c.conclude.ensures.told c.conclude.result.ended c.conclude.ensures.concludes)

pub returns-in-Ok-run_crew-clause-stops : goal.returns-in-Ok-run_crew-clause-stops
returns-in-Ok-run_crew-clause-stops g c = λ told.
    subst (λ (news : List FeedState). IfErr c.conclude.result.ended (λ stop. IsStopped (job_in c.args.writing c.args.core) c.args.feeds.items news stop (g.K.Sink.state c.args.out.now) (g.K.Sink.state c.conclude.new.out))) (sym c.conclude.ensures.feeds)
    (ended-short c.args.writing c.args.core c.requires.fresh c.args.plan.now.nodes c.requires.plan c.args.feeds.items c.requires.feeds c.in-Ok.field-0.duties.items c.in-Ok.ensures.assigned c.new-results.result c.new-results.ensures _ _ c.in-Ok-run_crew.ended c.in-Ok-run_crew.ensures.run
    told (g.K.Sink.state c.conclude.new.out) c.conclude.ensures.told c.conclude.result.ended c.conclude.ensures.concludes)

pub returns-in-Err-run_crew-clause-same : goal.returns-in-Err-run_crew-clause-same
returns-in-Err-run_crew-clause-same g c =
    let handed = handed-feeds c.args.plan.now.nodes c.args.writing.check c.args.feeds.items c.in-Ok.field-0.duties.items c.in-Ok.ensures.assigned in
    subst (AreSameFeeds c.args.feeds.items) (sym (c.stopped.ensures.feeds ∙ c.disband.ensures ∙ (ap (λ ds. feeds_in ds) c.in-Err-run_crew.ensures.refused.0 ∙ handed.0))) (all_same c.args.feeds.items)

pub returns-in-Err-run_crew-clause-stops : goal.returns-in-Err-run_crew-clause-stops
returns-in-Err-run_crew-clause-stops g c = λ told.
    subst (λ r. IfErr r (λ stop. IsStopped (job_in c.args.writing c.args.core) c.args.feeds.items c.stopped.result.feeds.items stop (g.K.Sink.state c.args.out.now) (g.K.Sink.state c.run_crew.new.out))) (sym c.stopped.ensures.ended)
    (nothing-done (job_in c.args.writing c.args.core) c.args.feeds.items c.stopped.result.feeds.items (g.K.Sink.state c.args.out.now) (g.K.Sink.state c.run_crew.new.out) c.in-Err-run_crew.ensures.refused.1)

pub returns-in-Err-clause-same : goal.returns-in-Err-clause-same
returns-in-Err-clause-same g c = subst (AreSameFeeds c.args.feeds.items) (sym (c.stopped-in-Err.ensures.feeds ∙ c.in-Err.ensures.refused)) (all_same c.args.feeds.items)

pub returns-in-Err-clause-stops : goal.returns-in-Err-clause-stops
returns-in-Err-clause-stops g c = λ told.
    subst (λ r. IfErr r (λ stop. IsStopped (job_in c.args.writing c.args.core) c.args.feeds.items c.stopped-in-Err.result.feeds.items stop (g.K.Sink.state c.args.out.now) (g.K.Sink.state c.args.out.now))) (sym c.stopped-in-Err.ensures.ended)
    (nothing-done (job_in c.args.writing c.args.core) c.args.feeds.items c.stopped-in-Err.result.feeds.items (g.K.Sink.state c.args.out.now) (g.K.Sink.state c.args.out.now) refl)

-- ---- whatever files and output tell

pub returns-in-Ok-run_crew-clause-plan : goal.returns-in-Ok-run_crew-clause-plan
returns-in-Ok-run_crew-clause-plan g c = same-plan c.args.writing c.args.core c.requires.fresh c.args.plan.now.nodes c.requires.plan c.args.feeds.items c.requires.feeds c.in-Ok.field-0.duties.items c.in-Ok.ensures.assigned c.new-results.result c.new-results.ensures _ _ c.in-Ok-run_crew.ended c.in-Ok-run_crew.ensures.run (g.K.Sink.state c.conclude.new.out) c.conclude.result.ended c.conclude.ensures.concludes

pub returns-in-Ok-run_crew-clause-on : goal.returns-in-Ok-run_crew-clause-on
returns-in-Ok-run_crew-clause-on g c = still-on c.args.writing c.args.core c.requires.fresh c.args.plan.now.nodes c.requires.plan c.args.feeds.items c.requires.feeds c.in-Ok.field-0.duties.items c.in-Ok.ensures.assigned c.new-results.result c.new-results.ensures _ _ c.in-Ok-run_crew.ended c.in-Ok-run_crew.ensures.run (g.K.Sink.state c.conclude.new.out) c.conclude.result.ended c.conclude.ensures.concludes

pub returns-in-Ok-run_crew-clause-has_taken : goal.returns-in-Ok-run_crew-clause-has_taken
returns-in-Ok-run_crew-clause-has_taken g c = taken-in-form c.args.writing c.args.core c.requires.fresh c.args.plan.now.nodes c.requires.plan c.args.feeds.items c.requires.feeds c.in-Ok.field-0.duties.items c.in-Ok.ensures.assigned c.new-results.result c.new-results.ensures _ _ c.in-Ok-run_crew.ended c.in-Ok-run_crew.ensures.run (g.K.Sink.state c.conclude.new.out) c.conclude.result.ended c.conclude.ensures.concludes

pub returns-in-Ok-run_crew-clause-taken : goal.returns-in-Ok-run_crew-clause-taken
returns-in-Ok-run_crew-clause-taken g c =
    subst (λ (news : List FeedState). OnOk c.conclude.result.ended (AreAllTaken news)) (sym c.conclude.ensures.feeds)
    (taken-all c.args.writing c.args.core c.requires.fresh c.args.plan.now.nodes c.requires.plan c.args.feeds.items c.requires.feeds c.in-Ok.field-0.duties.items c.in-Ok.ensures.assigned c.new-results.result c.new-results.ensures _ _ c.in-Ok-run_crew.ended c.in-Ok-run_crew.ensures.run (g.K.Sink.state c.conclude.new.out) c.conclude.result.ended c.conclude.ensures.concludes)

pub returns-in-Ok-run_crew-clause-whole : goal.returns-in-Ok-run_crew-clause-whole
returns-in-Ok-run_crew-clause-whole g c = whole-lines c.args.writing c.args.core c.requires.fresh c.args.plan.now.nodes c.requires.plan c.args.feeds.items c.requires.feeds c.in-Ok.field-0.duties.items c.in-Ok.ensures.assigned c.new-results.result c.new-results.ensures _ _ c.in-Ok-run_crew.ended c.in-Ok-run_crew.ensures.run (g.K.Sink.state c.conclude.new.out) c.conclude.result.ended c.conclude.ensures.concludes c.conclude.ensures.told

pub returns-in-Ok-run_crew-clause-cause : goal.returns-in-Ok-run_crew-clause-cause
returns-in-Ok-run_crew-clause-cause g c =
    subst (λ (news : List FeedState). IfErr c.conclude.result.ended (λ stop. StopCause stop (job_in c.args.writing c.args.core) c.args.feeds.items news (g.K.Sink.state c.args.out.now) (g.K.Sink.state c.conclude.new.out))) (sym c.conclude.ensures.feeds)
    (stop-cause c.args.writing c.args.core c.requires.fresh c.args.plan.now.nodes c.requires.plan c.args.feeds.items c.requires.feeds c.in-Ok.field-0.duties.items c.in-Ok.ensures.assigned c.new-results.result c.new-results.ensures _ _ c.in-Ok-run_crew.ended c.in-Ok-run_crew.ensures.run (g.K.Sink.state c.conclude.new.out) c.conclude.result.ended c.conclude.ensures.concludes c.conclude.ensures.fault)

pub returns-in-Err-run_crew-clause-whole : goal.returns-in-Err-run_crew-clause-whole
returns-in-Err-run_crew-clause-whole g c =
    subst (λ (r : Result Settled RunStop). WritesWhole run_cut (g.K.Sink.state c.args.out.now) (g.K.Sink.state c.run_crew.new.out) r) (sym c.stopped.ensures.ended)
    (nothing-written (g.K.Sink.state c.args.out.now) (g.K.Sink.state c.run_crew.new.out) c.in-Err-run_crew.ensures.refused.1)

pub returns-in-Err-run_crew-clause-cause : goal.returns-in-Err-run_crew-clause-cause
returns-in-Err-run_crew-clause-cause g c =
    subst (λ (r : Result Settled RunStop). IfErr r (λ stop. StopCause stop (job_in c.args.writing c.args.core) c.args.feeds.items c.stopped.result.feeds.items (g.K.Sink.state c.args.out.now) (g.K.Sink.state c.run_crew.new.out)))
    (sym c.stopped.ensures.ended) tt

pub returns-in-Err-clause-whole : goal.returns-in-Err-clause-whole
returns-in-Err-clause-whole g c =
    subst (λ (r : Result Settled RunStop). WritesWhole run_cut (g.K.Sink.state c.args.out.now) (g.K.Sink.state c.args.out.now) r) (sym c.stopped-in-Err.ensures.ended)
    (nothing-written (g.K.Sink.state c.args.out.now) (g.K.Sink.state c.args.out.now) refl)

pub returns-in-Err-clause-cause : goal.returns-in-Err-clause-cause
returns-in-Err-clause-cause g c =
    subst (λ (r : Result Settled RunStop). IfErr r (λ stop. StopCause stop (job_in c.args.writing c.args.core) c.args.feeds.items c.stopped-in-Err.result.feeds.items (g.K.Sink.state c.args.out.now) (g.K.Sink.state c.args.out.now)))
    (sym c.stopped-in-Err.ensures.ended) tt
