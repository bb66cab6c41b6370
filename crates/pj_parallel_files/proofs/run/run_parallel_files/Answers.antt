use Rattle.std.proofs.Common.{List, ℕ, Result, Err, IfErr, OnOk, ap, subst}
use Rattle.pj_feed.specs.Feeds.{files_of}
use Rattle.pj_feed.specs.Opened.{AreFeedsOf}
use Rattle.pj_feed.proofs.Opening.{new_of}
use Rattle.pj_feed.proofs.Outside.{close_stays_all, tries_none}
use Rattle.pj_plan.specs.declared.node.PlanNode.{PlanNode}
use Rattle.pj_plan.specs.Nodes.{streams_in}
use Rattle.pj_run.specs.declared.stops.RunStop.{RunStop}
use Rattle.pj_run.specs.RunEnds.{AreRead}
use Rattle.pj_run.specs.Runs.{job_in}
use Rattle.pj_run.proofs.FilesRun.{AreAllOpened, all_opened, open_opened, read_to_end, still_read}
use Rattle.pj_parallel_files.specs.Feeds.{FeedsFail, FeedsLeave}
use Rattle.pj_parallel_files.specs.Histories.{MadeWhole}
use Rattle.pj_parallel_files.proofs.Causing.{named_cause, unopened_cause}
use Rattle.pj_parallel_files.proofs.Leaving.{named_leave, unopened_leave}
use Rattle.pj_parallel_files.proofs.run.run_parallel_files.Given.{Over}
use Rattle.pj_parallel_files.proofs.run.run_parallel_files.Goals.{In-Ok-open_feeds}
use Rattle.pj_parallel_files.proofs.run.run_parallel_files.Goals as goal

-- all files were opened
opened : (g : Over) (c : In-Ok-open_feeds g) → AreAllOpened (job_in c.args.writing c.args.core) c.args.names.now (g.F.Folder.state c.args.folder.now) c.open_feeds.new.feeds.items
opened g c =
    all_opened (job_in c.args.writing c.args.core) (streams_in c.args.plan.now.nodes) c.args.names.now (g.F.Folder.state c.args.folder.now) c.open_feeds.new.feeds.items (ap streams_in c.requires.plan) c.requires.each
    c.in-Ok-open_feeds.ensures.feeds c.in-Ok-open_feeds.ensures.all

pub run_feeds-ended-requires-clause-feeds : goal.run_feeds-ended-requires-clause-feeds
run_feeds-ended-requires-clause-feeds g c κs within = (opened g (goal.at.run_feeds-ended-requires-clause-feeds g c).In-Ok-open_feeds).fed

pub run_feeds-ended-requires-clause-none : goal.run_feeds-ended-requires-clause-none
run_feeds-ended-requires-clause-none g c κs within =
    new_of 0 (streams_in c.args.core.plan.nodes) c.args.names.now (g.F.Folder.state c.args.folder.now) c.open_feeds.new.feeds.items (opened g (goal.at.run_feeds-ended-requires-clause-none g c).In-Ok-open_feeds).of

-- ---- the run was made

pub returns-in-Ok-ended-clause-done : goal.returns-in-Ok-ended-clause-done
returns-in-Ok-ended-clause-done g c = λ told.
    let job = job_in c.args.writing c.args.core in
    let sink = g.K.Sink.state c.args.out.now in
    let sink' = g.K.Sink.state c.run_feeds-ended.new.out in
    let files = (opened g (goal.at.returns-in-Ok-ended-clause-done g c).In-Ok-open_feeds).told told in
    subst (λ (fs : List (List ℕ)). MadeWhole job fs sink sink') files.1
    (subst (λ (r : Result (Unit {0}) RunStop). OnOk r (MadeWhole job (files_of c.open_feeds.new.feeds.items) sink sink')) c.in-Ok-ended.is (c.run_feeds-ended.ensures.done files.0))

pub returns-in-Ok-ended-clause-last : goal.returns-in-Ok-ended-clause-last
returns-in-Ok-ended-clause-last g c =
    let feeds = c.open_feeds.new.feeds.items in
    let mid = g.F.Folder.state c.open_feeds.new.folder in
    let after = g.F.Folder.state c.run_feeds-ended.new.folder in
    read_to_end (job_in c.args.writing c.args.core) c.args.names.now (g.F.Folder.state c.args.folder.now) mid after feeds (opened g (goal.at.returns-in-Ok-ended-clause-last g c).In-Ok-open_feeds)
    (subst (λ (r : Result (Unit {0}) RunStop). OnOk r (AreRead feeds mid after)) c.in-Ok-ended.is c.run_feeds-ended.ensures.last)

pub returns-in-Ok-ended-clause-keeps : goal.returns-in-Ok-ended-clause-keeps
returns-in-Ok-ended-clause-keeps g c = λ name told had.
    let feeds = c.open_feeds.new.feeds.items in
    let mid = g.F.Folder.state c.open_feeds.new.folder in
    let after = g.F.Folder.state c.run_feeds-ended.new.folder in
    still_read (job_in c.args.writing c.args.core) c.args.names.now (g.F.Folder.state c.args.folder.now) mid after feeds name (opened g (goal.at.returns-in-Ok-ended-clause-keeps g c).In-Ok-open_feeds)
    (c.in-Ok-open_feeds.ensures.last (λ bad. cc)) told had (subst (λ (r : Result (Unit {0}) RunStop). OnOk r (AreRead feeds mid after)) c.in-Ok-ended.is c.run_feeds-ended.ensures.last)

-- ---- it ended before its end

pub returns-in-Err-ended-clause-stops : goal.returns-in-Err-ended-clause-stops
returns-in-Err-ended-clause-stops g c = λ told t.
    let job = job_in c.args.writing c.args.core in
    let feeds = c.open_feeds.new.feeds.items in
    let mid = g.F.Folder.state c.open_feeds.new.folder in
    let after = g.F.Folder.state c.run_feeds-ended.new.folder in
    let sink = g.K.Sink.state c.args.out.now in
    let sink' = g.K.Sink.state c.run_feeds-ended.new.out in
    let all = opened g (goal.at.returns-in-Err-ended-clause-stops g c).In-Ok-open_feeds in
    named_leave job c.args.names.now (g.F.Folder.state c.args.folder.now) mid after feeds sink sink' all told t c.in-Err-ended.stop
    (subst (λ (r : Result (Unit {0}) RunStop). IfErr r (λ stop. FeedsLeave stop job feeds mid after sink sink')) c.in-Err-ended.is (c.run_feeds-ended.ensures.stops (all.told told).0))

pub returns-in-Err-ended-clause-causes : goal.returns-in-Err-ended-clause-causes
returns-in-Err-ended-clause-causes g c =
    let job = job_in c.args.writing c.args.core in
    let feeds = c.open_feeds.new.feeds.items in
    let mid = g.F.Folder.state c.open_feeds.new.folder in
    let after = g.F.Folder.state c.run_feeds-ended.new.folder in
    let sink = g.K.Sink.state c.args.out.now in
    let sink' = g.K.Sink.state c.run_feeds-ended.new.out in
    named_cause job c.args.names.now (g.F.Folder.state c.args.folder.now) mid after feeds sink sink' (opened g (goal.at.returns-in-Err-ended-clause-causes g c).In-Ok-open_feeds) c.in-Ok-open_feeds.ensures.later c.in-Err-ended.stop
    (subst (λ (r : Result (Unit {0}) RunStop). IfErr r (λ stop. FeedsFail stop job feeds mid after sink sink')) c.in-Err-ended.is c.run_feeds-ended.ensures.causes)

-- ---- not all files were opened

pub returns-in_default-clause-opened : goal.returns-in_default-clause-opened
returns-in_default-clause-opened g c = tries_none c.args.names.now (g.F.Folder.state c.args.folder.now)

pub returns-in-Err-clause-stops : goal.returns-in-Err-clause-stops
returns-in-Err-clause-stops g c = λ told t.
    let job = job_in c.args.writing c.args.core in
    let names = c.args.names.now in
    let old = g.F.Folder.state c.args.folder.now in
    let mid = g.F.Folder.state c.open_feeds.new.folder in
    let after = g.F.Folder.state c.close_feeds.new.folder in
    let feeds = c.open_feeds.new.feeds.items in
    let of : AreFeedsOf 0 (streams_in job.nodes) names old feeds = subst (λ (ss : List PlanNode). AreFeedsOf 0 ss names old feeds) (ap streams_in c.requires.plan) c.in-Err.ensures.feeds in
    unopened_leave c.in-Err.stop job names old mid after feeds (g.K.Sink.state c.args.out.now).written of c.close_feeds.ensures.last (λ other. c.in-Err.ensures.last (λ e. other (cc e)))
    (λ stream is. c.in-Err.ensures.fault stream (ap Err is))

pub returns-in-Err-clause-opened : goal.returns-in-Err-clause-opened
returns-in-Err-clause-opened g c =
    let streams = streams_in c.args.core.plan.nodes in
    let names = c.args.names.now in
    let old = g.F.Folder.state c.args.folder.now in
    let mid = g.F.Folder.state c.open_feeds.new.folder in
    let after = g.F.Folder.state c.close_feeds.new.folder in
    let feeds = c.open_feeds.new.feeds.items in
    let of = subst (λ (ss : List PlanNode). AreFeedsOf 0 ss names old feeds) (ap streams_in c.requires.plan) c.in-Err.ensures.feeds in
    open_opened c.in-Err.stop streams names old mid after feeds of c.close_feeds.ensures.others c.in-Err.ensures.some_opened (λ stream is. c.in-Err.ensures.fault stream (ap Err is)) c.close_feeds.ensures.still_opened

pub returns-in-Err-clause-causes : goal.returns-in-Err-clause-causes
returns-in-Err-clause-causes g c =
    unopened_cause c.in-Err.stop (job_in c.args.writing c.args.core) c.args.names.now (g.F.Folder.state c.args.folder.now) (g.F.Folder.state c.open_feeds.new.folder) (g.F.Folder.state c.close_feeds.new.folder)
    c.open_feeds.new.feeds.items (g.K.Sink.state c.args.out.now) (g.K.Sink.state c.args.out.now) (λ stream is. c.in-Err.ensures.fault stream (ap Err is)) c.close_feeds.ensures.later

-- ---- other names

pub returns-in-Ok-ended-clause-others : goal.returns-in-Ok-ended-clause-others
returns-in-Ok-ended-clause-others g c =
    close_stays_all 0 (streams_in c.args.core.plan.nodes) c.args.names.now (g.F.Folder.state c.args.folder.now) (g.F.Folder.state c.open_feeds.new.folder) (g.F.Folder.state c.run_feeds-ended.new.folder) c.open_feeds.new.feeds.items
    (opened g (goal.at.returns-in-Ok-ended-clause-others g c).In-Ok-open_feeds).of c.run_feeds-ended.ensures.others c.open_feeds.ensures.others

pub returns-in-Err-ended-clause-others : goal.returns-in-Err-ended-clause-others
returns-in-Err-ended-clause-others g c =
    close_stays_all 0 (streams_in c.args.core.plan.nodes) c.args.names.now (g.F.Folder.state c.args.folder.now) (g.F.Folder.state c.open_feeds.new.folder) (g.F.Folder.state c.run_feeds-ended.new.folder) c.open_feeds.new.feeds.items
    (opened g (goal.at.returns-in-Err-ended-clause-others g c).In-Ok-open_feeds).of c.run_feeds-ended.ensures.others c.open_feeds.ensures.others

pub returns-in-Err-clause-others : goal.returns-in-Err-clause-others
returns-in-Err-clause-others g c =
    let streams = streams_in c.args.core.plan.nodes in
    let names = c.args.names.now in
    let old = g.F.Folder.state c.args.folder.now in
    let feeds = c.open_feeds.new.feeds.items in
    let of = subst (λ (ss : List PlanNode). AreFeedsOf 0 ss names old feeds) (ap streams_in c.requires.plan) c.in-Err.ensures.feeds in
    close_stays_all 0 streams names old (g.F.Folder.state c.open_feeds.new.folder) (g.F.Folder.state c.close_feeds.new.folder) feeds of c.close_feeds.ensures.others c.open_feeds.ensures.others
