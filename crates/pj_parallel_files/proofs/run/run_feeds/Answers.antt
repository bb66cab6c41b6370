use Rattle.std.proofs.Common.{◌≡◌, ◌∙◌, inl, inr, List, Result, Ok, Err, IfErr, IfOk, ap, length, subst, sym}
use Rattle.pj_core.specs.Plans.{RunPlan}
use Rattle.pj_element.specs.declared.tally.Tally.{Tally}
use Rattle.pj_feed.proofs.AllFeeds.{opened_same}
use Rattle.pj_pattern.specs.declared.element.Element.{Element}
use Rattle.pj_plan.specs.Nodes.{streams_in}
use Rattle.pj_report.specs.Written.{Cut, write_cut}
use Rattle.pj_run.specs.declared.stops.RunStop.{RunStop}
use Rattle.pj_run.specs.Cuts.{run_cut}
use Rattle.pj_run.specs.Outcome.{Finishes}
use Rattle.pj_run.specs.PlanNames.{HasShortNames}
use Rattle.pj_run.specs.Runs.{job_in}
use Rattle.pj_run.specs.Whole.{HasTaken, LeavesWhole, WroteWhole}
use Rattle.pj_run.proofs.Ending.{tallies_count}
use Rattle.pj_run.proofs.RunClosing.{closed_others, report_cut}
use Rattle.pj_run.proofs.WholeLaws.{leaves_then, wrote_then}
use Rattle.pj_parallel.specs.declared.run.Settled.{Settled}
use Rattle.pj_parallel.specs.Causes.{StopCause}
use Rattle.pj_parallel.specs.Concluding.{Gathers}
use Rattle.pj_parallel.specs.Parallel.{IsStopped}
use Rattle.pj_parallel_files.proofs.Causing.{closed_cause}
use Rattle.pj_parallel_files.proofs.Reporting.{made_whole, not_counted, not_reported}
use Rattle.pj_parallel_files.proofs.run.run_feeds.Goals as goal

pub close_feeds-closed-requires : goal.close_feeds-closed-requires
close_feeds-closed-requires g c = record { opened = opened_same (g.F.Folder.state c.args.folder.now).opened c.args.feeds.items c.run_parallel-feeds.result.feeds.items c.run_parallel-feeds.ensures.same c.requires.opened }

-- ---- the run stopped

pub returns-in-Err-clause-stops : goal.returns-in-Err-clause-stops
returns-in-Err-clause-stops g c = λ told.
    let job = job_in c.args.writing c.args.core in
    let ran = c.run_parallel-feeds in
    record {
      news = ran.result.feeds.items;
      same = ran.ensures.same;
      lasts = c.close_feeds-closed.ensures.last;
      left = inl (subst (λ (r : Result Settled RunStop). IfErr r (λ stop. IsStopped job c.args.feeds.items ran.result.feeds.items stop (g.K.Sink.state c.args.out.now) (g.K.Sink.state ran.new.out))) c.in-Err.is (ran.ensures.stops told));
    }

pub returns-in-Err-clause-causes : goal.returns-in-Err-clause-causes
returns-in-Err-clause-causes g c =
    let job = job_in c.args.writing c.args.core in
    let olds = c.args.feeds.items in
    let news = c.run_parallel-feeds.result.feeds.items in
    let sink = g.K.Sink.state c.args.out.now in
    let sink' = g.K.Sink.state c.run_parallel-feeds.new.out in
    closed_cause c.in-Err.stop job olds news (g.F.Folder.state c.args.folder.now) (g.F.Folder.state c.close_feeds-closed.new.folder) sink sink' c.run_parallel-feeds.ensures.same c.close_feeds-closed.ensures.faults
    (subst (λ (r : Result Settled RunStop). IfErr r (λ stop. StopCause stop job olds news sink sink')) c.in-Err.is c.run_parallel-feeds.ensures.cause)

-- ---- it was made, and memory for the counts was wanting

pub returns-in-Err-closed-clause-stops : goal.returns-in-Err-closed-clause-stops
returns-in-Err-closed-clause-stops g c = λ told.
    let job = job_in c.args.writing c.args.core in
    let ran = c.run_parallel-feeds in
    let sink = g.K.Sink.state c.args.out.now in
    let sink' = g.K.Sink.state ran.new.out in
    record {
      news = ran.result.feeds.items;
      same = ran.ensures.same;
      lasts = c.close_feeds-closed.ensures.last;
      left = inr (not_counted job c.args.feeds.items ran.result.feeds.items sink sink' c.in-Ok.settled (subst (λ (r : Result Settled RunStop). IfOk r (Gathers job c.args.feeds.items ran.result.feeds.items sink sink')) c.in-Ok.is (ran.ensures.done told)));
    }

-- ---- the report

pub finish-requires-clause-each : goal.finish-requires-clause-each
finish-requires-clause-each g c =
    let settled = c.in-Ok.settled in
    let ran = c.run_parallel-feeds in
    let plan : settled.core.plan ≡ c.args.core.plan = subst (λ (r : Result Settled RunStop). IfOk r (λ settled. settled.core.plan ≡ c.args.core.plan)) c.in-Ok.is ran.ensures.plan in
    subst (λ (p : RunPlan). length c.as_slice.result.now ≡ length (streams_in p.nodes)) (sym plan)
    (tallies_count (job_in c.args.writing c.args.core) c.args.feeds.items ran.result.feeds.items c.in-Ok-closed.tallies c.as_slice.result.now c.requires.feeds ran.ensures.same c.in-Ok-closed.ensures.tallies c.as_slice.ensures)

pub returns-in-Ok-finish-clause-done : goal.returns-in-Ok-finish-clause-done
returns-in-Ok-finish-clause-done g c = λ told.
    let job = job_in c.args.writing c.args.core in
    let ran = c.run_parallel-feeds in
    let settled = c.in-Ok.settled in
    let sink = g.K.Sink.state c.args.out.now in
    let mid = g.K.Sink.state ran.new.out in
    let new = g.K.Sink.state c.finish.new.out in
    let plan = subst (λ (r : Result Settled RunStop). IfOk r (λ settled. settled.core.plan ≡ c.args.core.plan)) c.in-Ok.is ran.ensures.plan in
    made_whole job c.args.feeds.items ran.result.feeds.items sink mid new settled (subst (λ (r : Result Settled RunStop). IfOk r (Gathers job c.args.feeds.items ran.result.feeds.items sink mid)) c.in-Ok.is (ran.ensures.done told)) (plan ∙ c.requires.fresh.fresh.of_plan)
    (subst (λ (ts : List Tally). (outputs : List Element) → Finishes {T = Unit {0}} outputs settled.core ts settled.gathered mid new (Ok tt)) (c.as_slice.ensures ∙ c.in-Ok-closed.ensures.tallies) c.in-Ok-finish.ensures.lines) c.in-Ok-finish.ensures.told

pub returns-clause-stops : goal.returns-clause-stops
returns-clause-stops g c = λ told.
    let job = job_in c.args.writing c.args.core in
    let ran = c.run_parallel-feeds in
    let settled = c.in-Ok.settled in
    let sink = g.K.Sink.state c.args.out.now in
    let mid = g.K.Sink.state ran.new.out in
    let new = g.K.Sink.state c.finish.new.out in
    let why = c.in-Err-finish.stop in
    let plan = subst (λ (r : Result Settled RunStop). IfOk r (λ settled. settled.core.plan ≡ c.args.core.plan)) c.in-Ok.is ran.ensures.plan in
    rw c.from.ensures record {
      news = ran.result.feeds.items;
      same = ran.ensures.same;
      lasts = c.close_feeds-closed.ensures.last;
      left = inr (not_reported job c.args.feeds.items ran.result.feeds.items sink mid new settled why (subst (λ (r : Result Settled RunStop). IfOk r (Gathers job c.args.feeds.items ran.result.feeds.items sink mid)) c.in-Ok.is (ran.ensures.done told)) (plan ∙ c.requires.fresh.fresh.of_plan)
          (subst (λ (ts : List Tally). (outputs : List Element) → Finishes {T = Unit {0}} outputs settled.core ts settled.gathered mid new (Err why)) (c.as_slice.ensures ∙ c.in-Ok-closed.ensures.tallies) c.in-Err-finish.ensures.lines) c.in-Err-finish.ensures.told);
    }

-- ---- whole lines

pub returns-in-Ok-finish-clause-whole : goal.returns-in-Ok-finish-clause-whole
returns-in-Ok-finish-clause-whole g c = λ t.
    let ran = c.run_parallel-feeds in
    let settled = c.in-Ok.settled in
    let plan = subst (λ (r : Result Settled RunStop). IfOk r (λ settled. settled.core.plan ≡ c.args.core.plan)) c.in-Ok.is ran.ensures.plan in
    let plain : HasShortNames settled.core.plan.nodes = subst HasShortNames (sym (ap (λ (p : RunPlan). p.nodes) plan)) c.requires.fresh.names in
    let taken : HasTaken c.args.writing.form settled.gathered.results = subst (λ (r : Result Settled RunStop). IfOk r (λ settled. HasTaken c.args.writing.form settled.gathered.results)) c.in-Ok.is ran.ensures.has_taken in
    wrote_then _ _ _ (subst (λ (r : Result Settled RunStop). WroteWhole run_cut (g.K.Sink.state c.args.out.now) (g.K.Sink.state ran.new.out) r) c.in-Ok.is (ran.ensures.whole (c.in-Ok-finish.ensures.told t)))
    (c.in-Ok-finish.ensures.whole c.args.writing.form taken plain t)

pub returns-clause-whole : goal.returns-clause-whole
returns-clause-whole g c = λ t.
    let before = (g.K.Sink.state c.args.out.now).written in
    let mid = (g.K.Sink.state c.run_parallel-feeds.new.out).written in
    let after = (g.K.Sink.state c.finish.new.out).written in
    let ran = c.run_parallel-feeds in
    let settled = c.in-Ok.settled in
    let why = c.in-Err-finish.stop in
    let plan = subst (λ (r : Result Settled RunStop). IfOk r (λ settled. settled.core.plan ≡ c.args.core.plan)) c.in-Ok.is ran.ensures.plan in
    let plain : HasShortNames settled.core.plan.nodes = subst HasShortNames (sym (ap (λ (p : RunPlan). p.nodes) plan)) c.requires.fresh.names in
    let taken : HasTaken c.args.writing.form settled.gathered.results = subst (λ (r : Result Settled RunStop). IfOk r (λ settled. HasTaken c.args.writing.form settled.gathered.results)) c.in-Ok.is ran.ensures.has_taken in
    rw c.from.ensures
    (subst (λ (cut : Cut). LeavesWhole cut before after) (sym (report_cut why))
    (leaves_then (write_cut why) before mid after
    (subst (λ (r : Result Settled RunStop). WroteWhole run_cut (g.K.Sink.state c.args.out.now) (g.K.Sink.state ran.new.out) r) c.in-Ok.is (ran.ensures.whole (c.in-Err-finish.ensures.told t)))
    (c.in-Err-finish.ensures.whole c.args.writing.form taken plain t)))

-- ---- other names

pub returns-in-Err-clause-others : goal.returns-in-Err-clause-others
returns-in-Err-clause-others g c = closed_others c.args.feeds.items c.run_parallel-feeds.result.feeds.items (g.F.Folder.state c.args.folder.now) (g.F.Folder.state c.close_feeds-closed.new.folder) c.run_parallel-feeds.ensures.same c.close_feeds-closed.ensures.others

pub returns-in-Err-closed-clause-others : goal.returns-in-Err-closed-clause-others
returns-in-Err-closed-clause-others g c = closed_others c.args.feeds.items c.run_parallel-feeds.result.feeds.items (g.F.Folder.state c.args.folder.now) (g.F.Folder.state c.close_feeds-closed.new.folder) c.run_parallel-feeds.ensures.same c.close_feeds-closed.ensures.others

pub returns-in-Ok-finish-clause-others : goal.returns-in-Ok-finish-clause-others
returns-in-Ok-finish-clause-others g c = closed_others c.args.feeds.items c.run_parallel-feeds.result.feeds.items (g.F.Folder.state c.args.folder.now) (g.F.Folder.state c.close_feeds-closed.new.folder) c.run_parallel-feeds.ensures.same c.close_feeds-closed.ensures.others

pub returns-clause-others : goal.returns-clause-others
returns-clause-others g c = closed_others c.args.feeds.items c.run_parallel-feeds.result.feeds.items (g.F.Folder.state c.args.folder.now) (g.F.Folder.state c.close_feeds-closed.new.folder) c.run_parallel-feeds.ensures.same c.close_feeds-closed.ensures.others
