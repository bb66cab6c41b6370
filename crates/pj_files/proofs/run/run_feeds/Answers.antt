use Rattle.std.proofs.Common.{◌≡◌, ◌∙◌, Result, Ok, Err, IfErr, IfOk, OnOk, ap, length, subst, sym}
use Rattle.pj_core.specs.Cores.{StandsFor}
use Rattle.pj_core.specs.Plans.{RunPlan}
use Rattle.pj_feed.specs.Feeds.{files_of, tallies_in}
use Rattle.pj_feed.proofs.AllFeeds.{opened_same}
use Rattle.pj_plan.specs.Nodes.{streams_in}
use Rattle.pj_report.specs.Forms.{shown}
use Rattle.pj_report.specs.Written.{between, Cut, Leaves, WritesBy, write_cut}
use Rattle.pj_report.proofs.LinesWritten.{first_written, stop_first}
use Rattle.pj_run.specs.declared.run.Gathered.{Gathered}
use Rattle.pj_run.specs.declared.stops.RunStop.{RunStop}
use Rattle.pj_run.specs.Cuts.{run_cut}
use Rattle.pj_run.specs.Outcome.{IsOutcome}
use Rattle.pj_run.specs.PlanNames.{HasShortNames}
use Rattle.pj_run.specs.RunEnds.{TurnsCause}
use Rattle.pj_run.specs.Runs.{due_lines, history_of, job_by, outs_of, IsEnabled}
use Rattle.pj_run.specs.Whole.{HasTaken, LeavesWhole, WroteWhole}
use Rattle.pj_run.proofs.Ending.{tallies_count}
use Rattle.pj_run.proofs.RunClosing.{closed_others, feeds_cause, report_cut}
use Rattle.pj_run.proofs.Tallies.{due_parts}
use Rattle.pj_run.proofs.WholeLaws.{leaves_then, wrote_then}
use Rattle.pj_files.proofs.Reported.{reported}
use Rattle.pj_files.proofs.run.run_feeds.Goals as goal

pub close_feeds-closed-requires : goal.close_feeds-closed-requires
close_feeds-closed-requires g c = record { opened = opened_same (g.F.Folder.state c.args.folder.now).opened c.args.feeds.items c.make_turns-core.new.feeds.feeds.items c.make_turns-core.ensures.same c.requires.opened }

-- ---- the turns stopped

pub returns-in-Err-clause-lines : goal.returns-in-Err-clause-lines
returns-in-Err-clause-lines g c = λ told t.
    let job = job_by c.args.script.now c.args.writing c.args.core in
    let files = files_of c.args.feeds.items in
    let due = due_parts job files in
    stop_first (run_cut c.in-Err.stop) (shown job.form job.nodes (outs_of job files)) due.0 (due_lines job files) _ _
    (subst (λ (r : Result Gathered RunStop). WritesBy run_cut (shown job.form job.nodes (outs_of job files)) (g.K.Sink.state c.args.out.now) (g.K.Sink.state c.make_turns-core.new.out) r) c.in-Err.is (c.make_turns-core.ensures.lines told t)) due.1

pub returns-in-Err-clause-causes : goal.returns-in-Err-clause-causes
returns-in-Err-clause-causes g c =
    let job = job_by c.args.script.now c.args.writing c.args.core in
    let olds = c.args.feeds.items in
    let news = c.make_turns-core.new.feeds.feeds.items in
    let sink = g.K.Sink.state c.args.out.now in
    let sink' = g.K.Sink.state c.make_turns-core.new.out in
    feeds_cause c.in-Err.stop job olds news (g.F.Folder.state c.args.folder.now) (g.F.Folder.state c.close_feeds-closed.new.folder) sink sink' c.make_turns-core.ensures.same c.close_feeds-closed.ensures.faults
    (subst (λ (r : Result Gathered RunStop). IfErr r (λ stop. TurnsCause stop job olds news sink sink')) c.in-Err.is c.make_turns-core.ensures.causes)

-- ---- the turns were made, and memory for the counts was wanting

pub returns-in-Err-closed-clause-lines : goal.returns-in-Err-closed-clause-lines
returns-in-Err-closed-clause-lines g c = λ told t.
    let job = job_by c.args.script.now c.args.writing c.args.core in
    let files = files_of c.args.feeds.items in
    let due = due_parts job files in
    first_written between (shown job.form job.nodes (outs_of job files)) due.0 (due_lines job files) _ _
    (subst (λ (r : Result Gathered RunStop). WritesBy run_cut (shown job.form job.nodes (outs_of job files)) (g.K.Sink.state c.args.out.now) (g.K.Sink.state c.make_turns-core.new.out) r) c.in-Ok.is (c.make_turns-core.ensures.lines told t)) due.1

-- ---- the report

pub finish-requires-clause-each : goal.finish-requires-clause-each
finish-requires-clause-each g c =
    subst (λ (p : RunPlan). length c.as_slice.result.now ≡ length (streams_in p.nodes)) (sym c.make_turns-core.ensures.plan)
    (tallies_count (job_by c.args.script.now c.args.writing c.args.core) c.args.feeds.items c.make_turns-core.new.feeds.feeds.items c.in-Ok-closed.tallies c.as_slice.result.now c.requires.feeds c.make_turns-core.ensures.same c.in-Ok-closed.ensures.tallies c.as_slice.ensures)

pub returns-in-Ok-finish-clause-lines : goal.returns-in-Ok-finish-clause-lines
returns-in-Ok-finish-clause-lines g c = λ told t.
    let job = job_by c.args.script.now c.args.writing c.args.core in
    let files = files_of c.args.feeds.items in
    let old = g.K.Sink.state c.args.out.now in
    let mid = g.K.Sink.state c.make_turns-core.new.out in
    let turned = c.make_turns-core.ensures in
    let outcome : IsOutcome job files c.as_slice.result.now c.in-Ok.gathered = rw (c.as_slice.ensures, c.in-Ok-closed.ensures.tallies)
    (subst (λ (r : Result Gathered RunStop). IfOk r (λ gathered. IsOutcome job files (tallies_in c.make_turns-core.new.feeds.feeds.items) gathered)) c.in-Ok.is (turned.outcome told)) in
    reported job files c.make_turns-core.result.core c.as_slice.result.now c.in-Ok.gathered old mid (g.K.Sink.state c.finish.new.out) (Ok tt) (turned.plan ∙ c.requires.fresh.fresh.of_plan) outcome
    (subst (λ (r : Result Gathered RunStop). OnOk r (IsEnabled job files)) c.in-Ok.is (turned.enabled told))
    (subst (λ (r : Result Gathered RunStop). OnOk r (StandsFor c.make_turns-core.result.core (history_of job files))) c.in-Ok.is (turned.stands told))
    (subst (λ (r : Result Gathered RunStop). WritesBy run_cut (shown job.form job.nodes (outs_of job files)) old mid r) c.in-Ok.is (turned.lines told (c.in-Ok-finish.ensures.told t))) c.in-Ok-finish.ensures.lines t

pub returns-clause-lines : goal.returns-clause-lines
returns-clause-lines g c = λ told t.
    let job = job_by c.args.script.now c.args.writing c.args.core in
    let files = files_of c.args.feeds.items in
    let old = g.K.Sink.state c.args.out.now in
    let mid = g.K.Sink.state c.make_turns-core.new.out in
    let new = g.K.Sink.state c.finish.new.out in
    let turned = c.make_turns-core.ensures in
    let why = c.in-Err-finish.stop in
    let outcome : IsOutcome job files c.as_slice.result.now c.in-Ok.gathered = rw (c.as_slice.ensures, c.in-Ok-closed.ensures.tallies)
    (subst (λ (r : Result Gathered RunStop). IfOk r (λ gathered. IsOutcome job files (tallies_in c.make_turns-core.new.feeds.feeds.items) gathered)) c.in-Ok.is (turned.outcome told)) in
    rw c.from.ensures
    (subst (λ (cut : Cut). Leaves cut (due_lines job files) old.written new.written) (sym (report_cut why))
    (reported job files c.make_turns-core.result.core c.as_slice.result.now c.in-Ok.gathered old mid new (Err why) (turned.plan ∙ c.requires.fresh.fresh.of_plan) outcome
    (subst (λ (r : Result Gathered RunStop). OnOk r (IsEnabled job files)) c.in-Ok.is (turned.enabled told))
    (subst (λ (r : Result Gathered RunStop). OnOk r (StandsFor c.make_turns-core.result.core (history_of job files))) c.in-Ok.is (turned.stands told))
    (subst (λ (r : Result Gathered RunStop). WritesBy run_cut (shown job.form job.nodes (outs_of job files)) old mid r) c.in-Ok.is (turned.lines told (c.in-Err-finish.ensures.told t))) c.in-Err-finish.ensures.lines t))

-- ---- whole lines

pub returns-in-Ok-finish-clause-whole : goal.returns-in-Ok-finish-clause-whole
returns-in-Ok-finish-clause-whole g c = λ t.
    let turned = c.make_turns-core.ensures in
    let plain = subst HasShortNames (sym (ap (λ (p : RunPlan). p.nodes) turned.plan)) c.requires.fresh.names in
    let taken : HasTaken c.args.writing.form c.in-Ok.gathered.results = subst (λ (r : Result Gathered RunStop). IfOk r (λ gathered. HasTaken c.args.writing.form gathered.results)) c.in-Ok.is turned.has_taken in
    wrote_then _ _ _ (subst (λ (r : Result Gathered RunStop). WroteWhole run_cut (g.K.Sink.state c.args.out.now) (g.K.Sink.state c.make_turns-core.new.out) r) c.in-Ok.is (turned.whole (c.in-Ok-finish.ensures.told t)))
    (c.in-Ok-finish.ensures.whole c.args.writing.form taken plain t)

pub returns-clause-whole : goal.returns-clause-whole
returns-clause-whole g c = λ t.
    let before = (g.K.Sink.state c.args.out.now).written in
    let mid = (g.K.Sink.state c.make_turns-core.new.out).written in
    let after = (g.K.Sink.state c.finish.new.out).written in
    let turned = c.make_turns-core.ensures in
    let why = c.in-Err-finish.stop in
    let plain = subst HasShortNames (sym (ap (λ (p : RunPlan). p.nodes) turned.plan)) c.requires.fresh.names in
    let taken : HasTaken c.args.writing.form c.in-Ok.gathered.results = subst (λ (r : Result Gathered RunStop). IfOk r (λ gathered. HasTaken c.args.writing.form gathered.results)) c.in-Ok.is turned.has_taken in
    rw c.from.ensures
    (subst (λ (cut : Cut). LeavesWhole cut before after) (sym (report_cut why))
    (leaves_then (write_cut why) before mid after
    (subst (λ (r : Result Gathered RunStop). WroteWhole run_cut (g.K.Sink.state c.args.out.now) (g.K.Sink.state c.make_turns-core.new.out) r) c.in-Ok.is (turned.whole (c.in-Err-finish.ensures.told t)))
    (c.in-Err-finish.ensures.whole c.args.writing.form taken plain t)))

-- ---- other names

pub returns-in-Err-clause-others : goal.returns-in-Err-clause-others
returns-in-Err-clause-others g c = closed_others c.args.feeds.items c.make_turns-core.new.feeds.feeds.items (g.F.Folder.state c.args.folder.now) (g.F.Folder.state c.close_feeds-closed.new.folder) c.make_turns-core.ensures.same c.close_feeds-closed.ensures.others

pub returns-in-Err-closed-clause-others : goal.returns-in-Err-closed-clause-others
returns-in-Err-closed-clause-others g c = closed_others c.args.feeds.items c.make_turns-core.new.feeds.feeds.items (g.F.Folder.state c.args.folder.now) (g.F.Folder.state c.close_feeds-closed.new.folder) c.make_turns-core.ensures.same c.close_feeds-closed.ensures.others

pub returns-in-Ok-finish-clause-others : goal.returns-in-Ok-finish-clause-others
returns-in-Ok-finish-clause-others g c = closed_others c.args.feeds.items c.make_turns-core.new.feeds.feeds.items (g.F.Folder.state c.args.folder.now) (g.F.Folder.state c.close_feeds-closed.new.folder) c.make_turns-core.ensures.same c.close_feeds-closed.ensures.others

pub returns-clause-others : goal.returns-clause-others
returns-clause-others g c = closed_others c.args.feeds.items c.make_turns-core.new.feeds.feeds.items (g.F.Folder.state c.args.folder.now) (g.F.Folder.state c.close_feeds-closed.new.folder) c.make_turns-core.ensures.same c.close_feeds-closed.ensures.others
