use Rattle.std.proofs.Common.{◌≡◌, ℕ, [], ap, sym, ◌∙◌, subst, length, Err, Result}
use Rattle.std.specs.Prelude.{IfErr, OnOk}
use Rattle.pj_feed.specs.Named.{files_named}
use Rattle.pj_feed.specs.Opened.{AreReadToEnd, StayReadToEnd}
use Rattle.pj_feed.proofs.StreamNodes.{count_numbers}
use Rattle.pj_report.specs.declared.status.Status.{Status}
use Rattle.pj_report.specs.Written.{Delivered}
use Rattle.pj_run.specs.Cuts.{files_cut}
use Rattle.pj_run.specs.Jobs.{Job}
use Rattle.pj_run.specs.PlanNames.{HasShortNames}
use Rattle.pj_run.specs.RunEnds.{FilesOpened}
use Rattle.pj_run.specs.Runs.{job_in}
use Rattle.pj_run.specs.Stops.{files_status, stop_line, IsOfFew}
use Rattle.pj_run.specs.Whole.{WritesWhole}
use Rattle.pj_run.specs.declared.stops.FilesStop.{FilesStop}
use Rattle.pj_parallel_files.specs.Causes.{WorkersCause}
use Rattle.pj_parallel_files.specs.Histories.{FilesLeave, MadeWhole}
use Rattle.pj_prepare.specs.Calls.{first_by, first_file}
use Rattle.pj_alone.specs.Endings.{ending_of, stop_name}
use Rattle.pj_alone.proofs.CallLaws.{few_names, of_few}
use Rattle.pj_alone.proofs.StaysLaws.{stop_name_by, stop_name_short}
use Rattle.pj_together.specs.Promises.{KeepsTogether}
use Rattle.pj_together.proofs.Keeping.{keeps_done, keeps_stopped}
use Rattle.pj_together.proofs.Stopping.{by_workers, comes_more}
use Rattle.pj_together.proofs.run.write_files.Given.{Over}
use Rattle.pj_together.proofs.run.write_files.Goals.{After-run_parallel_files}
use Rattle.pj_together.proofs.run.write_files.Goals as goal

-- ---- the run begins

pub run_parallel_files-requires-clause-each : goal.run_parallel_files-requires-clause-each
run_parallel_files-requires-clause-each g c κs within = ap length c.requires.over.2 ∙ (c.requires.over.1.prepared.run.count ∙ count_numbers c.args.ready.core.plan.nodes)

-- ---- it is done

pub returns-in-Ok : goal.returns-in-Ok
returns-in-Ok g c = λ call over are.
    let mid = g.F.Folder.state c.args.folder.now in
    let new = g.F.Folder.state c.run_parallel_files.new.folder in
    let first = g.K.Sink.state c.args.out.now in
    let now = g.K.Sink.state c.run_parallel_files.new.out in
    let files = c.args.files.now in
    let job : Job = job_in c.args.ready.writing c.args.ready.core in
    let r = c.run_parallel_files.ensures in
    let is = c.in-Ok.is in
    keeps_done call c.args.ready mid new over files are first now
    (λ t. subst (λ (e : Result (Unit {0}) FilesStop). OnOk e (MadeWhole job (files_named files mid) first now)) is (r.done t))
    (subst (λ (e : Result (Unit {0}) FilesStop). OnOk e (AreReadToEnd files mid new)) is r.last)
    (λ name t end. subst (λ (e : Result (Unit {0}) FilesStop). StayReadToEnd mid new e) is r.keeps name t end)
    (subst (λ (e : Result (Unit {0}) FilesStop). FilesOpened e files mid new) is r.opened)
    r.others
    (subst (λ (e : Result (Unit {0}) FilesStop). OnOk e (now.held ≡ [])) is r.handed_on)

-- ---- it stopped

cause : (g : Over) (c : After-run_parallel_files g) (stop : FilesStop) → c.run_parallel_files.result ≡ Err stop
    → WorkersCause stop (job_in c.args.ready.writing c.args.ready.core) c.args.files.now (g.F.Folder.state c.args.folder.now) (g.F.Folder.state c.run_parallel_files.new.folder) (g.K.Sink.state c.args.out.now) (g.K.Sink.state c.run_parallel_files.new.out)
cause g c stop is =
    let job : Job = job_in c.args.ready.writing c.args.ready.core in
    subst (λ (e : Result (Unit {0}) FilesStop). IfErr e (λ stop. WorkersCause stop job c.args.files.now (g.F.Folder.state c.args.folder.now) (g.F.Folder.state c.run_parallel_files.new.folder) (g.K.Sink.state c.args.out.now) (g.K.Sink.state c.run_parallel_files.new.out))) is
    c.run_parallel_files.ensures.causes

few_stop : (g : Over) (c : After-run_parallel_files g) (stop : FilesStop) → c.run_parallel_files.result ≡ Err stop → IsOfFew stop
few_stop g c stop is =
    let job : Job = job_in c.args.ready.writing c.args.ready.core in
    let files = c.args.files.now in
    let mid = g.F.Folder.state c.args.folder.now in
    let new = g.F.Folder.state c.run_parallel_files.new.folder in
    let first = g.K.Sink.state c.args.out.now in
    let now = g.K.Sink.state c.run_parallel_files.new.out in
    let run = c.requires.over.1.prepared.run in
    of_few (comes_more job files mid) stop files mid new first now (few_names c.args.ready.core.plan.nodes files run.fresh.sound (ap length c.requires.over.2 ∙ run.count)) (by_workers stop job files mid new first now (cause g c stop is))

pub status-status-requires-clause-few : goal.status-status-requires-clause-few
status-status-requires-clause-few g c = few_stop g (goal.at.status-status-requires-clause-few g c).After-run_parallel_files c.in-Err.stop c.in-Err.is

pub write_stop-requires-clause-few : goal.write_stop-requires-clause-few
write_stop-requires-clause-few g c = few_stop g (goal.at.write_stop-requires-clause-few g c).After-run_parallel_files c.in-Err.stop c.in-Err.is

pub write_stop-requires-clause-short : goal.write_stop-requires-clause-short
write_stop-requires-clause-short g c =
    rw c.stop_name.ensures (stop_name_short c.args.plan.now.nodes c.status-status.result (subst HasShortNames (sym c.requires.plan) c.requires.over.1.prepared.run.fresh.names))

pub returns : goal.returns
returns g c = λ call over are.
    let a = (goal.at.returns g c).After-run_parallel_files in
    let mid = g.F.Folder.state c.args.folder.now in
    let new = g.F.Folder.state c.run_parallel_files.new.folder in
    let first = g.K.Sink.state c.args.out.now in
    let now = g.K.Sink.state c.run_parallel_files.new.out in
    let after = g.K.Sink.state c.write_stop.new.out in
    let files = c.args.files.now in
    let job : Job = job_in c.args.ready.writing c.args.ready.core in
    let r = c.run_parallel_files.ensures in
    let stop = c.in-Err.stop in
    let is = c.in-Err.is in
    let number : 2 ≡ first_file call = sym (ap first_by over.bare) in
    let status : c.status-status.result ≡ files_status (first_file call) stop = c.status-status.ensures ∙ ap (λ (n : ℕ). files_status n stop) number in
    let name : c.stop_name.result.now ≡ stop_name job.nodes (files_status (first_file call) stop) =
    c.stop_name.ensures ∙ (stop_name_by c.args.plan.now.nodes job.nodes c.status-status.result c.requires.plan ∙ ap (stop_name job.nodes) status) in
    subst (λ (st : Status). KeepsTogether (ending_of call st new first after)) (sym status)
    (keeps_stopped call c.args.ready mid new over files are stop c.stop_name.result.now first now after name (cause g a stop is)
    (λ t told. subst (λ (e : Result (Unit {0}) FilesStop). IfErr e (λ stop. FilesLeave stop job files mid new first.written now.written)) is (r.stops t told))
    (λ told. subst (λ (e : Result (Unit {0}) FilesStop). WritesWhole files_cut first now e) is r.whole told)
    (λ opening of. ap g.K.Sink.state (r.unopened opening (is ∙ ap Err of)))
    (subst (λ (e : Result (Unit {0}) FilesStop). FilesOpened e files mid new) is r.opened)
    r.others r.later c.write_stop.ensures.told
    (subst (λ (n : ℕ). Delivered (stop_line n stop c.stop_name.result.now) now after) number c.write_stop.ensures.line) c.write_stop.ensures.handed_on c.write_stop.ensures.later)
