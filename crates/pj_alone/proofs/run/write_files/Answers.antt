use Rattle.std.proofs.Common.{◌≡◌, ◌≤◌, ℕ, [], ap, sym, ◌∙◌, subst, length, Err, Result}
use Rattle.pj_core.specs.Plans.{RunPlan}
use Rattle.pj_feed.specs.Named.{files_named}
use Rattle.pj_feed.specs.Opened.{AreReadToEnd, StayReadToEnd}
use Rattle.pj_feed.proofs.StreamNodes.{count_numbers}
use Rattle.pj_report.specs.declared.status.Status.{Status}
use Rattle.pj_report.specs.Written.{Delivered}
use Rattle.pj_run.specs.Cuts.{files_cut}
use Rattle.pj_run.specs.Jobs.{Job}
use Rattle.pj_run.specs.PlanNames.{HasShortNames}
use Rattle.pj_run.specs.RunEnds.{FilesCause, FilesOpened, FilesWrite, StoppedFiles}
use Rattle.pj_run.specs.Runs.{job_by, IsEnabled, StaysInLimit}
use Rattle.pj_run.specs.Stops.{files_status, stop_line, IsOfFew}
use Rattle.pj_run.specs.Whole.{WritesWhole}
use Rattle.pj_run.specs.declared.stops.FilesStop.{FilesStop}
use Rattle.std.specs.Prelude.{IfErr, OnOk}
use Rattle.pj_prepare.specs.Calls.{first_file}
use Rattle.pj_alone.specs.Endings.{ending_of, stop_name}
use Rattle.pj_alone.specs.Promises.{KeepsAll}
use Rattle.pj_alone.proofs.CallLaws.{cause_by, few_names, first_is, goes_over, of_few}
use Rattle.pj_alone.proofs.RunPromises.{keeps_done, keeps_stopped}
use Rattle.pj_alone.proofs.StaysLaws.{stop_name_by, stop_name_short}
use Rattle.pj_alone.proofs.run.write_files.Given.{Over}
use Rattle.pj_alone.proofs.run.write_files.Goals.{After-core}
use Rattle.pj_alone.proofs.run.write_files.Goals as goal

-- ---- the run begins

pub run_files-core-requires-clause-each : goal.run_files-core-requires-clause-each
run_files-core-requires-clause-each g c = ap length c.requires.2 ∙ (c.requires.1.run.count ∙ count_numbers c.args.ready.core.plan.nodes)

-- ---- it is done

pub returns-in-Ok : goal.returns-in-Ok
returns-in-Ok g c = λ call s are.
    let mid = g.F.Folder.state c.args.folder.now in
    let new = g.F.Folder.state c.run_files-core.new.folder in
    let first = g.K.Sink.state c.args.out.now in
    let now = g.K.Sink.state c.run_files-core.new.out in
    let files = c.args.files.now in
    let job : Job = job_by c.args.script.now c.args.ready.writing c.args.ready.core in
    let r = c.run_files-core.ensures in
    let is = c.in-Ok.is in
    keeps_done call c.args.ready c.args.script.now mid new s files are first now
    (λ t told. subst (λ (e : Result (Unit {0}) FilesStop). FilesWrite job files mid first now e) is r.lines t told)
    (λ t. subst (λ (e : Result (Unit {0}) FilesStop). OnOk e (IsEnabled job (files_named files mid))) is (r.enabled t))
    (λ t. subst (λ (e : Result (Unit {0}) FilesStop). OnOk e (StaysInLimit job (files_named files mid))) is (r.within t))
    (subst (λ (e : Result (Unit {0}) FilesStop). OnOk e (AreReadToEnd files mid new)) is r.last)
    (λ name t end. subst (λ (e : Result (Unit {0}) FilesStop). StayReadToEnd mid new e) is r.keeps name t end)
    (subst (λ (e : Result (Unit {0}) FilesStop). FilesOpened e files mid new) is r.opened)
    r.others
    (subst (λ (e : Result (Unit {0}) FilesStop). OnOk e (now.held ≡ [])) is r.handed_on)

-- ---- it stopped

cause : (g : Over) (c : After-core g) (stop : FilesStop) → c.run_files-core.result.ended ≡ Err stop
    → FilesCause stop (job_by c.args.script.now c.args.ready.writing c.args.ready.core) c.args.files.now (g.F.Folder.state c.args.folder.now) (g.F.Folder.state c.run_files-core.new.folder) (g.K.Sink.state c.args.out.now) (g.K.Sink.state c.run_files-core.new.out)
cause g c stop is =
    let job : Job = job_by c.args.script.now c.args.ready.writing c.args.ready.core in
    subst (λ (e : Result (Unit {0}) FilesStop). IfErr e (λ stop. FilesCause stop job c.args.files.now (g.F.Folder.state c.args.folder.now) (g.F.Folder.state c.run_files-core.new.folder) (g.K.Sink.state c.args.out.now) (g.K.Sink.state c.run_files-core.new.out))) is
    c.run_files-core.ensures.causes

few : (g : Over) (c : After-core g) → length c.args.files.now ≤ 128
few g c = few_names c.args.ready.core.plan.nodes c.args.files.now c.requires.1.run.fresh.sound (ap length c.requires.2 ∙ c.requires.1.run.count)

few_stop : (g : Over) (c : After-core g) (stop : FilesStop) → c.run_files-core.result.ended ≡ Err stop → IsOfFew stop
few_stop g c stop is =
    let job : Job = job_by c.args.script.now c.args.ready.writing c.args.ready.core in
    let mid = g.F.Folder.state c.args.folder.now in
    let new = g.F.Folder.state c.run_files-core.new.folder in
    let first = g.K.Sink.state c.args.out.now in
    let now = g.K.Sink.state c.run_files-core.new.out in
    of_few (goes_over job c.args.files.now mid) stop c.args.files.now mid new first now (few g c) (cause_by stop job c.args.files.now mid new first now (cause g c stop is))

pub status-status-requires-clause-few : goal.status-status-requires-clause-few
status-status-requires-clause-few g c =
    let a = (goal.at.status-status-requires-clause-few g c).After-core in
    few_stop g a c.in-Err.stop c.in-Err.is

pub write_stop-requires-clause-few : goal.write_stop-requires-clause-few
write_stop-requires-clause-few g c =
    let a = (goal.at.write_stop-requires-clause-few g c).After-core in
    few_stop g a c.in-Err.stop c.in-Err.is

pub write_stop-requires-clause-short : goal.write_stop-requires-clause-short
write_stop-requires-clause-short g c =
    rw c.stop_name.ensures
    (stop_name_short c.plan.result.now.nodes c.status-status.result
    (subst HasShortNames (sym (c.plan.ensures ∙ ap (λ (p : RunPlan). p.nodes) c.run_files-core.ensures.plan)) c.requires.1.run.fresh.names))

pub returns : goal.returns
returns g c = λ call s are.
    let a = (goal.at.returns g c).After-core in
    let mid = g.F.Folder.state c.args.folder.now in
    let new = g.F.Folder.state c.run_files-core.new.folder in
    let first = g.K.Sink.state c.args.out.now in
    let now = g.K.Sink.state c.run_files-core.new.out in
    let after = g.K.Sink.state c.write_stop.new.out in
    let files = c.args.files.now in
    let nodes = c.args.ready.core.plan.nodes in
    let job : Job = job_by c.args.script.now c.args.ready.writing c.args.ready.core in
    let r = c.run_files-core.ensures in
    let stop = c.in-Err.stop in
    let is = c.in-Err.is in
    let number : c.first_operand-first.result ≡ first_file call = c.first_operand-first.ensures ∙ first_is call.script nodes call.folder c.args.script.now s.steps in
    let status : c.status-status.result ≡ files_status (first_file call) stop = c.status-status.ensures ∙ ap (λ (n : ℕ). files_status n stop) number in
    let name : c.stop_name.result.now ≡ stop_name nodes (files_status (first_file call) stop) =
    c.stop_name.ensures ∙ (stop_name_by c.plan.result.now.nodes nodes c.status-status.result (c.plan.ensures ∙ ap (λ (p : RunPlan). p.nodes) r.plan) ∙ ap (stop_name nodes) status) in
    subst (λ (st : Status). KeepsAll (ending_of call st new first after)) (sym status)
    (keeps_stopped call c.args.ready c.args.script.now mid new s files are stop c.stop_name.result.now first now after name (cause g a stop is)
    (λ t told. subst (λ (e : Result (Unit {0}) FilesStop). FilesWrite job files mid first now e) is r.lines t told)
    (λ told. subst (λ (e : Result (Unit {0}) FilesStop). WritesWhole files_cut first now e) is r.whole told)
    (λ t told. subst (λ (e : Result (Unit {0}) FilesStop). StoppedFiles job files mid new first now e) is r.ends t told)
    (λ opening of. ap g.K.Sink.state (r.unopened opening (is ∙ ap Err of)))
    (subst (λ (e : Result (Unit {0}) FilesStop). FilesOpened e files mid new) is r.opened)
    r.others r.later c.write_stop.ensures.told
    (subst (λ (n : ℕ). Delivered (stop_line n stop c.stop_name.result.now) now after) number c.write_stop.ensures.line) c.write_stop.ensures.handed_on c.write_stop.ensures.later)
