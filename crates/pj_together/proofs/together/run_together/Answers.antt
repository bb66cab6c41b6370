use Rattle.std.proofs.Common.{◌≡◌, ◌≤◌, refl, ap, sym, subst, arith}
use Rattle.pj_io.specs.States.{FolderState}
use Rattle.pj_report.specs.declared.status.Status.{Status}
use Rattle.pj_words.specs.declared.request.Request.{Request}
use Rattle.pj_words.specs.declared.request.Request.TheVariants.{Run as RunRequest, Replay, Check as CheckRequest, Make as MakeRequest}
use Rattle.pj_prepare.specs.Calls.{is_nothing, running, call_for}
use Rattle.pj_prepare.specs.Scripts.{IsPrepared}
use Rattle.pj_alone.specs.Endings.{ending_of}
use Rattle.pj_alone.proofs.RunPromises.{prepared_so}
use Rattle.pj_together.specs.Promises.{KeepsTogether}
use Rattle.pj_together.specs.Requests.{workers_of}
use Rattle.pj_together.proofs.Keeping.{keeps_unread}
use Rattle.pj_together.proofs.together.run_together.Given.{Over}
use Rattle.pj_together.proofs.together.run_together.Goals.{In-Ok-Run}
use Rattle.pj_together.proofs.together.run_together.Goals as goal

-- a request with workers is a run
runs : (request : Request) (folder : FolderState) → 1 ≤ workers_of request → (call_for request folder).task ≡ running
runs (RunRequest plan files workers sorted trace check limit) folder some = refl
runs (Replay plan script files trace limit) folder some = absurd (omega (arith, some))
runs (CheckRequest plan print) folder some = absurd (omega (arith, some))
runs (MakeRequest seed count) folder some = absurd (omega (arith, some))

-- the plan was read, and is to be run
prepared : (g : Over) (c : In-Ok-Run g) → IsPrepared c.in-Ok-Run.ready (call_for c.args.request.now (g.F.Folder.state c.args.folder.now)) (g.F.Folder.state c.prepare.new.folder)
prepared g c =
    let call = call_for c.args.request.now (g.F.Folder.state c.args.folder.now) in
    let e = c.in-Ok-Run.ensures in
    prepared_so call _ c.in-Ok-Run.ready (g.F.Folder.state c.prepare.new.folder) e.ready c.in-Ok-Run.field-0-is e.told e.contents e.last e.was_opened c.prepare.ensures.others e.later

pub write_run-requires-clause-prepared : goal.write_run-requires-clause-prepared
write_run-requires-clause-prepared g c κs within = (g.F.Folder.state c.args.folder.now, prepared g (goal.at.write_run-requires-clause-prepared g c).In-Ok-Run)

pub returns-in-Ok-Run : goal.returns-in-Ok-Run
returns-in-Ok-Run g c = c.write_run.ensures (g.F.Folder.state c.args.folder.now) (prepared g (goal.at.returns-in-Ok-Run g c).In-Ok-Run)

-- ---- the plan was not had

pub returns-in-Err : goal.returns-in-Err
returns-in-Err g c =
    let call = call_for c.args.request.now (g.F.Folder.state c.args.folder.now) in
    let after = g.F.Folder.state c.prepare.new.folder in
    let old = g.K.Sink.state c.args.out.now in
    let new = g.K.Sink.state c.write_refusal.new.out in
    subst (λ (status : Status). KeepsTogether (ending_of call status after old new)) (sym c.status.ensures)
    (keeps_unread call after old new (ap is_nothing (runs c.args.request.now (g.F.Folder.state c.args.folder.now) c.requires.workers)) c.in-Err.stop c.in-Err.ensures.some_opened c.prepare.ensures.others c.in-Err.ensures.cause
    c.write_refusal.ensures.lines c.write_refusal.ensures.handed_on)
