use Rattle.std.proofs.Common.{◌≡◌, refl, sym, subst, false}
use Rattle.pj_io.specs.States.{FolderState}
use Rattle.pj_report.specs.declared.status.Status.{Status}
use Rattle.pj_words.specs.declared.request.Request.{Request}
use Rattle.pj_words.specs.declared.request.Request.TheVariants.{Run as RunRequest, Replay, Check as CheckRequest, Make as MakeRequest}
use Rattle.pj_prepare.specs.Calls.{is_nothing, call_for}
use Rattle.pj_alone.specs.Endings.{ending_of}
use Rattle.pj_alone.specs.Promises.{KeepsAll}
use Rattle.pj_prepare.specs.Scripts.{IsPrepared}
use Rattle.pj_alone.proofs.MadeLaws.{keeps_make, ready_make}
use Rattle.pj_alone.proofs.PlanPromises.{keeps_refused}
use Rattle.pj_alone.proofs.RunPromises.{prepared_so}
use Rattle.pj_alone.proofs.VerdictLaws.{keeps_verdict, ready_check}
use Rattle.pj_alone.proofs.alone.answer.Given.{Over}
use Rattle.pj_alone.proofs.alone.answer.Goals.{In-Ok-Run, After-write_made, After-write_verdict}
use Rattle.pj_alone.proofs.alone.answer.Goals as goal

-- a request asks for something
something : (request : Request) (folder : FolderState) → is_nothing (call_for request folder).task ≡ false
something (RunRequest plan files workers sorted trace check limit) folder = refl
something (Replay plan script files trace limit) folder = refl
something (CheckRequest plan print) folder = refl
something (MakeRequest seed count) folder = refl

-- ---- a plan was run

-- the plan was read, and is to be run
prepared : (g : Over) (c : In-Ok-Run g) → IsPrepared c.in-Ok-Run.ready (call_for c.args.request.now (g.F.Folder.state c.args.folder.now)) (g.F.Folder.state c.prepare.new.folder)
prepared g c =
    let call = call_for c.args.request.now (g.F.Folder.state c.args.folder.now) in
    let e = c.in-Ok-Run.ensures in
    prepared_so call _ c.in-Ok-Run.ready (g.F.Folder.state c.prepare.new.folder) e.ready c.in-Ok-Run.field-0-is e.told e.contents e.last e.was_opened c.prepare.ensures.others e.later

pub write_run-requires : goal.write_run-requires
write_run-requires g c = (g.F.Folder.state c.args.folder.now, prepared g (goal.at.write_run-requires g c).In-Ok-Run)

pub returns-in-Ok-Run : goal.returns-in-Ok-Run
returns-in-Ok-Run g c = c.write_run.ensures (g.F.Folder.state c.args.folder.now) (prepared g (goal.at.returns-in-Ok-Run g c).In-Ok-Run)

-- ---- the plan was checked

checked : (g : Over) (c : After-write_verdict g) → KeepsAll (ending_of (call_for c.args.request.now (g.F.Folder.state c.args.folder.now)) c.write_verdict.result (g.F.Folder.state c.prepare.new.folder) (g.K.Sink.state c.args.out.now) (g.K.Sink.state c.write_verdict.new.out))
checked g c =
    let call = call_for c.args.request.now (g.F.Folder.state c.args.folder.now) in
    let e = c.in-Ok-Check.ensures in
    let v = c.write_verdict.ensures in
    keeps_verdict call c.in-Ok-Check.print c.in-Ok-Check.plan (ready_check _ _ _ _ e.ready c.in-Ok-Check.field-0-is) (g.K.Sink.state c.args.out.now) (g.K.Sink.state c.write_verdict.new.out)
    c.write_verdict.result (g.F.Folder.state c.prepare.new.folder) v.verdict e.was_opened c.prepare.ensures.others e.last v.handed_on v.all_handed_on

pub returns-in-Ok-Check : goal.returns-in-Ok-Check
returns-in-Ok-Check g c = checked g (goal.at.returns-in-Ok-Check g c).After-write_verdict

-- ---- an input was made

made : (g : Over) (c : After-write_made g) → KeepsAll (ending_of (call_for c.args.request.now (g.F.Folder.state c.args.folder.now)) c.write_made.result (g.F.Folder.state c.prepare.new.folder) (g.K.Sink.state c.args.out.now) (g.K.Sink.state c.write_made.new.out))
made g c =
    let call = call_for c.args.request.now (g.F.Folder.state c.args.folder.now) in
    let e = c.in-Ok-Make.ensures in
    let m = c.write_made.ensures in
    keeps_make call c.in-Ok-Make.seed c.in-Ok-Make.count (ready_make call _ c.in-Ok-Make.seed c.in-Ok-Make.count e.ready c.in-Ok-Make.field-0-is) (g.K.Sink.state c.args.out.now) (g.K.Sink.state c.write_made.new.out)
    c.write_made.result (g.F.Folder.state c.prepare.new.folder) m.left m.runs e.was_opened c.prepare.ensures.others m.handed_on m.all_handed_on

pub returns-in-Ok-Make : goal.returns-in-Ok-Make
returns-in-Ok-Make g c = made g (goal.at.returns-in-Ok-Make g c).After-write_made

-- ---- the plan was not had

pub returns-in-Err : goal.returns-in-Err
returns-in-Err g c =
    let call = call_for c.args.request.now (g.F.Folder.state c.args.folder.now) in
    let after = g.F.Folder.state c.prepare.new.folder in
    let old = g.K.Sink.state c.args.out.now in
    let new = g.K.Sink.state c.write_refusal.new.out in
    subst (λ (status : Status). KeepsAll (ending_of call status after old new)) (sym c.status.ensures)
    (keeps_refused call after old new (something c.args.request.now (g.F.Folder.state c.args.folder.now)) c.in-Err.stop c.in-Err.ensures.some_opened c.prepare.ensures.others c.in-Err.ensures.cause c.write_refusal.ensures.lines c.write_refusal.ensures.handed_on)
