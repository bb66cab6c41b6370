use Rattle.std.proofs.Common.{ℕ, List, [], refl, sym, subst, ◌∙◌}
use Rattle.pj_io.specs.States.{FolderState}
use Rattle.pj_report.specs.declared.status.Status.{Status}
use Rattle.pj_report.specs.Report.{status_line, HasLine}
use Rattle.pj_report.specs.Written.{Delivered}
use Rattle.pj_prepare.specs.Calls.{call_for}
use Rattle.pj_alone.specs.Endings.{ending_of}
use Rattle.pj_alone.specs.Promises.{KeepsAll}
use Rattle.pj_plan.specs.declared.node.PlanNode.{PlanNode}
use Rattle.pj_prepare.specs.Scripts.{HasSteps, IsPrepared, IsSetUp, StepsCause}
use Rattle.pj_prepare.specs.Stops.{steps_status}
use Rattle.pj_alone.proofs.RunPromises.{scripted}
use Rattle.pj_alone.proofs.ScriptLaws.{keeps_unscripted, steps_line}
use Rattle.pj_alone.proofs.run.write_run.Given.{Over}
use Rattle.pj_alone.proofs.run.write_run.Goals.{In-Ok}
use Rattle.pj_alone.proofs.run.write_run.Goals as goal

-- the script was read, if there is one
read : (g : Over) (c : In-Ok g) (first : FolderState) → IsPrepared c.args.ready (call_for c.args.request.now first) (g.F.Folder.state c.args.folder.now)
    → IsSetUp c.args.ready c.in-Ok.script (call_for c.args.request.now first) (g.F.Folder.state c.read_steps.new.folder)
read g c first p =
    scripted (call_for c.args.request.now first) c.args.ready c.in-Ok.script (g.F.Folder.state c.args.folder.now) (g.F.Folder.state c.read_steps.new.folder) p
    (subst (λ (nodes : List PlanNode). HasSteps (call_for c.args.request.now first).script nodes (g.F.Folder.state c.args.folder.now) c.in-Ok.script) c.plan.ensures c.in-Ok.ensures.steps) c.read_steps.ensures.told c.read_steps.ensures.contents c.read_steps.ensures.later c.in-Ok.ensures.reads

pub write_files-requires : goal.write_files-requires
write_files-requires g c =
    let a = (goal.at.write_files-requires g c).In-Ok in
    (call_for c.args.request.now c.requires.0, read g a c.requires.0 c.requires.1, c.files_in.ensures c.requires.0)

pub returns-in-Ok : goal.returns-in-Ok
returns-in-Ok g c = λ first p.
    let a = (goal.at.returns-in-Ok g c).In-Ok in
    c.write_files.ensures (call_for c.args.request.now first) (read g a first p) (c.files_in.ensures first)

pub returns-in-Err : goal.returns-in-Err
returns-in-Err g c = λ first p.
    let call = call_for c.args.request.now first in
    let none = c.in-Err.ensures.none in
    let old = g.K.Sink.state c.args.out.now in
    let new = g.K.Sink.state c.write_status.new.out in
    let folder = g.F.Folder.state c.read_steps.new.folder in
    subst (λ (st : Status). KeepsAll (ending_of call st folder old new)) (sym c.status-status.ensures)
    (keeps_unscripted call c.args.ready (g.F.Folder.state c.args.folder.now) folder p none.name none.is none.others old new c.in-Err.stop none.opened
    (subst (λ (nodes : List PlanNode). StepsCause c.in-Err.stop none.name nodes (g.F.Folder.state c.args.folder.now) folder) c.plan.ensures none.cause)
    (subst (λ (st : Status). Delivered (status_line [] st) old new) c.status-status.ensures c.write_status.ensures.line)
    (c.write_status.ensures.handed_on (subst HasLine (sym c.status-status.ensures) (steps_line c.in-Err.stop))))
