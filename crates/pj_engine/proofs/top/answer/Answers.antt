use Rattle.std.proofs.Common.{◌∙◌, Option, Err, refl, ap, sym, subst}
use Rattle.pj_words.specs.declared.request.Request.{Request}
use Rattle.pj_prepare.specs.Calls.{call_by, wanted}
use Rattle.pj_alone.specs.Endings.{ending_of}
use Rattle.pj_report.specs.declared.status.Status.TheVariants.{Usage}
use Rattle.pj_engine.specs.Threads.{KeepsOn}
use Rattle.pj_engine.specs.Words.{call_of, workers_by, workers_in}
use Rattle.pj_engine.proofs.Keeping.{on_memory, on_usage}
use Rattle.pj_engine.proofs.top.answer.Goals as goal

pub returns-in-Ok-clause-keeps : goal.returns-in-Ok-clause-keeps
returns-in-Ok-clause-keeps g c =
    subst (λ (asked : Option Request). KeepsOn (workers_by asked) (ending_of (call_by (wanted asked) (g.F.Folder.state c.args.folder.now)) c.run_request.result (g.F.Folder.state c.run_request.new.folder) (g.K.Sink.state c.args.out.now) (g.K.Sink.state c.run_request.new.out)))
    (sym c.in-Ok.ensures.ok) c.run_request.ensures

pub returns-in-Err-Usage-clause-keeps : goal.returns-in-Err-Usage-clause-keeps
returns-in-Err-Usage-clause-keeps g c =
    let folder = g.F.Folder.state c.args.folder.now in
    let old = g.K.Sink.state c.args.out.now in
    let new = g.K.Sink.state c.write_status.new.out in
    subst (λ (asked : Option Request). KeepsOn (workers_by asked) (ending_of (call_by (wanted asked) folder) Usage folder old new)) (sym (c.request_of.ensures.usage (c.in-Err-Usage.is ∙ ap Err c.in-Err-Usage.field-0-is)))
    (on_usage 0 folder old new c.write_status.ensures.line (c.write_status.ensures.handed_on tt))

pub returns-in-Err-NoMemory-clause-keeps : goal.returns-in-Err-NoMemory-clause-keeps
returns-in-Err-NoMemory-clause-keeps g c =
    let folder = g.F.Folder.state c.args.folder.now in
    on_memory (workers_in c.args.words.now) (call_of c.args.words.now folder) folder (g.K.Sink.state c.args.out.now) (g.K.Sink.state c.write_status-in-Err-NoMemory.new.out) refl c.write_status-in-Err-NoMemory.ensures.line (c.write_status-in-Err-NoMemory.ensures.handed_on tt)
