use Rattle.std.proofs.Common.{List, ℕ, ap, subst}
use Rattle.pj_report.specs.declared.writer.ResultWriter.{ResultWriter}
use Rattle.pj_report.specs.Written.{WritesBy, write_cut}
use Rattle.pj_report.proofs.Forms.{kept_sorted}
use Rattle.pj_report.proofs.writer.ResultWriter.finish.Goals as goal

pub returns-clause-lines : goal.returns-clause-lines
returns-clause-lines g c = λ form all is t.
    subst (λ (lines : List (List ℕ)). WritesBy write_cut lines (g.K.Sink.state c.args.out.now) (g.K.Sink.state c.write_sorted.new.out) c.write_sorted.result)
    (kept_sorted form all c.args.self.now.kept (ap (λ (w : ResultWriter). w.kept) is)) (c.write_sorted.ensures.lines t)
