use Rattle.std.proofs.Common.{[], ◌++◌, refl, append-nil}
use Rattle.pj_report.specs.Sorted.{sorted_lines}
use Rattle.pj_report.specs.Written.{write_cut}
use Rattle.pj_report.proofs.LinesWritten.{stopped_first, stopped_then, written_then}
use Rattle.pj_report.proofs.kept.KeptLines.write_sorted.Goals as goal

pub returns-in_err-write_sorted-clause-lines : goal.returns-in_err-write_sorted-clause-lines
returns-in_err-write_sorted-clause-lines g c = λ t.
    let rows = sorted_lines c.args.self.now.rows in
    let puncts = sorted_lines c.args.self.now.puncts in
    stopped_first write_cut c.from_residual.result c.in_err-write_sorted.field-0.0 rows puncts (rows ++ puncts) (g.K.Sink.state c.args.out.now) (g.K.Sink.state c.write_sorted.new.out) (c.in_err-write_sorted.ensures.lines t) refl
    c.from_residual.ensures.1

pub returns-in_err-write_sorted-2-clause-lines : goal.returns-in_err-write_sorted-2-clause-lines
returns-in_err-write_sorted-2-clause-lines g c = λ t.
    let rows = sorted_lines c.args.self.now.rows in
    let puncts = sorted_lines c.args.self.now.puncts in
    stopped_then write_cut c.from_residual-in_err-write_sorted-2.result c.in_err-write_sorted-2.field-0.0 rows puncts [] (rows ++ puncts) (g.K.Sink.state c.args.out.now) (g.K.Sink.state c.write_sorted.new.out)
    (g.K.Sink.state c.write_sorted-2.new.out) (c.in_ok-write_sorted.ensures.lines (c.in_err-write_sorted-2.ensures.told t)) (c.in_err-write_sorted-2.ensures.lines t) (append-nil (rows ++ puncts))
    c.from_residual-in_err-write_sorted-2.ensures.1

pub returns-clause-lines : goal.returns-clause-lines
returns-clause-lines g c = λ t.
    written_then (sorted_lines c.args.self.now.rows) (sorted_lines c.args.self.now.puncts) (g.K.Sink.state c.args.out.now).written (g.K.Sink.state c.write_sorted.new.out).written (g.K.Sink.state c.write_sorted-2.new.out).written
    (c.in_ok-write_sorted.ensures.lines (c.in_ok-write_sorted-2.ensures.told t)) (c.in_ok-write_sorted-2.ensures.lines t)
