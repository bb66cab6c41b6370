use Rattle.std.proofs.Common.{arith}
use Rattle.pj_report.specs.Written.{write_cut}
use Rattle.pj_report.proofs.LineLists.{one_stopped, one_written}
use Rattle.pj_report.proofs.line_list.write_pieces.Goals as goal

pub returns-in_err-write_piece-clause-lines : goal.returns-in_err-write_piece-clause-lines
returns-in_err-write_piece-clause-lines g c = λ t.
    one_stopped write_cut c.from_residual.result c.in_err-write_piece.field-0.0 c.args.lines.now c.loop-line.line-index _ (g.K.Sink.state c.args.out.now) (g.K.Sink.state c.loop-line.out) (g.K.Sink.state c.write_piece.new.out)
    c.loop-line-test.true (c.loop-line.invariant.lines (c.in_err-write_piece.ensures.told t)) (λ ls is. c.in_err-write_piece.ensures.lines ls is t) c.from_residual.ensures.1

pub loop-line-preserved : goal.loop-line-preserved
loop-line-preserved g c =
    let old = g.K.Sink.state c.args.out.now in
    let mid = g.K.Sink.state c.loop-line.out in
    let new = g.K.Sink.state c.write_piece.new.out in
    record {
      later = omega (arith, c.in_ok-write_piece.ensures.later);
      told = λ t. c.loop-line.invariant.told (c.in_ok-write_piece.ensures.told t);
      lines = λ t. one_written c.args.lines.now c.loop-line.line-index _ old.written mid.written new.written c.loop-line-test.true (c.loop-line.invariant.lines (c.in_ok-write_piece.ensures.told t))
          (λ ls is. c.in_ok-write_piece.ensures.lines ls is t);
    }
