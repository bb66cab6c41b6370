use Rattle.std.proofs.Common.{◌≡◌, ℕ, List, ◌++◌, subst, arith}
use Rattle.pj_io.specs.Pieces.{GrewByLess}
use Rattle.pj_report.proofs.StopLaws.{line_cut, line_more}
use Rattle.pj_report.proofs.status_line.deliver_lines.Goals as goal

pub returns-in_err-write_all-clause-lines : goal.returns-in_err-write_all-clause-lines
returns-in_err-write_all-clause-lines g c = λ t.
    let mid = g.K.Sink.state c.loop-line.out in
    let new = g.K.Sink.state c.write_all.new.sink in
    line_cut c.args.lines.now c.loop-line.line-index c.line-item.result (g.K.Sink.state c.args.out.now) mid new c.loop-line-test.true c.line-item.is (c.loop-line.invariant.lines (c.in_err-write_all.ensures.told t)) c.loop-line.invariant.later
    (subst (GrewByLess mid.written new.written) c.as_slice.ensures (c.in_err-write_all.ensures.bytes t)) c.in_err-write_all.ensures.cause.failed t

pub loop-line-preserved : goal.loop-line-preserved
loop-line-preserved g c =
    let mid = g.K.Sink.state c.loop-line.out in
    let new = g.K.Sink.state c.write_all.new.sink in
    record {
      later = omega (arith, c.loop-line.invariant.later, c.in_ok-write_all.ensures.cause.later);
      told = λ t. c.loop-line.invariant.told (c.in_ok-write_all.ensures.told t);
      lines = λ t. line_more c.args.lines.now c.loop-line.line-index c.line-item.result (g.K.Sink.state c.args.out.now).written mid.written new.written c.loop-line-test.true c.line-item.is
          (c.loop-line.invariant.lines (c.in_ok-write_all.ensures.told t)) (subst (λ (piece : List ℕ). new.written ≡ mid.written ++ piece) c.as_slice.ensures (c.in_ok-write_all.ensures.bytes t));
    }
