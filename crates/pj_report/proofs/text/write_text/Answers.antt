use Rattle.std.proofs.Common.{◌-◌, arith}
use Rattle.pj_report.proofs.StopLaws.{cut_between, written_up}
use Rattle.pj_report.proofs.text.write_text.Goals as goal

pub returns-in_err-write_all-clause-text : goal.returns-in_err-write_all-clause-text
returns-in_err-write_all-clause-text g c = λ t.
    let at = c.loop-at.at in
    cut_between c.args.text.now at (c.line_end-end.result - at) (g.K.Sink.state c.args.out.now) (g.K.Sink.state c.loop-at.out) (g.K.Sink.state c.write_all.new.sink)
    (c.loop-at.invariant.text (c.in_err-write_all.ensures.told t)) c.loop-at.invariant.later (c.in_err-write_all.ensures.bytes t) c.in_err-write_all.ensures.cause.failed t

pub loop-at-preserved : goal.loop-at-preserved
loop-at-preserved g c =
    let old = g.K.Sink.state c.args.out.now in
    let mid = g.K.Sink.state c.loop-at.out in
    let new = g.K.Sink.state c.write_all.new.sink in
    let at = c.loop-at.at in
    record {
      within = c.line_end-end.ensures.within;
      later = omega (arith, c.loop-at.invariant.later, c.in_ok-write_all.ensures.cause.later);
      told = λ t. c.loop-at.invariant.told (c.in_ok-write_all.ensures.told t);
      text = λ t. written_up c.args.text.now at c.line_end-end.result old.written mid.written new.written (omega (arith, c.line_end-end.ensures.behind)) (c.loop-at.invariant.text (c.in_ok-write_all.ensures.told t)) (c.in_ok-write_all.ensures.bytes t);
    }
