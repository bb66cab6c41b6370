use Rattle.std.proofs.Common.{◌∙◌}
use Rattle.pj_element.specs.Runs.{fed}
use Rattle.pj_report.proofs.StopLaws.{cut_delivered}
use Rattle.pj_report.proofs.status_line.deliver_line.Goals as goal

pub returns-in_err-write_all-clause-line : goal.returns-in_err-write_all-clause-line
returns-in_err-write_all-clause-line g c = λ t.
    cut_delivered c.as_slice.result.now (fed c.args.text.items) (g.K.Sink.state c.args.out.now) (g.K.Sink.state c.write_all.new.sink) (c.in_err-write_all.ensures.bytes t)
    c.in_err-write_all.ensures.cause.failed (c.as_slice.ensures.value ∙ c.push.ensures.items) t
