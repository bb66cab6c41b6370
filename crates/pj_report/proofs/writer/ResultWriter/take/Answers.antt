use Rattle.pj_events.specs.Outcomes.{elements_out}
use Rattle.pj_report.specs.Forms.{shown}
use Rattle.pj_report.specs.Written.{write_cut}
use Rattle.pj_report.proofs.Forms.{kept_taken, sum_taken}
use Rattle.pj_report.proofs.Firsts.{first_still, kept_first, nothing_written}
use Rattle.pj_report.proofs.writer.ResultWriter.take.Goals as goal

pub returns-in_ok-keep-in-Sorted-clause-taken : goal.returns-in_ok-keep-in-Sorted-clause-taken
returns-in_ok-keep-in-Sorted-clause-taken g c = λ form before is.
    kept_taken c.args.self.now c.keep.new.counts c.keep.new.self before (elements_out c.args.outs.now) form c.in-Sorted.is c.in_ok-keep-in-Sorted.ensures.rows c.in_ok-keep-in-Sorted.ensures.puncts
    (c.in_ok-keep-in-Sorted.ensures.counted before) is

pub returns-in-Summed-clause-taken : goal.returns-in-Summed-clause-taken
returns-in-Summed-clause-taken g c = λ form before is.
    sum_taken c.args.self.now c.sum_outs.new.counts c.sum_outs.new.total before (elements_out c.args.outs.now) form c.in-Summed.is (c.sum_outs.ensures.counted before) (c.sum_outs.ensures.summed before) is

pub returns-in_err-keep-in-Sorted-clause-lines : goal.returns-in_err-keep-in-Sorted-clause-lines
returns-in_err-keep-in-Sorted-clause-lines g c = λ t. nothing_written write_cut c.from_residual-in_err-keep-in-Sorted.result _ (shown c.args.self.now.form c.args.plan.now.nodes c.args.outs.now) (g.K.Sink.state c.args.out.now) c.from_residual-in_err-keep-in-Sorted.ensures.1

pub returns-in_err-keep-in-Sorted-clause-refused : goal.returns-in_err-keep-in-Sorted-clause-refused
returns-in_err-keep-in-Sorted-clause-refused g c =
    first_still c.from_residual-in_err-keep-in-Sorted.result c.args.outs.now _ _ (λ es more. kept_first c.args.self.now c.keep.new.counts c.keep.new.self es c.in-Sorted.is more) c.in_err-keep-in-Sorted.ensures.refused
