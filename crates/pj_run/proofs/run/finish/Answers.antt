use Rattle.pj_report.specs.declared.stops.WriteStop.TheVariants.{Failed}
use Rattle.pj_run.proofs.WholeLaws.{leaves_lines, leaves_then, lines_wrote, stop_wrote, withheld_are_lines, wrote_same, wrote_then}
use Rattle.std.proofs.Common.{[], ◌++◌, ◌∙◌, refl, append-nil}
use Rattle.pj_report.specs.Forms.{withheld}
use Rattle.pj_report.specs.Written.{write_cut}
use Rattle.pj_report.proofs.LinesWritten.{stopped_first, stopped_none, stopped_then, written_then}
use Rattle.pj_run.specs.Outcome.{report_lines}
use Rattle.pj_run.proofs.run.finish.Goals as goal

pub returns-in_err-finish-clause-lines : goal.returns-in_err-finish-clause-lines
returns-in_err-finish-clause-lines g c = λ outputs is told history stands.
    let form = c.args.gathered.now.results.form in
    let report = report_lines c.args.core.now.plan c.args.tallies.now c.args.gathered.now history in
    stopped_first write_cut c.from_residual.result c.in_err-finish.field-0.0 (withheld form outputs) report (withheld form outputs ++ report) (g.K.Sink.state c.args.out.now) (g.K.Sink.state c.finish.new.out)
    (c.in_err-finish.ensures.lines form outputs is told) refl c.from_residual.ensures.1

pub returns-in_err-write_report-clause-lines : goal.returns-in_err-write_report-clause-lines
returns-in_err-write_report-clause-lines g c = λ outputs is told history stands.
    let form = c.args.gathered.now.results.form in
    let report = report_lines c.args.core.now.plan c.args.tallies.now c.args.gathered.now history in
    stopped_then write_cut c.from_residual-in_err-write_report.result c.in_err-write_report.field-0.0 (withheld form outputs) report [] (withheld form outputs ++ report) (g.K.Sink.state c.args.out.now) (g.K.Sink.state c.finish.new.out) (g.K.Sink.state c.write_report.new.out)
    (c.in_ok-finish.ensures.lines form outputs is (c.in_err-write_report.ensures.told told)) (c.in_err-write_report.ensures.lines told history stands) (append-nil (withheld form outputs ++ report)) c.from_residual-in_err-write_report.ensures.1

-- ---- a flush writes nothing more

pub returns-in_err-flush-clause-lines : goal.returns-in_err-flush-clause-lines
returns-in_err-flush-clause-lines g c = λ outputs is told history stands.
    let form = c.args.gathered.now.results.form in
    let report = report_lines c.args.core.now.plan c.args.tallies.now c.args.gathered.now history in
    let lines = withheld form outputs ++ report in
    let first = g.K.Sink.state c.finish.new.out in
    let second = g.K.Sink.state c.write_report.new.out in
    let told_second = c.in_err-flush.ensures.told told in
    stopped_none write_cut c.from_residual-in_err-flush.result _ lines [] lines (g.K.Sink.state c.args.out.now) (g.K.Sink.state c.flush.new.self)
    (c.in_err-flush.ensures.bytes told ∙ written_then (withheld form outputs) report (g.K.Sink.state c.args.out.now).written first.written second.written
    (c.in_ok-finish.ensures.lines form outputs is (c.in_ok-write_report.ensures.told told_second)) (c.in_ok-write_report.ensures.lines told_second history stands))
    (append-nil lines) c.from_residual-in_err-flush.ensures.1

pub returns-clause-lines : goal.returns-clause-lines
returns-clause-lines g c = λ outputs is told history stands.
    let form = c.args.gathered.now.results.form in
    let report = report_lines c.args.core.now.plan c.args.tallies.now c.args.gathered.now history in
    let first = g.K.Sink.state c.finish.new.out in
    let second = g.K.Sink.state c.write_report.new.out in
    let told_second = c.in_ok-flush.ensures.told told in
    c.in_ok-flush.ensures.bytes told ∙ written_then (withheld form outputs) report (g.K.Sink.state c.args.out.now).written first.written second.written
    (c.in_ok-finish.ensures.lines form outputs is (c.in_ok-write_report.ensures.told told_second)) (c.in_ok-write_report.ensures.lines told_second history stands)

-- ---- whole lines

pub returns-in_err-finish-clause-whole : goal.returns-in_err-finish-clause-whole
returns-in_err-finish-clause-whole g c = λ form taken plain told.
    let why = c.in_err-finish.field-0.0 in
    let old = g.K.Sink.state c.args.out.now in
    let first = g.K.Sink.state c.finish.new.out in
    stop_wrote write_cut c.from_residual.result why old first
    (leaves_lines (write_cut why) (withheld form taken.0) old.written first.written (withheld_are_lines form taken.0) (c.in_err-finish.ensures.lines form taken.0 taken.1 told)) c.from_residual.ensures.1

pub returns-in_err-write_report-clause-whole : goal.returns-in_err-write_report-clause-whole
returns-in_err-write_report-clause-whole g c = λ form taken plain told.
    let why = c.in_err-write_report.field-0.0 in
    let old = g.K.Sink.state c.args.out.now in
    let first = g.K.Sink.state c.finish.new.out in
    let second = g.K.Sink.state c.write_report.new.out in
    stop_wrote write_cut c.from_residual-in_err-write_report.result why old second
    (leaves_then (write_cut why) old.written first.written second.written
    (lines_wrote (withheld form taken.0) old.written first.written (withheld_are_lines form taken.0) (c.in_ok-finish.ensures.lines form taken.0 taken.1 (c.in_err-write_report.ensures.told told)))
    (c.in_err-write_report.ensures.whole plain told)) c.from_residual-in_err-write_report.ensures.1

pub returns-in_err-flush-clause-whole : goal.returns-in_err-flush-clause-whole
returns-in_err-flush-clause-whole g c = λ form taken plain told.
    stop_wrote write_cut c.from_residual-in_err-flush.result Failed (g.K.Sink.state c.args.out.now) (g.K.Sink.state c.flush.new.self) tt c.from_residual-in_err-flush.ensures.1

pub returns-clause-whole : goal.returns-clause-whole
returns-clause-whole g c = λ form taken plain told.
    let old = g.K.Sink.state c.args.out.now in
    let first = g.K.Sink.state c.finish.new.out in
    let second = g.K.Sink.state c.write_report.new.out in
    let third = g.K.Sink.state c.flush.new.self in
    let told_second = c.in_ok-flush.ensures.told told in
    wrote_same old.written second.written third.written (c.in_ok-flush.ensures.bytes told)
    (wrote_then old.written first.written second.written
    (lines_wrote (withheld form taken.0) old.written first.written (withheld_are_lines form taken.0) (c.in_ok-finish.ensures.lines form taken.0 taken.1 (c.in_ok-write_report.ensures.told told_second)))
    (c.in_ok-write_report.ensures.whole plain told_second))
