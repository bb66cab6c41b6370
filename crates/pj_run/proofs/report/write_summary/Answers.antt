use Rattle.pj_run.proofs.Notes.{total_note}
use Rattle.pj_run.proofs.WholeLaws.{leaves_lines, leaves_then, lines_wrote, note_is_line, stop_wrote, wrote_then}
use Rattle.std.proofs.Common.{◌≡◌, [], ◌∷◌, ◌++◌, refl, append-nil, subst, arith, to_z, of_z}
use Rattle.std.proofs.lemmas.Int.{ints}
use Rattle.std.specs.Int.{w64}
use Rattle.std.specs.Prelude.{ℤ}
use Rattle.pj_report.specs.Report.{total_line}
use Rattle.pj_report.specs.Written.{flat, write_cut, Leaves}
use Rattle.pj_report.proofs.LinesWritten.{stopped_first, stopped_then, written_then}
use Rattle.pj_run.specs.Runs.{form_report, peaks_report}
use Rattle.pj_report.specs.declared.writer.Form.TheVariants.{Summed}
use Rattle.pj_run.proofs.report.write_summary.Goals as goal

pub returns-in_err-write_peaks-clause-lines : goal.returns-in_err-write_peaks-clause-lines
returns-in_err-write_peaks-clause-lines g c = λ told history stands.
    let plan = c.args.core.now.plan in
    stopped_first write_cut c.from_residual.result c.in_err-write_peaks.field-0.0 (peaks_report plan history) (total_line c.args.total ∷ []) (form_report Summed c.args.total plan history) (g.K.Sink.state c.args.out.now) (g.K.Sink.state c.write_peaks.new.out)
    (c.in_err-write_peaks.ensures.lines told history stands) refl c.from_residual.ensures.1

pub returns-in_err-write_total-clause-lines : goal.returns-in_err-write_total-clause-lines
returns-in_err-write_total-clause-lines g c = λ told history stands.
    let plan = c.args.core.now.plan in
    let same : to_z w64 (of_z w64 c.args.total) ≡ c.args.total = omega (arith, ints) in
    stopped_then write_cut c.from_residual-in_err-write_total.result c.in_err-write_total.field-0.0 (peaks_report plan history) (total_line c.args.total ∷ []) [] (form_report Summed c.args.total plan history) (g.K.Sink.state c.args.out.now) (g.K.Sink.state c.write_peaks.new.out)
    (g.K.Sink.state c.write_total.new.out) (c.in_ok-write_peaks.ensures.lines (c.in_err-write_total.ensures.told told) history stands) (subst (λ (total : ℤ). Leaves (write_cut c.in_err-write_total.field-0.0) (total_line total ∷ []) (g.K.Sink.state c.write_peaks.new.out).written (g.K.Sink.state c.write_total.new.out).written) same (c.in_err-write_total.ensures.lines told)) (append-nil (form_report Summed c.args.total plan history)) c.from_residual-in_err-write_total.ensures.1

pub returns-clause-lines : goal.returns-clause-lines
returns-clause-lines g c = λ told history stands.
    let plan = c.args.core.now.plan in
    let same : to_z w64 (of_z w64 c.args.total) ≡ c.args.total = omega (arith, ints) in
    written_then (peaks_report plan history) (total_line c.args.total ∷ []) (g.K.Sink.state c.args.out.now).written (g.K.Sink.state c.write_peaks.new.out).written (g.K.Sink.state c.write_total.new.out).written
    (c.in_ok-write_peaks.ensures.lines (c.in_ok-write_total.ensures.told told) history stands)
    (subst (λ (total : ℤ). (g.K.Sink.state c.write_total.new.out).written ≡ (g.K.Sink.state c.write_peaks.new.out).written ++ flat (total_line total ∷ [])) same (c.in_ok-write_total.ensures.lines told))

-- ---- whole lines

pub returns-in_err-write_peaks-clause-whole : goal.returns-in_err-write_peaks-clause-whole
returns-in_err-write_peaks-clause-whole g c = λ plain told.
    stop_wrote write_cut c.from_residual.result c.in_err-write_peaks.field-0.0 (g.K.Sink.state c.args.out.now) (g.K.Sink.state c.write_peaks.new.out) (c.in_err-write_peaks.ensures.whole plain told) c.from_residual.ensures.1

pub returns-in_err-write_total-clause-whole : goal.returns-in_err-write_total-clause-whole
returns-in_err-write_total-clause-whole g c = λ plain told.
    let why = c.in_err-write_total.field-0.0 in
    let old = g.K.Sink.state c.args.out.now in
    let mid = g.K.Sink.state c.write_peaks.new.out in
    let new = g.K.Sink.state c.write_total.new.out in
    stop_wrote write_cut c.from_residual-in_err-write_total.result why old new
    (leaves_then (write_cut why) old.written mid.written new.written (c.in_ok-write_peaks.ensures.whole plain (c.in_err-write_total.ensures.told told))
    (leaves_lines (write_cut why) _ mid.written new.written (note_is_line _ (total_note _)) (c.in_err-write_total.ensures.lines told)))
    c.from_residual-in_err-write_total.ensures.1

pub returns-clause-whole : goal.returns-clause-whole
returns-clause-whole g c = λ plain told.
    let old = g.K.Sink.state c.args.out.now in
    let mid = g.K.Sink.state c.write_peaks.new.out in
    let new = g.K.Sink.state c.write_total.new.out in
    wrote_then old.written mid.written new.written (c.in_ok-write_peaks.ensures.whole plain (c.in_ok-write_total.ensures.told told))
    (lines_wrote (total_line (to_z w64 (of_z w64 c.args.total)) ∷ []) mid.written new.written (note_is_line _ (total_note (to_z w64 (of_z w64 c.args.total)))) (c.in_ok-write_total.ensures.lines told))
