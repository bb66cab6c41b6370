use Rattle.std.proofs.Common.{[], ◌∷◌, ◌∙◌}
use Rattle.pj_report.specs.Report.{peak_line}
use Rattle.pj_report.proofs.LinesWritten.{one_line}
use Rattle.pj_report.proofs.report.write_peak_line.Goals as goal

pub returns-clause-lines : goal.returns-clause-lines
returns-clause-lines g c = c.in_ok-write_piece.ensures.lines (peak_line c.args.name.now c.args.peak ∷ []) (one_line _ _ (c.as_slice.ensures ∙ c.in_ok-peak_text.ensures))
