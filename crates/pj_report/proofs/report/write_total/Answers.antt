use Rattle.std.proofs.Common.{[], ◌∷◌, ap, ◌∙◌}
use Rattle.std.proofs.Math.Facts.{to_z-of_z}
use Rattle.std.specs.Int.{w64}
use Rattle.pj_report.specs.Report.{total_line}
use Rattle.pj_report.proofs.LinesWritten.{one_line}
use Rattle.pj_report.proofs.report.write_total.Goals as goal

pub returns-clause-lines : goal.returns-clause-lines
returns-clause-lines g c =
    c.in_ok-write_piece.ensures.lines (total_line c.args.total ∷ []) (one_line _ _ (c.as_slice.ensures ∙ (c.in_ok-total_text.ensures ∙ ap total_line (to_z-of_z {w = w64} {z = c.args.total} c.ranges.total))))
