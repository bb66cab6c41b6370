use Rattle.std.proofs.Common.{[], ◌∷◌, ◌∙◌}
use Rattle.pj_report.specs.Report.{check_line}
use Rattle.pj_report.proofs.LinesWritten.{one_line}
use Rattle.pj_report.proofs.report.write_check.Goals as goal

pub returns-clause-lines : goal.returns-clause-lines
returns-clause-lines g c = c.in_ok-write_piece.ensures.lines (check_line c.args.rows ∷ []) (one_line _ _ (c.as_slice.ensures ∙ c.in_ok-check_text.ensures))
