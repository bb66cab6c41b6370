use Rattle.std.proofs.Common.{[], ◌∷◌, ◌∙◌}
use Rattle.pj_report.specs.Report.{results_text}
use Rattle.pj_report.proofs.LinesWritten.{one_line}
use Rattle.pj_report.proofs.report.write_results.Goals as goal

pub returns-clause-lines : goal.returns-clause-lines
returns-clause-lines g c = c.in_ok-write_piece.ensures.lines (results_text c.args.rows c.args.puncts ∷ []) (one_line _ _ (c.as_slice.ensures ∙ c.in_ok-counts_text.ensures))
