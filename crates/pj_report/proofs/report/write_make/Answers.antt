use Rattle.std.proofs.Common.{[], ◌∷◌, ◌∙◌}
use Rattle.pj_report.specs.Report.{make_line}
use Rattle.pj_report.proofs.LinesWritten.{one_line}
use Rattle.pj_report.proofs.report.write_make.Goals as goal

pub returns-clause-lines : goal.returns-clause-lines
returns-clause-lines g c = c.in_ok-write_piece.ensures.lines (make_line c.args.seed c.args.count ∷ []) (one_line _ _ (c.as_slice.ensures ∙ c.in_ok-make_text.ensures))
