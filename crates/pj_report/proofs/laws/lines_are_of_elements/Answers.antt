use Rattle.pj_report.proofs.Counting.{lines_not_notes, unnoted_lines}
use Rattle.pj_report.proofs.laws.lines_are_of_elements.Goals as goal

pub returns-clause-unnoted : goal.returns-clause-unnoted
returns-clause-unnoted c = unnoted_lines

pub returns-clause-results : goal.returns-clause-results
returns-clause-results c = lines_not_notes
