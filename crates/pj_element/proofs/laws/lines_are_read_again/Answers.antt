use Rattle.pj_element.proofs.LinesAgain.{row_again, punct_again}
use Rattle.pj_element.proofs.laws.lines_are_read_again.Goals as goal

pub returns : goal.returns
returns c = record { rows = row_again; puncts = punct_again }
