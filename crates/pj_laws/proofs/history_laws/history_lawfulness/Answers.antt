use Rattle.pj_laws.proofs.HistoryAnswers.{hands_out-lawfully}
use Rattle.pj_laws.proofs.history_laws.history_lawfulness.Goals as goal

pub returns : goal.returns
returns c = hands_out-lawfully
