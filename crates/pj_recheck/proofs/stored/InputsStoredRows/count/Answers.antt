use Rattle.pj_recheck.proofs.RowPairs.{rising_at}
use Rattle.pj_recheck.proofs.stored.InputsStoredRows.count.Goals as goal

pub returns-clause-rising : goal.returns-clause-rising
returns-clause-rising c = rising_at c.args.self.now.row_states.now c.args.input c.index-self-input.result c.if-input-self.false c.len.ensures.rising
