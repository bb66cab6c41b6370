use Rattle.pj_recheck.proofs.RowPairs.{pair_there}
use Rattle.pj_recheck.proofs.stored.InputsStoredRows.nth.Goals as goal

pub returns : goal.returns
returns c = pair_there c.args.self.now.row_states.now c.args.input c.args.at c.index-self-input.result c.nth.result.0 c.nth.result.1.now c.requires c.nth.ensures
