use Rattle.std.proofs.Common.{◌∙◌, get_or, sym}
use Rattle.pj_recheck.proofs.RowPairs.{rising_at, with_pair}
use Rattle.pj_rows.proofs.Indexed.{indexed-in}
use Rattle.pj_recheck.proofs.stored.InputsStoredRows.tickets_with.Goals as goal

pub tickets-requires : goal.tickets-requires
tickets-requires c = indexed-in c.args.column (get_or c.args.self.now.row_states.now c.args.input c.index-self-input.result).columns (sym c.is_indexed.ensures ∙ c.if-not-is_indexed.false)

pub returns-clause-tickets : goal.returns-clause-tickets
returns-clause-tickets c = c.tickets.ensures.tickets ∙ with_pair c.args.self.now.row_states.now c.args.input c.args.column c.args.value.now c.index-self-input.result c.if-input-self.false

pub returns-clause-rising : goal.returns-clause-rising
returns-clause-rising c = rising_at c.args.self.now.row_states.now c.args.input c.index-self-input.result c.if-input-self.false c.tickets.ensures.rising
