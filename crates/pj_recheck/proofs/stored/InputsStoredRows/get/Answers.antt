use Rattle.std.proofs.Common.{◌∙◌, sym}
use Rattle.pj_recheck.proofs.RowPairs.{none_there, under_pair}
use Rattle.pj_recheck.proofs.stored.InputsStoredRows.get.Goals as goal

pub returns : goal.returns
returns c = c.get.ensures ∙ under_pair c.args.self.now.row_states.now c.args.input c.args.ticket c.index-self-input.result c.if-input-self.false

pub returns-then-input-self : goal.returns-then-input-self
returns-then-input-self c = sym (none_there c.args.self.now.row_states.now c.args.input c.args.ticket c.if-input-self.true)
