use Rattle.pj_state.proofs.Empty.{AreEmpty}
use Rattle.pj_state.proofs.state.empty_indexes.Given as goal

abbrev pub invariant-loop-column : goal.invariant-loop-column
invariant-loop-column l = AreEmpty l.indexes.items l.column-index
