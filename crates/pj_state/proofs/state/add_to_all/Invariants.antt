use Rattle.pj_state.specs.States.{stored}
use Rattle.pj_state.proofs.Indexed.{IsAdded}
use Rattle.pj_state.proofs.state.add_to_all.Given as goal

abbrev pub invariant-loop-at : goal.invariant-loop-at
invariant-loop-at l = IsAdded l.columns l.initial.indexes.items l.indexes.items l.at (stored l.ticket l.row)
