use Rattle.pj_state.specs.States.{stored}
use Rattle.pj_state.proofs.Indexed.{IsTaken}
use Rattle.pj_state.proofs.state.take_from.Given as goal

abbrev pub invariant-loop-at : goal.invariant-loop-at
invariant-loop-at l = IsTaken l.columns l.initial.indexes.items l.indexes.items l.at (stored l.ticket l.row)
