use Rattle.std.proofs.Common.{◌≡◌, drop}
use Rattle.pj_events.specs.Patterns.{covers}
use Rattle.pj_puncts.specs.Givens.{one_cell}
use Rattle.pj_puncts.proofs.one_cell.are_covered.Given as goal

abbrev pub invariant-loop-at : goal.invariant-loop-at
invariant-loop-at l = covers l.patterns (one_cell l.count l.column l.value) ≡ covers (drop l.at l.patterns) (drop l.at (one_cell l.count l.column l.value))
