use Rattle.std.proofs.Common.{◌≡◌, drop}
use Rattle.pj_puncts.specs.Givens.{none_marked}
use Rattle.pj_puncts.proofs.one_cell.none_marked_from.Given as goal

abbrev pub invariant-loop-column : goal.invariant-loop-column
invariant-loop-column l = none_marked (drop l.from l.scheme) ≡ none_marked (drop l.column l.scheme)
