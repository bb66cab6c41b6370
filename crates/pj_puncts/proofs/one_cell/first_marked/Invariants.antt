use Rattle.std.proofs.Common.{◌≡◌, ◌+◌, drop}
use Rattle.pj_puncts.specs.Givens.{first_marked}
use Rattle.pj_puncts.proofs.one_cell.first_marked.Given as goal

abbrev pub invariant-loop-column : goal.invariant-loop-column
invariant-loop-column l = first_marked l.scheme ≡ l.column + first_marked (drop l.column l.scheme)
