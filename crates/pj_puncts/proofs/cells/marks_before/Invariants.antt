use Rattle.std.proofs.Common.{◌≡◌, ◌≤◌, take}
use Rattle.pj_puncts.specs.Givens.{marked}
use Rattle.pj_puncts.proofs.cells.marks_before.Given as goal

abbrev pub invariant-loop-at : goal.invariant-loop-at
invariant-loop-at l = (l.count ≤ l.at) × (l.count ≡ marked (take l.at l.scheme))
