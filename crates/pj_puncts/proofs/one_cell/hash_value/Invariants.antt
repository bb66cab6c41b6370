use Rattle.std.proofs.Common.{◌≡◌, drop}
use Rattle.pj_puncts.specs.Givens.{one_cell}
use Rattle.pj_puncts.specs.Hashes.{hash_from}
use Rattle.pj_puncts.proofs.one_cell.hash_value.Given as goal

abbrev pub invariant-loop-at : goal.invariant-loop-at
invariant-loop-at l = hash_from 0 l.marks (one_cell l.count l.column l.value) ≡ hash_from l.hash_value (drop l.at l.marks) (drop l.at (one_cell l.count l.column l.value))
