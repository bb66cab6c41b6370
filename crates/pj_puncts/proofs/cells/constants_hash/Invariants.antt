use Rattle.std.proofs.Common.{◌≡◌, drop}
use Rattle.pj_puncts.specs.Hashes.{constants_of, hash_from}
use Rattle.pj_puncts.proofs.cells.constants_hash.Given as goal

abbrev pub invariant-loop-column : goal.invariant-loop-column
invariant-loop-column l = hash_from 0 l.marks (constants_of l.patterns) ≡ hash_from l.hash_value (drop l.column l.marks) (drop l.column (constants_of l.patterns))
