use Rattle.std.proofs.Common.{◌≡◌, ◌≤◌, drop}
use Rattle.pj_puncts.specs.Hashes.{hash_from}
use Rattle.pj_shape.specs.Instances.{instance_of}
use Rattle.pj_puncts.proofs.cells.instance_hash.Given as goal

abbrev pub invariant-loop-column : goal.invariant-loop-column
invariant-loop-column l =
    (l.taken ≤ l.column) × (hash_from 0 l.marks (instance_of l.scheme l.given) ≡ hash_from l.hash_value (drop l.column l.marks) (instance_of (drop l.column l.scheme) (drop l.taken l.given)))
