use Rattle.std.proofs.Common.{◌≡◌, drop}
use Rattle.pj_hash.specs.Hashes.{with_values}
use Rattle.pj_group.proofs.keys.hash_value.Given as goal

abbrev pub invariant-loop-column : goal.invariant-loop-column
invariant-loop-column l = with_values 0 l.row ≡ with_values l.hash_value (drop l.column l.row)
