use Rattle.std.proofs.Common.{◌≡◌, drop}
use Rattle.pj_hash.specs.Hashes.{with_values}
use Rattle.pj_group.proofs.lent_key.LentKey.hash_value.Given as goal

abbrev pub invariant-loop-at : goal.invariant-loop-at
invariant-loop-at l = with_values 0 l.self ≡ with_values l.hash_value (drop l.at l.self)
