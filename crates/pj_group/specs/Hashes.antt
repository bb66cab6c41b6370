-- Prints of keys, by which they are looked up.
use Rattle.std.specs.Prelude.{ℕ, List}
use Rattle.pj_value.specs.declared.values.Value.{Value}
use Rattle.pj_hash.specs.Hashes.{with_values}

-- a number of 64 bits: equal keys have equal ones
abbrev pub hash_of : List Value → ℕ
hash_of key = with_values 0 key
