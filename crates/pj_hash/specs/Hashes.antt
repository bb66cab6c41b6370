-- Hashes of values: numbers of 64 bits, by which what is equal is found.
use Rattle.std.specs.Prelude.{ℕ, ◌+◌, ◌*◌, ◌/◌, ◌-◌, ◌%◌, ◌^◌, List, [], ◌∷◌, length, bit_and, bit_xor}
use Rattle.std.specs.Int.{cast_unsigned, w64}
use Rattle.pj_value.specs.declared.values.Value.{Value}
use Rattle.pj_value.specs.declared.values.Value.TheVariants.{Int, Text}

-- the two halves of the 128 bits of a product, joined by xor
unfoldable pub folded_product : ℕ → ℕ → ℕ
folded_product a b = bit_xor (bit_and (a * b) (2 ^ 64 - 1)) (a * b / 2 ^ 64)

-- two numbers of one hash are found by inverting a folded product, and not by a sum or a difference
abbrev pub next_hash : ℕ → ℕ → ℕ
next_hash hash n = (folded_product ((hash + n) % 2 ^ 64) 0x9e37_79b9_7f4a_7c15 + (hash * 0xd6e8_feb8_6659_fd93) % 2 ^ 64) % 2 ^ 64

abbrev pub with_bytes : ℕ → List ℕ → ℕ
with_bytes hash [] = hash
with_bytes hash (byte ∷ bytes) = with_bytes (next_hash hash byte) bytes

-- a number goes in by its 64 bits, a text by its length and its bytes
abbrev pub with_value : ℕ → Value → ℕ
with_value hash (Int n) = next_hash hash (cast_unsigned w64 n)
with_value hash (Text bytes) = with_bytes (next_hash hash (length bytes)) bytes

abbrev pub with_values : ℕ → List Value → ℕ
with_values hash [] = hash
with_values hash (v ∷ vs) = with_values (with_value hash v) vs
