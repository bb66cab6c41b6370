-- Values that memory can hold, which are those that can be spelled and read again.
use Rattle.std.specs.Prelude.{ℤ, pos, neg_ℤ, ◌-◌, ◌^◌, ◌<◌, ◌≤ℤ◌, ⊤, List, [], ◌∷◌}
use Rattle.std.specs.List.{AllByRecursion}
use Rattle.pj_value.specs.declared.values.Value.{Value}
use Rattle.pj_value.specs.declared.values.Value.TheVariants.{Int, Text}

abbrev pub least_int : ℤ
least_int = neg_ℤ (pos (2 ^ 63))

abbrev pub greatest_int : ℤ
greatest_int = pos (2 ^ 63 - 1)

-- an integer is one of 64 bits
abbrev pub IsInBounds : Value → Type 0
IsInBounds (Int n) = (least_int ≤ℤ n) × (n ≤ℤ greatest_int)
IsInBounds (Text bytes) = Unit {0}

-- an integer of 64 bits, or a text of bytes
abbrev pub IsStorable : Value → Type 0
IsStorable (Int n) = IsInBounds (Int n)
IsStorable (Text bytes) = AllByRecursion (λ b. b < 256) bytes

abbrev pub AreStorable : List Value → Type 0
AreStorable [] = ⊤
AreStorable (v ∷ vs) = IsStorable v × AreStorable vs
