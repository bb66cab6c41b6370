-- Which cell spells which value.
use Rattle.std.specs.Prelude.{ℕ, ℤ, pos, neg_ℤ, ◌+◌, ◌-◌, ◌*◌, ◌^◌, Bool, true, false, List, [], ◌∷◌, Option, Some, None, if◌then◌else◌, ◌==◌, ◌&&◌, nat_le, ◌<◌}
use Rattle.std.specs.Option.{option_map, option_map_or}
use Rattle.std.specs.Prelude.{⊤}
use Rattle.pj_value.specs.Options.{with_first}
use Rattle.std.specs.Prelude.{option_and_then}
use Rattle.pj_value.specs.declared.values.Value.{Value}
use Rattle.pj_value.specs.declared.values.Value.TheVariants.{Int, Text}
use Rattle.pj_element.specs.declared.spelled.Part.{Part}
use Rattle.pj_element.specs.declared.spelled.Part.TheVariants.{Plain, Slash, Hex, HexAfter}
use Rattle.pj_element.specs.declared.spelled.Step.{Step}
use Rattle.pj_element.specs.declared.spelled.Step.TheVariants.{Go, Put, Close, Bad}

-- `0` to `9`
abbrev pub is_digit : ℕ → Bool
is_digit b = nat_le 48 b && nat_le b 57

-- the number that digits go on to spell, after n
abbrev pub number_from : ℕ → List ℕ → Option ℕ
number_from n [] = Some n
number_from n (b ∷ bs) = if is_digit b then number_from (10 * n + (b - 48)) bs else None

-- the number that one or more digits spell
abbrev pub number_of : List ℕ → Option ℕ
number_of [] = None
number_of (b ∷ bs) = number_from 0 (b ∷ bs)

-- the number, if it is not above the limit
abbrev pub at_most : ℕ → ℕ → Option ℕ
at_most limit n = if nat_le n limit then Some n else None

-- the integer that a cell spells, from -2^63 to 2^63 - 1
abbrev pub int_of : List ℕ → Option ℤ
int_of [] = None
int_of (b ∷ bs) =
    if b == 45 then option_map (λ n. neg_ℤ (pos n)) (option_and_then (at_most (2 ^ 63)) (number_of bs))
    else option_map pos (option_and_then (at_most (2 ^ 63 - 1)) (number_of (b ∷ bs)))

-- the number that a hexadecimal digit of either case stands for
abbrev pub hex_value : ℕ → Option ℕ
hex_value b =
    if nat_le 48 b && nat_le b 57 then Some (b - 48)
    else (if nat_le 97 b && nat_le b 102 then Some (b - 87)
    else (if nat_le 65 b && nat_le b 70 then Some (b - 55) else None))

-- the byte that a backslash and this one stand for
abbrev pub escaped : ℕ → Option ℕ
escaped b =
    if b == 34 then Some 34 else (if b == 92 then Some 92
    else (if b == 110 then Some 10 else (if b == 114 then Some 13
    else (if b == 116 then Some 9 else None))))

-- what a byte does among the parts of a text
abbrev pub step_of : Part → ℕ → Step
step_of Plain b = if b == 34 then Close else (if b == 92 then Go Slash else Put b)
step_of Slash b = if b == 120 then Go Hex else option_map_or Put (escaped b) Bad
step_of Hex b = option_map_or (λ high. Go (HexAfter high)) (hex_value b) Bad
step_of (HexAfter high) b = option_map_or (λ low. Put (16 * high + low)) (hex_value b) Bad

-- what the rest says, behind a step; each part and the closing quote were asked for their place
abbrev pub take_step : Step → (Part → Option (List ℕ)) → Bool → Option (List ℕ)
take_step (Go part) rest is_last = rest part
take_step (Put b) rest is_last = with_first b (rest Plain)
take_step Close rest is_last = if is_last then Some [] else None
take_step Bad rest is_last = None

-- whether no byte is left
abbrev pub is_none : List ℕ → Bool
is_none [] = true
is_none (b ∷ bs) = false

-- the text whose parts and closing quote these bytes are
abbrev pub text_from : Part → List ℕ → Option (List ℕ)
text_from part [] = None
text_from part (b ∷ bs) = take_step (step_of part b) (λ next. text_from next bs) (is_none bs)

-- a first hexadecimal digit is below 16
abbrev pub IsSmall : Part → Type 0
IsSmall Plain = ⊤
IsSmall Slash = ⊤
IsSmall Hex = ⊤
IsSmall (HexAfter high) = high < 16

-- and so is one that a step leads to
abbrev pub LeadsToSmall : Step → Type 0
LeadsToSmall (Go part) = IsSmall part
LeadsToSmall (Put b) = ⊤
LeadsToSmall Close = ⊤
LeadsToSmall Bad = ⊤

-- the text that a cell spells, with its quotes
abbrev pub text_of : List ℕ → Option (List ℕ)
text_of [] = None
text_of (b ∷ bs) = if b == 34 then text_from Plain bs else None

-- whether the first byte is this one
abbrev pub first_is : ℕ → List ℕ → Bool
first_is byte [] = false
first_is byte (b ∷ bs) = b == byte

-- the value that a cell spells
abbrev pub value_of : List ℕ → Option Value
value_of cell = if first_is 34 cell then option_map Text (text_of cell) else option_map Int (int_of cell)
