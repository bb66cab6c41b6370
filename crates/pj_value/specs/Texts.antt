-- The canonical spelling of a value.
use Rattle.std.specs.Prelude.{ℕ, Bool, not, List, [], ◌∷◌, ◌++◌, ◌≡◌, if◌then◌else◌, ◌==◌, ◌||◌, nat_lt, ◌/◌, ◌%◌, ◌+◌, length, take, codes}
use Rattle.std.specs.List.{flat_map}
use Rattle.std.specs.Fmt.{signed_decimal}
use Rattle.pj_value.specs.declared.values.Value.{Value}
use Rattle.pj_value.specs.declared.values.Value.TheVariants.{Int, Text}

-- a hexadecimal digit, with small letters
abbrev pub hex_digit : ℕ → ℕ
hex_digit n = if nat_lt n 10 then 48 + n else (87 + n)

-- a byte inside quotes: the quote, the backslash and the control bytes are escaped
abbrev pub spelled_byte : ℕ → List ℕ
spelled_byte b =
    if b == 34 then codes "\\\""
    else (if b == 92 then codes "\\\\"
    else (if b == 10 then codes "\\n"
    else (if b == 13 then codes "\\r"
    else (if b == 9 then codes "\\t"
    else (if nat_lt b 32 || (b == 127) then codes "\\x" ++ hex_digit (b / 16) ∷ hex_digit (b % 16) ∷ []
    else (b ∷ []))))))

-- an integer in decimals, a text in quotes
abbrev pub value_spelling : Value → List ℕ
value_spelling (Int n) = signed_decimal n
value_spelling (Text bytes) = codes "\"" ++ flat_map spelled_byte bytes ++ codes "\""

-- the spellings of values, each behind a space
abbrev pub values_spelling : List Value → List ℕ
values_spelling values = flat_map (λ v. codes " " ++ value_spelling v) values

-- the byte stands for itself inside quotes
abbrev pub plain : ℕ → Bool
plain b = not ((b == 34) || ((b == 92) || (nat_lt b 32 || (b == 127))))

-- new is old with more at its end
abbrev pub IsFront : {A : Type 0} → List A → List A → Type 0
IsFront old new = take (length old) new ≡ old
