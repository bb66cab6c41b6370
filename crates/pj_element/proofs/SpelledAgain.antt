-- A spelled value is read again.
use Rattle.std.proofs.Common.{◌≡◌, ℕ, ◌+◌, ◌-◌, ◌*◌, ◌^◌, ◌<◌, ◌≤◌, suc, true, List, [], ◌∷◌, Some, refl, ap, ◌∙◌, arith}
use Rattle.std.specs.Prelude.{ℤ, pos, negsuc}
use Rattle.std.specs.Option.{option_map}
use Rattle.std.specs.Char.{digit_value}
use Rattle.std.specs.Fmt.{decimal, signed_decimal}
use Rattle.std.specs.Str.Parse.{AllDigits, digits_value_after}
use Rattle.std.proofs.lemmas.Bool.Decides.{nat_tests}
use Rattle.std.proofs.lemmas.Int.{ints}
use Rattle.std.proofs.lemmas.Fmt.{decimal_is_IsNumeral}
use Rattle.std.proofs.lemmas.Str.{digit_value_digit}
use Rattle.std.proofs.lemmas.Str.Parse.{digit_from_value}
use Rattle.pj_value.specs.declared.values.Value.{Value}
use Rattle.pj_value.specs.declared.values.Value.TheVariants.{Int, Text}
use Rattle.pj_value.specs.Texts.{value_spelling}
use Rattle.pj_value.specs.Storable.{IsInBounds, IsStorable}
use Rattle.pj_element.specs.Spelled.{is_digit, number_from, number_of, value_of}
use Rattle.pj_element.specs.Reading.{SpellsValue, SpellsInt, plain_int, minus_int, spells_int}
use Rattle.pj_element.proofs.Again.{text_read_again}
use Rattle.pj_element.proofs.ReadValues.{digit_more, some_number, number_complete, value_sound, value_complete}

-- ---- integers

digit_is : (c : ℕ) → digit_value c < 10 → is_digit c ≡ true
digit_is c small = let range = digit_from_value c small in grind (arith, nat_tests, range)

digits_from : (m : ℕ) (ds : List ℕ) → AllDigits 10 ds → number_from m ds ≡ Some (digits_value_after 10 m ds)
digits_from m [] all = refl
digits_from m (c ∷ cs) all =
    let value = digit_value_digit c (digit_from_value c all.0) in
    digit_more m c cs (digit_is c all.0)
    ∙ (ap (λ (k : ℕ). number_from k cs) (omega (arith, value))
    ∙ digits_from (m * 10 + digit_value c) cs all.1)

decimal_again : (n : ℕ) → n < 2 ^ 64 → number_of (decimal n) ≡ Some n
decimal_again n small =
    let is = decimal_is_IsNumeral n small in
    some_number (decimal n) is.0.0 ∙ (digits_from 0 (decimal n) is.0.1 ∙ ap Some is.1)

spells_again : (n : ℤ) → IsInBounds (Int n) → SpellsInt (signed_decimal n) n
spells_again (pos n) bounds =
    let le : n ≤ 2 ^ 63 - 1 = omega (arith, ints, bounds.1) in
    plain_int (number_complete (decimal n) n (decimal_again n (omega arith))) le
spells_again (negsuc n) bounds =
    let le : suc n ≤ 2 ^ 63 = omega (arith, ints, bounds.0) in
    minus_int (number_complete (decimal (suc n)) (suc n) (decimal_again (suc n) (omega arith))) le

-- ---- values

pub value_again : (v : Value) → IsStorable v → value_of (value_spelling v) ≡ Some v
value_again (Int n) bounds = value_sound (signed_decimal n) (Int n) (spells_int (spells_again n bounds))
value_again (Text bytes) all = ap (option_map Text) (text_read_again bytes all)

pub value_spelled : (v : Value) → IsStorable v → SpellsValue (value_spelling v) v
value_spelled v storable = value_complete (value_spelling v) v (value_again v storable)
