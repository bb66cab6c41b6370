-- Digits, as std reads them.
use Rattle.std.proofs.Common.{◌≡◌, ◌<◌, ◌≤◌, ℕ, true, true≢false, refl, sym, arith, [], ◌∷◌, length, leb-true, nat_le}
use Rattle.std.specs.List.{list_all}
use Rattle.std.specs.Str.Parse.{AllDigits, IsNumeral, digits_value, without_leading_plus}
use Rattle.std.proofs.lemmas.Str.{digit_value_digit}
use Rattle.std.proofs.lemmas.Str.Parse.{without_leading_plus_none}
use Rattle.std.specs.Char.{digit_value}
use Rattle.clap.proofs.WalkLemmas.{both}
use Rattle.pj_words.specs.Form.{Text, is_digit, is_number}
use Rattle.pj_words.specs.Found.{is_numeral}

digit_in : (d : ℕ) → is_digit d ≡ true → (48 ≤ d) × (d ≤ 57)
digit_in d e = let b = both _ _ e in (leb-true 48 d b.0, leb-true d 57 b.1)

digit_below : (d : ℕ) → is_digit d ≡ true → digit_value d < 10
digit_below d e = let r = digit_in d e in omega (arith, digit_value_digit d r, r.1)

digits_below : (ds : Text) → list_all is_digit ds ≡ true → AllDigits 10 ds
digits_below [] e = tt
digits_below (d ∷ ds) e = let b = both (is_digit d) _ e in (digit_below d b.0, digits_below ds b.1)

pub numeral_is : (text : Text) → is_numeral text ≡ true → IsNumeral 10 text
numeral_is [] e = absurd (true≢false (sym e))
numeral_is (d ∷ ds) e = (omega arith, digits_below (d ∷ ds) (both _ _ e).1)

pub no_plus : (text : Text) → is_numeral text ≡ true → without_leading_plus text ≡ text
no_plus [] e = absurd (true≢false (sym e))
no_plus (d ∷ ds) e = without_leading_plus_none (d ∷ ds) (λ h. let r = digit_in d (both (is_digit d) _ (both _ _ e).1).0 in absurd (omega (arith, r.0, h)))

-- a number of an option is a numeral, and at most its most
pub number_parts : (least most : ℕ) (text : Text) → is_number least most text ≡ true → (is_numeral text ≡ true) × (digits_value 10 text ≤ most)
number_parts least most text e =
    let a = both (nat_le 1 (length text)) _ e in
    let b = both (nat_le (length text) 20) _ a.1 in
    let d = both (list_all is_digit text) _ b.1 in
    let v = both (nat_le least (digits_value 10 text)) _ d.1 in
    (rw (a.0, d.0) refl, leb-true (digits_value 10 text) most v.1)
