-- Canonical lines have no line feed.
use Rattle.std.proofs.Common.{◌≡◌, ◌≢◌, ℕ, zero, suc, ◌/◌, ◌%◌, Bool, true, false, cond, ◌||◌, eqb, ltb, List, [], ◌∷◌, Option, Some, None, refl, arith}
use Rattle.std.specs.Prelude.{pos, negsuc}
use Rattle.std.specs.List.{flat_map}
use Rattle.std.specs.Fmt.{decimal, digits, digits_onto, digit_glyph}
use Rattle.std.proofs.lemmas.Bool.{eqb-false}
use Rattle.std.proofs.lemmas.Bool.Decides.{nat_tests}
use Rattle.pj_value.specs.declared.values.Value.{Value}
use Rattle.pj_value.specs.declared.values.Value.TheVariants.{Int, Text}
use Rattle.pj_value.specs.Texts.{hex_digit, spelled_byte, value_spelling}
use Rattle.pj_pattern.specs.Patterns.{Pattern}
use Rattle.pj_pattern.specs.declared.pattern.Form.TheVariants.{Wild, Empty, Constant, Range, Members}
use Rattle.pj_line.specs.Lines.{HasNo}
use Rattle.pj_line.proofs.Feeds.{has_no_both}
use Rattle.pj_element.specs.Elements.{end_spelling, members_spelling, more_members, pattern_spelling, row_line, punct_line}

each_has_no : {A : Type 0} (f : A → List ℕ) → ((x : A) → HasNo 10 (f x)) → (xs : List A) → HasNo 10 (flat_map f xs)
each_has_no f none [] = tt
each_has_no f none (x ∷ xs) = has_no_both 10 (f x) (flat_map f xs) (none x) (each_has_no f none xs)

by_test : (t : Bool) (x y : List ℕ) → (t ≡ true → HasNo 10 x) → (t ≡ false → HasNo 10 y) → HasNo 10 (cond t x y)
by_test true x y f g = f refl
by_test false x y f g = g refl

hex_no_feed : (n : ℕ) → hex_digit n ≢ 10
hex_no_feed n = grind (arith, nat_tests)

byte_no_feed : (b : ℕ) → HasNo 10 (spelled_byte b)
byte_no_feed b =
    by_test (eqb b 34) _ _ (λ e. (omega arith, (omega arith, tt))) (λ no34.
    by_test (eqb b 92) _ _ (λ e. (omega arith, (omega arith, tt))) (λ no92.
    by_test (eqb b 10) _ _ (λ e. (omega arith, (omega arith, tt))) (λ no10.
    by_test (eqb b 13) _ _ (λ e. (omega arith, (omega arith, tt))) (λ no13.
    by_test (eqb b 9) _ _ (λ e. (omega arith, (omega arith, tt))) (λ no9.
    by_test (ltb b 32 || eqb b 127) _ _ (λ e. (omega arith, (omega arith, (hex_no_feed (b / 16), (hex_no_feed (b % 16), tt))))) (λ no_control. (eqb-false b 10 no10, tt)))))))

glyph_no_feed : (n : ℕ) → digit_glyph false n ≢ 10
glyph_no_feed n = grind (arith, nat_tests)

digits_no_feed : (k n : ℕ) (acc : List ℕ) → HasNo 10 acc → HasNo 10 (digits_onto k 10 false n acc)
digits_no_feed zero n acc none = none
digits_no_feed (suc k) n acc none =
    let more : HasNo 10 (digit_glyph false (n % 10) ∷ acc) = (glyph_no_feed (n % 10), none) in
    by_test (eqb (n / 10) 0) _ _ (λ e. more) (λ e. digits_no_feed k (n / 10) (digit_glyph false (n % 10) ∷ acc) more)

pub decimal_no_feed : (n : ℕ) → HasNo 10 (decimal n)
unfolding digits
decimal_no_feed n = digits_no_feed 64 n [] tt

pub value_no_feed : (value : Value) → HasNo 10 (value_spelling value)
value_no_feed (Int (pos n)) = decimal_no_feed n
value_no_feed (Int (negsuc n)) = (omega arith, decimal_no_feed (suc n))
value_no_feed (Text bytes) = (omega arith, has_no_both 10 (flat_map spelled_byte bytes) (34 ∷ []) (each_has_no spelled_byte byte_no_feed bytes) (omega arith, tt))

end_no_feed : (end : Option Value) → HasNo 10 (end_spelling end)
end_no_feed None = tt
end_no_feed (Some value) = value_no_feed value

more_no_feed : (values : List Value) → HasNo 10 (more_members values)
more_no_feed [] = tt
more_no_feed (v ∷ vs) = (omega arith, has_no_both 10 (value_spelling v) (more_members vs) (value_no_feed v) (more_no_feed vs))

members_no_feed : (values : List Value) → HasNo 10 (members_spelling values)
members_no_feed [] = tt
members_no_feed (v ∷ vs) = has_no_both 10 (value_spelling v) (more_members vs) (value_no_feed v) (more_no_feed vs)

pub pattern_no_feed : (pattern : Pattern) → HasNo 10 (pattern_spelling pattern)
pattern_no_feed Wild = (omega arith, tt)
pattern_no_feed Empty = (omega arith, (omega arith, tt))
pattern_no_feed (Constant value) = value_no_feed value
pattern_no_feed (Range low high) = (
  omega arith,
  has_no_both 10 _ (93 ∷ []) (has_no_both 10 (end_spelling low) (46 ∷ 46 ∷ end_spelling high) (end_no_feed low)
      (omega arith, (omega arith, end_no_feed high))) (omega arith, tt),
)
pattern_no_feed (Members values) = (omega arith, has_no_both 10 (members_spelling values) (125 ∷ []) (members_no_feed values) (omega arith, tt))

pub row_no_feed : (row : List Value) → HasNo 10 (row_line row)
row_no_feed row = (omega arith, each_has_no (λ (v : Value). 32 ∷ value_spelling v) (λ v. (omega arith, value_no_feed v)) row)

pub punct_no_feed : (punct : List Pattern) → HasNo 10 (punct_line punct)
punct_no_feed punct = (omega arith, each_has_no (λ (p : Pattern). 32 ∷ pattern_spelling p) (λ p. (omega arith, pattern_no_feed p)) punct)
