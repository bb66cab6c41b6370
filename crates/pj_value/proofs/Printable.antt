-- Spellings have no control bytes.
use Rattle.std.proofs.Common.{◌≡◌, ℕ, ◌/◌, ◌%◌, ◌<◌, ◌≤◌, suc, zero, Bool, true, false, cond, ◌==◌, ◌||◌, nat_lt, List, [], ◌∷◌, ◌++◌, refl, arith, pos, negsuc}
use Rattle.std.specs.List.{All, flat_map}
use Rattle.std.specs.Fmt.{digits, digits_onto, digit_glyph, decimal}
use Rattle.std.proofs.lemmas.List.Elements.{All-append, All-cons}
use Rattle.std.proofs.lemmas.List.Concat.{flat_map-cons}
use Rattle.std.proofs.lemmas.Bool.Decides.{nat_tests}
use Rattle.pj_value.specs.declared.values.Value.{Value}
use Rattle.pj_value.specs.declared.values.Value.TheVariants.{Int, Text}
use Rattle.pj_value.specs.Laws.{IsPrintable}
use Rattle.pj_value.specs.Texts.{hex_digit, spelled_byte, value_spelling}

-- a number of the printable letters is printable
plain : (b : ℕ) → 32 ≤ b → b < 127 → IsPrintable b
plain b low high = (low, λ e. omega arith)

none : All IsPrintable []
none k d h = absurd (omega arith)

more : (b : ℕ) (bs : List ℕ) → IsPrintable b → All IsPrintable bs → All IsPrintable (b ∷ bs)
more = All-cons IsPrintable

glyph_is : (d : ℕ) → d < 10 → IsPrintable (digit_glyph false d)
glyph_is d h = plain (digit_glyph false d) (grind (arith, nat_tests)) (grind (arith, nat_tests))

digits_are : (k n : ℕ) (acc : List ℕ) → All IsPrintable acc → All IsPrintable (digits_onto k 10 false n acc)
digits_are zero n acc all = all
digits_are (suc k) n acc all =
    let here : IsPrintable (digit_glyph false (n % 10)) = glyph_is (n % 10) (omega arith) in
    elim (n / 10 == 0) as (λ b. All IsPrintable (cond b (digit_glyph false (n % 10) ∷ acc) (digits_onto k 10 false (n / 10) (digit_glyph false (n % 10) ∷ acc)))) [
      | true ↦ more (digit_glyph false (n % 10)) acc here all
      | false ↦ digits_are k (n / 10) (digit_glyph false (n % 10) ∷ acc) (more (digit_glyph false (n % 10)) acc here all)
    ]

decimal_is : (n : ℕ) → All IsPrintable (decimal n)
unfolding digits
decimal_is n = digits_are 64 n [] none

hex_is : (d : ℕ) → d < 16 → IsPrintable (hex_digit d)
hex_is d h = plain (hex_digit d) (grind (arith, nat_tests)) (grind (arith, nat_tests))

-- the last two forms of a byte: escaped by its number, or as it is
escaped_is : (b : ℕ) (c : Bool) → (c ≡ true → b < 128) → (c ≡ false → IsPrintable b) → All IsPrintable (cond c (92 ∷ 120 ∷ hex_digit (b / 16) ∷ hex_digit (b % 16) ∷ []) (b ∷ []))
escaped_is b true low high =
    let small : b < 128 = low refl in
    let last : All IsPrintable (hex_digit (b % 16) ∷ []) = more (hex_digit (b % 16)) [] (hex_is (b % 16) (omega arith)) none in
    let both : All IsPrintable (hex_digit (b / 16) ∷ hex_digit (b % 16) ∷ []) = more (hex_digit (b / 16)) (hex_digit (b % 16) ∷ []) (hex_is (b / 16) (omega arith)) last in
    more 92 (120 ∷ hex_digit (b / 16) ∷ hex_digit (b % 16) ∷ []) (plain 92 (omega arith) (omega arith)) (more 120 (hex_digit (b / 16) ∷ hex_digit (b % 16) ∷ []) (plain 120 (omega arith) (omega arith)) both)
escaped_is b false low high = more b [] (high refl) none

-- a backslash and a letter
pair_is : (letter : ℕ) → 32 ≤ letter → letter < 127 → All IsPrintable (92 ∷ letter ∷ [])
pair_is letter low high = more 92 (letter ∷ []) (plain 92 (omega arith) (omega arith)) (more letter [] (plain letter low high) none)

byte_is : (b : ℕ) → All IsPrintable (spelled_byte b)
byte_is b = go (b == 34) (b == 92) (b == 10) (b == 13) (b == 9) _ (escaped_is b (nat_lt b 32 || (b == 127)) (λ e. grind (arith, nat_tests)) (λ e. (grind (arith, nat_tests), grind (arith, nat_tests))))
  where
    go : (q s n r t : Bool) (rest : List ℕ) → All IsPrintable rest → All IsPrintable (cond q (92 ∷ 34 ∷ []) (cond s (92 ∷ 92 ∷ []) (cond n (92 ∷ 110 ∷ []) (cond r (92 ∷ 114 ∷ []) (cond t (92 ∷ 116 ∷ []) rest)))))
    go true s n r t rest all = pair_is 34 (omega arith) (omega arith)
    go false true n r t rest all = pair_is 92 (omega arith) (omega arith)
    go false false true r t rest all = pair_is 110 (omega arith) (omega arith)
    go false false false true t rest all = pair_is 114 (omega arith) (omega arith)
    go false false false false true rest all = pair_is 116 (omega arith) (omega arith)
    go false false false false false rest all = all

bytes_are : (bs : List ℕ) → All IsPrintable (flat_map spelled_byte bs)
bytes_are [] = none
bytes_are (b ∷ bs) = rw (flat_map-cons spelled_byte b bs) (All-append IsPrintable (spelled_byte b) (flat_map spelled_byte bs) (byte_is b) (bytes_are bs))

pub spelling_is : (v : Value) → All IsPrintable (value_spelling v)
spelling_is (Int (pos n)) = decimal_is n
spelling_is (Int (negsuc n)) = more 45 (decimal (suc n)) (plain 45 (omega arith) (omega arith)) (decimal_is (suc n))
spelling_is (Text bs) =
    let quote : IsPrintable 34 = plain 34 (omega arith) (omega arith) in
    more 34 (flat_map spelled_byte bs ++ 34 ∷ []) quote (All-append IsPrintable (flat_map spelled_byte bs) (34 ∷ []) (bytes_are bs) (more 34 [] quote none))
