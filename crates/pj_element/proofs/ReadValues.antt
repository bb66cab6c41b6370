-- The values that cells spell are those of the grammar.
use Rattle.std.proofs.Common.{◌≡◌, ℕ, ◌+◌, ◌-◌, ◌*◌, ◌^◌, ◌<◌, ◌≤◌, Bool, true, false, ◌&&◌, eqb, leb, List, [], ◌∷◌, ◌++◌, Option, Some, None, length, refl, ap, sym, ◌∙◌, subst, append_assoc, append-nil, arith}
use Rattle.std.specs.Prelude.{ℤ, pos, neg_ℤ, option_and_then}
use Rattle.std.specs.Option.{option_map}
use Rattle.std.proofs.lemmas.Bool.{ne_eqb, eqb-false, eqb-true}
use Rattle.std.proofs.lemmas.Bool.Decides.{nat_tests}
use Rattle.pj_value.specs.Options.{with_first}
use Rattle.pj_value.specs.declared.values.Value.{Value}
use Rattle.pj_value.specs.declared.values.Value.TheVariants.{Int, Text}
use Rattle.pj_element.specs.declared.spelled.Part.{Part}
use Rattle.pj_element.specs.declared.spelled.Part.TheVariants.{Plain, Slash, Hex, HexAfter}
use Rattle.pj_element.specs.Spelled.{is_digit, number_from, number_of, at_most, int_of, hex_value, escaped, text_from, first_is, value_of}
use Rattle.pj_element.specs.Reading.{IsDigit, SpellsNumber, one_digit, more_digits, SpellsInt, plain_int, minus_int, EscapesTo, quote_escape, backslash_escape, feed_escape, return_escape, tab_escape, IsHexDigit, hex_digit, small_letter, large_letter, SpellsParts, closing_quote, byte_itself, escaped_byte, hex_byte, SpellsValue, spells_int, spells_text}
use Rattle.pj_element.proofs.Again.{plain, slash}

-- ---- numbers

digit_test : (b : ℕ) → IsDigit b → is_digit b ≡ true
digit_test b d = grind (arith, nat_tests, d.0, d.1)

test_digit : (b : ℕ) → is_digit b ≡ true → IsDigit b
test_digit b e = (grind (arith, nat_tests), grind (arith, nat_tests))

pub digit_more : (m b : ℕ) (ds : List ℕ) → is_digit b ≡ true → number_from m (b ∷ ds) ≡ number_from (10 * m + (b - 48)) ds
digit_more m b ds e = rw e refl

no_digit : (m b : ℕ) (ds : List ℕ) → is_digit b ≡ false → number_from m (b ∷ ds) ≡ None
no_digit m b ds e = rw e refl

last_digit : (ds : List ℕ) (m n b : ℕ) → number_from m ds ≡ Some n → is_digit b ≡ true → number_from m (ds ++ b ∷ []) ≡ Some (10 * n + (b - 48))
last_digit [] m n b e d = digit_more m b [] d ∙ ap (λ (o : Option ℕ). elim o [ None ↦ None | Some k ↦ Some (10 * k + (b - 48)) ]) e
last_digit (c ∷ ds) m n b e d = go (is_digit c) refl (λ k h. last_digit ds k n b h d)
  where
    go : (t : Bool) → is_digit c ≡ t → ((k : ℕ) → number_from k ds ≡ Some n → number_from k (ds ++ b ∷ []) ≡ Some (10 * n + (b - 48))) → number_from m (c ∷ ds ++ b ∷ []) ≡ Some (10 * n + (b - 48))
    go true h ih = digit_more m c (ds ++ b ∷ []) h ∙ ih (10 * m + (c - 48)) (sym (digit_more m c ds h) ∙ e)
    go false h ih = absurd (cc (no_digit m c ds h))

number_is_from : (ds : List ℕ) (n : ℕ) → SpellsNumber ds n → number_from 0 ds ≡ Some n
number_is_from _ _ (one_digit b d) = digit_more 0 b [] (digit_test b d) ∙ ap Some (omega arith)
number_is_from _ _ (more_digits {digits = ds} {n} b s d) = last_digit ds 0 n b (number_is_from ds n s) (digit_test b d)

nonempty : (ds : List ℕ) (n : ℕ) → SpellsNumber ds n → 0 < length ds
nonempty _ _ (one_digit b d) = omega arith
nonempty _ _ (more_digits {digits = ds} {n} b s d) = pushed ds b
  where
    pushed : (xs : List ℕ) (x : ℕ) → 0 < length (xs ++ x ∷ [])
    pushed [] x = omega arith
    pushed (y ∷ xs) x = omega arith

pub some_number : (ds : List ℕ) → 0 < length ds → number_of ds ≡ number_from 0 ds
some_number [] some = absurd (omega arith)
some_number (b ∷ ds) some = refl

pub number_sound : (ds : List ℕ) (n : ℕ) → SpellsNumber ds n → number_of ds ≡ Some n
number_sound ds n s = some_number ds (nonempty ds n s) ∙ number_is_from ds n s

number_on : (ds front : List ℕ) (m n : ℕ) → SpellsNumber front m → number_from m ds ≡ Some n → SpellsNumber (front ++ ds) n
number_on [] front m n s e = subst (SpellsNumber (front ++ [])) (let same : Some m ≡ Some n = e in cc) (subst (λ (xs : List ℕ). SpellsNumber xs m) (sym (append-nil front)) s)
number_on (b ∷ ds) front m n s e = go (is_digit b) refl (λ f k t h. number_on ds f k n t h)
  where
    go : (t : Bool) → is_digit b ≡ t → ((f : List ℕ) (k : ℕ) → SpellsNumber f k → number_from k ds ≡ Some n → SpellsNumber (f ++ ds) n) → SpellsNumber (front ++ b ∷ ds) n
    go true h ih =
        subst (λ (xs : List ℕ). SpellsNumber xs n) (append_assoc front (b ∷ []) ds)
        (ih (front ++ b ∷ []) (10 * m + (b - 48)) (more_digits b s (test_digit b h)) (sym (digit_more m b ds h) ∙ e))
    go false h ih = absurd (cc (no_digit m b ds h))

pub number_complete : (ds : List ℕ) (n : ℕ) → number_of ds ≡ Some n → SpellsNumber ds n
number_complete [] n e = absurd (cc)
number_complete (b ∷ ds) n e = go (is_digit b) refl
  where
    go : (t : Bool) → is_digit b ≡ t → SpellsNumber (b ∷ ds) n
    go true h =
        let one : SpellsNumber (b ∷ []) (10 * 0 + (b - 48)) = subst (SpellsNumber (b ∷ [])) (omega arith) (one_digit b (test_digit b h)) in
        number_on ds (b ∷ []) (10 * 0 + (b - 48)) n one (sym (digit_more 0 b ds h) ∙ e)
    go false h = absurd (cc (no_digit 0 b ds h))

-- ---- ints

within_limit : (limit n : ℕ) → n ≤ limit → at_most limit n ≡ Some n
within_limit limit n le = grind (arith, nat_tests)

first_is_digit : (b n : ℕ) (ds : List ℕ) → number_of (b ∷ ds) ≡ Some n → is_digit b ≡ true
first_is_digit b n ds e = go (is_digit b) refl
  where
    go : (t : Bool) → is_digit b ≡ t → is_digit b ≡ true
    go true h = h
    go false h = absurd (cc (no_digit 0 b ds h))

digit_no_minus : (b : ℕ) → is_digit b ≡ true → eqb b 45 ≡ false
digit_no_minus b e = grind (arith, nat_tests)

pub int_sound : (cell : List ℕ) (z : ℤ) → SpellsInt cell z → int_of cell ≡ Some z
int_sound _ _ (plain_int {cell} {n} s le) = plain_sound cell n (number_sound cell n s) le
  where
    plain_sound : (ds : List ℕ) (n : ℕ) → number_of ds ≡ Some n → n ≤ 2 ^ 63 - 1 → int_of ds ≡ Some (pos n)
    plain_sound [] n e le = absurd (cc)
    plain_sound (b ∷ ds) n e le =
        let minus = digit_no_minus b (first_is_digit b n ds e) in
        rw (minus, e) (ap (option_map pos) (within_limit (2 ^ 63 - 1) n le))
int_sound _ _ (minus_int {digits} {n} s le) = rw (number_sound digits n s) (ap (option_map (λ (m : ℕ). neg_ℤ (pos m))) (within_limit (2 ^ 63) n le))

some_limit : (limit n m : ℕ) → at_most limit n ≡ Some m → (n ≡ m) × (n ≤ limit)
some_limit limit n m e = go (leb n limit) refl
  where
    go : (t : Bool) → leb n limit ≡ t → (n ≡ m) × (n ≤ limit)
    go true h = (let same : Some n ≡ Some m = sym (rw h refl) ∙ e in cc, grind (arith, nat_tests))
    go false h = absurd (let none : None ≡ Some m = sym (rw h refl) ∙ e in cc)

-- a number within the limit, made an int
int_there : (limit : ℕ) (make : ℕ → ℤ) (ds : List ℕ) (z : ℤ) → option_map make (option_and_then (at_most limit) (number_of ds)) ≡ Some z → (n : ℕ) × (SpellsNumber ds n × (n ≤ limit) × (make n ≡ z))
int_there limit make ds z e = by_number (number_of ds) refl e
  where
    by_limit : (n : ℕ) → number_of ds ≡ Some n → (o : Option ℕ) → at_most limit n ≡ o → option_map make o ≡ Some z → (n : ℕ) × (SpellsNumber ds n × (n ≤ limit) × (make n ≡ z))
    by_limit n is None h e = absurd (cc)
    by_limit n is (Some m) h e =
        let le = some_limit limit n m h in
        (n, (number_complete ds n is, le.1, ap make le.0 ∙ (let same : Some (make m) ≡ Some z = e in cc)))

    by_number : (o : Option ℕ) → number_of ds ≡ o → option_map make (option_and_then (at_most limit) o) ≡ Some z → (n : ℕ) × (SpellsNumber ds n × (n ≤ limit) × (make n ≡ z))
    by_number None is e = absurd (cc)
    by_number (Some n) is e = by_limit n is (at_most limit n) refl e

minus_is : (b : ℕ) (bs : List ℕ) → eqb b 45 ≡ true → int_of (b ∷ bs) ≡ option_map (λ (n : ℕ). neg_ℤ (pos n)) (option_and_then (at_most (2 ^ 63)) (number_of bs))
minus_is b bs e = rw e refl

plain_is : (b : ℕ) (bs : List ℕ) → eqb b 45 ≡ false → int_of (b ∷ bs) ≡ option_map pos (option_and_then (at_most (2 ^ 63 - 1)) (number_of (b ∷ bs)))
plain_is b bs e = rw e refl

pub int_complete : (cell : List ℕ) (z : ℤ) → int_of cell ≡ Some z → SpellsInt cell z
int_complete [] z e = absurd (cc)
int_complete (b ∷ bs) z e = go (eqb b 45) refl
  where
    go : (t : Bool) → eqb b 45 ≡ t → SpellsInt (b ∷ bs) z
    go true h =
        let found = int_there (2 ^ 63) (λ (n : ℕ). neg_ℤ (pos n)) bs z (sym (minus_is b bs h) ∙ e) in
        subst (λ (x : ℕ). SpellsInt (x ∷ bs) z) (sym (eqb-true b 45 h))
        (subst (SpellsInt (45 ∷ bs)) found.1.2 (minus_int found.1.0 found.1.1))
    go false h =
        let found = int_there (2 ^ 63 - 1) pos (b ∷ bs) z (sym (plain_is b bs h) ∙ e) in
        subst (SpellsInt (b ∷ bs)) found.1.2 (plain_int found.1.0 found.1.1)

-- ---- texts

escape_sound : (e b : ℕ) (rest : List ℕ) → EscapesTo e b → text_from Plain (92 ∷ e ∷ rest) ≡ with_first b (text_from Plain rest)
escape_sound _ _ rest quote_escape = refl
escape_sound _ _ rest backslash_escape = refl
escape_sound _ _ rest feed_escape = refl
escape_sound _ _ rest return_escape = refl
escape_sound _ _ rest tab_escape = refl

hex_sound : (h n : ℕ) → IsHexDigit h n → hex_value h ≡ Some n
hex_sound _ _ (hex_digit b d) = grind (arith, nat_tests, d.0, d.1)
hex_sound _ _ (small_letter b low high) = grind (arith, nat_tests)
hex_sound _ _ (large_letter b low high) = grind (arith, nat_tests)

hex_is : (h l high low : ℕ) (rest : List ℕ) → hex_value h ≡ Some high → hex_value l ≡ Some low → text_from Plain (92 ∷ 120 ∷ h ∷ l ∷ rest) ≡ with_first (16 * high + low) (text_from Plain rest)
hex_is h l high low rest is_high is_low = rw (is_high, is_low) refl

pub parts_sound : (bytes text : List ℕ) → SpellsParts bytes text → text_from Plain bytes ≡ Some text
parts_sound _ _ closing_quote = refl
parts_sound _ _ (byte_itself b {bytes} {text} no_quote no_slash s) =
    plain b bytes (ne_eqb b 34 no_quote) (ne_eqb b 92 no_slash) ∙ ap (with_first b) (parts_sound bytes text s)
parts_sound _ _ (escaped_byte e b {bytes} {text} escape s) = escape_sound e b bytes escape ∙ ap (with_first b) (parts_sound bytes text s)
parts_sound _ _ (hex_byte h l high low {bytes} {text} is_high is_low s) =
    hex_is h l high low bytes (hex_sound h high is_high) (hex_sound l low is_low) ∙ ap (with_first (16 * high + low)) (parts_sound bytes text s)

by_escape : (b x n m : ℕ) → eqb b n ≡ true → Some m ≡ Some x → EscapesTo n m → EscapesTo b x
by_escape b x n m e is escape = subst (λ (y : ℕ). EscapesTo y x) (sym (eqb-true b n e)) (subst (EscapesTo n) (cc) escape)

escape_complete : (b x : ℕ) → escaped b ≡ Some x → EscapesTo b x
escape_complete b x e = go (eqb b 34) refl (eqb b 92) refl (eqb b 110) refl (eqb b 114) refl (eqb b 116) refl
  where
    go : (t34 : Bool) → eqb b 34 ≡ t34 → (t92 : Bool) → eqb b 92 ≡ t92 → (t110 : Bool) → eqb b 110 ≡ t110 → (t114 : Bool) → eqb b 114 ≡ t114 → (t116 : Bool) → eqb b 116 ≡ t116 → EscapesTo b x
    go true h t92 h92 t110 h110 t114 h114 t116 h116 = by_escape b x 34 34 h (sym (rw h refl) ∙ e) quote_escape
    go false h true h92 t110 h110 t114 h114 t116 h116 = by_escape b x 92 92 h92 (sym (rw (h, h92) refl) ∙ e) backslash_escape
    go false h false h92 true h110 t114 h114 t116 h116 = by_escape b x 110 10 h110 (sym (rw (h, h92, h110) refl) ∙ e) feed_escape
    go false h false h92 false h110 true h114 t116 h116 = by_escape b x 114 13 h114 (sym (rw (h, h92, h110, h114) refl) ∙ e) return_escape
    go false h false h92 false h110 false h114 true h116 = by_escape b x 116 9 h116 (sym (rw (h, h92, h110, h114, h116) refl) ∙ e) tab_escape
    go false h false h92 false h110 false h114 false h116 = absurd (let none : None ≡ Some x = sym (rw (h, h92, h110, h114, h116) refl) ∙ e in cc)

by_hex : (b n m : ℕ) → Some m ≡ Some n → IsHexDigit b m → IsHexDigit b n
by_hex b n m is d = subst (IsHexDigit b) (cc) d

between : (low b high : ℕ) → (leb low b && leb b high) ≡ true → (low ≤ b) × (b ≤ high)
between low b high e = (grind (arith, nat_tests), grind (arith, nat_tests))

hex_complete : (b n : ℕ) → hex_value b ≡ Some n → IsHexDigit b n
hex_complete b n e = go (leb 48 b && leb b 57) refl (leb 97 b && leb b 102) refl (leb 65 b && leb b 70) refl
  where
    go : (t : Bool) → (leb 48 b && leb b 57) ≡ t → (u : Bool) → (leb 97 b && leb b 102) ≡ u → (v : Bool) → (leb 65 b && leb b 70) ≡ v → IsHexDigit b n
    go true h u hu v hv = by_hex b n (b - 48) (sym (rw h refl) ∙ e) (hex_digit b (between 48 b 57 h))
    go false h true hu v hv = let i = between 97 b 102 hu in by_hex b n (b - 87) (sym (rw (h, hu) refl) ∙ e) (small_letter b i.0 i.1)
    go false h false hu true hv = let i = between 65 b 70 hv in by_hex b n (b - 55) (sym (rw (h, hu, hv) refl) ∙ e) (large_letter b i.0 i.1)
    go false h false hu false hv = absurd (let none : None ≡ Some n = sym (rw (h, hu, hv) refl) ∙ e in cc)

-- what stands before the bytes that a part has yet to read
data Before : Part → List ℕ → Type 0 where
  before_plain : Before Plain []
  before_slash : Before Slash (92 ∷ [])
  before_hex : Before Hex (92 ∷ 120 ∷ [])
  before_low : (h high : ℕ) → IsHexDigit h high → Before (HexAfter high) (92 ∷ 120 ∷ h ∷ [])

-- with that in front, the bytes spell what is read of them
abbrev Whole : List ℕ → Type 0
Whole bytes = (part : Part) (front : List ℕ) → Before part front → (text : List ℕ) → text_from part bytes ≡ Some text → SpellsParts (front ++ bytes) text

pub first_some : (x : ℕ) (o : Option (List ℕ)) (text : List ℕ) → with_first x o ≡ Some text → (rest : List ℕ) × ((o ≡ Some rest) × (x ∷ rest ≡ text))
first_some x None text e = absurd (cc)
first_some x (Some rest) text e = (rest, (refl, cc))

closes : (b : ℕ) (bs text : List ℕ) → eqb b 34 ≡ true → text_from Plain (b ∷ bs) ≡ Some text → SpellsParts (b ∷ bs) text
closes b [] text h e =
    let same : Some [] ≡ Some text = sym (rw h refl) ∙ e in
    subst (λ (x : ℕ). SpellsParts (x ∷ []) text) (sym (eqb-true b 34 h)) (subst (SpellsParts (34 ∷ [])) (cc) closing_quote)
closes b (c ∷ bs) text h e = absurd (let none : None ≡ Some text = sym (rw h refl) ∙ e in cc)

to_slash : (b : ℕ) (bs : List ℕ) → eqb b 34 ≡ false → eqb b 92 ≡ true → text_from Plain (b ∷ bs) ≡ text_from Slash bs
to_slash b bs no_quote is = rw (no_quote, is) refl

at_plain : (b : ℕ) (bs text : List ℕ) → Whole bs → text_from Plain (b ∷ bs) ≡ Some text → SpellsParts (b ∷ bs) text
at_plain b bs text ih e = go (eqb b 34) refl (eqb b 92) refl
  where
    go : (t : Bool) → eqb b 34 ≡ t → (u : Bool) → eqb b 92 ≡ u → SpellsParts (b ∷ bs) text
    go true h u hu = closes b bs text h e
    go false h true hu =
        subst (λ (x : ℕ). SpellsParts (x ∷ bs) text) (sym (eqb-true b 92 hu)) (ih Slash (92 ∷ []) before_slash text (sym (to_slash b bs h hu) ∙ e))
    go false h false hu =
        let found = first_some b (text_from Plain bs) text (sym (plain b bs h hu) ∙ e) in
        subst (SpellsParts (b ∷ bs)) found.1.1 (byte_itself b (eqb-false b 34 h) (eqb-false b 92 hu) (ih Plain [] before_plain found.0 found.1.0))

to_hex : (b : ℕ) (bs : List ℕ) → eqb b 120 ≡ true → text_from Slash (b ∷ bs) ≡ text_from Hex bs
to_hex b bs is = rw is refl

no_escape : (b : ℕ) (bs : List ℕ) → eqb b 120 ≡ false → escaped b ≡ None → text_from Slash (b ∷ bs) ≡ None
no_escape b bs no_x is = rw (no_x, is) refl

at_slash : (b : ℕ) (bs text : List ℕ) → Whole bs → text_from Slash (b ∷ bs) ≡ Some text → SpellsParts (92 ∷ b ∷ bs) text
at_slash b bs text ih e = go (eqb b 120) refl (escaped b) refl
  where
    go : (t : Bool) → eqb b 120 ≡ t → (o : Option ℕ) → escaped b ≡ o → SpellsParts (92 ∷ b ∷ bs) text
    go true h o is =
        subst (λ (x : ℕ). SpellsParts (92 ∷ x ∷ bs) text) (sym (eqb-true b 120 h)) (ih Hex (92 ∷ 120 ∷ []) before_hex text (sym (to_hex b bs h) ∙ e))
    go false h None is = absurd (cc (no_escape b bs h is))
    go false h (Some x) is =
        let found = first_some x (text_from Plain bs) text (sym (slash b x bs h is) ∙ e) in
        subst (SpellsParts (92 ∷ b ∷ bs)) found.1.1 (escaped_byte b x (escape_complete b x is) (ih Plain [] before_plain found.0 found.1.0))

no_high : (b : ℕ) (bs : List ℕ) → hex_value b ≡ None → text_from Hex (b ∷ bs) ≡ None
no_high b bs is = rw is refl

some_high : (b high : ℕ) (bs : List ℕ) → hex_value b ≡ Some high → text_from Hex (b ∷ bs) ≡ text_from (HexAfter high) bs
some_high b high bs is = rw is refl

at_hex : (b : ℕ) (bs text : List ℕ) → Whole bs → text_from Hex (b ∷ bs) ≡ Some text → SpellsParts (92 ∷ 120 ∷ b ∷ bs) text
at_hex b bs text ih e = go (hex_value b) refl
  where
    go : (o : Option ℕ) → hex_value b ≡ o → SpellsParts (92 ∷ 120 ∷ b ∷ bs) text
    go None is = absurd (cc (no_high b bs is))
    go (Some high) is = ih (HexAfter high) (92 ∷ 120 ∷ b ∷ []) (before_low b high (hex_complete b high is)) text (sym (some_high b high bs is) ∙ e)

no_low : (b high : ℕ) (bs : List ℕ) → hex_value b ≡ None → text_from (HexAfter high) (b ∷ bs) ≡ None
no_low b high bs is = rw is refl

some_low : (b high low : ℕ) (bs : List ℕ) → hex_value b ≡ Some low → text_from (HexAfter high) (b ∷ bs) ≡ with_first (16 * high + low) (text_from Plain bs)
some_low b high low bs is = rw is refl

at_low : (h high b : ℕ) (bs text : List ℕ) → IsHexDigit h high → Whole bs → text_from (HexAfter high) (b ∷ bs) ≡ Some text → SpellsParts (92 ∷ 120 ∷ h ∷ b ∷ bs) text
at_low h high b bs text is_high ih e = go (hex_value b) refl
  where
    go : (o : Option ℕ) → hex_value b ≡ o → SpellsParts (92 ∷ 120 ∷ h ∷ b ∷ bs) text
    go None is = absurd (cc (no_low b high bs is))
    go (Some low) is =
        let found = first_some (16 * high + low) (text_from Plain bs) text (sym (some_low b high low bs is) ∙ e) in
        subst (SpellsParts (92 ∷ 120 ∷ h ∷ b ∷ bs)) found.1.1 (hex_byte h b high low is_high (hex_complete b low is) (ih Plain [] before_plain found.0 found.1.0))

at_part : (b : ℕ) (bs : List ℕ) (part : Part) (front : List ℕ) → Before part front → (text : List ℕ) → Whole bs → text_from part (b ∷ bs) ≡ Some text → SpellsParts (front ++ b ∷ bs) text
at_part b bs _ _ before_plain text ih e = at_plain b bs text ih e
at_part b bs _ _ before_slash text ih e = at_slash b bs text ih e
at_part b bs _ _ before_hex text ih e = at_hex b bs text ih e
at_part b bs _ _ (before_low h high is_high) text ih e = at_low h high b bs text is_high ih e

whole : (bytes : List ℕ) → Whole bytes
whole [] part front before text e = absurd (cc)
whole (b ∷ bs) part front before text e = at_part b bs part front before text (whole bs) e

pub parts_complete : (bytes text : List ℕ) → text_from Plain bytes ≡ Some text → SpellsParts bytes text
parts_complete bytes text e = whole bytes Plain [] before_plain text e

-- ---- values

quote_is_no_int : (b : ℕ) (bs : List ℕ) → eqb b 34 ≡ true → int_of (b ∷ bs) ≡ None
quote_is_no_int b bs e = ap (λ (x : ℕ). int_of (x ∷ bs)) (eqb-true b 34 e)

int_not_quoted : (cell : List ℕ) (z : ℤ) → int_of cell ≡ Some z → first_is 34 cell ≡ false
int_not_quoted [] z e = refl
int_not_quoted (b ∷ bs) z e = go (eqb b 34) refl
  where
    go : (t : Bool) → eqb b 34 ≡ t → eqb b 34 ≡ false
    go true h = absurd (cc (quote_is_no_int b bs h))
    go false h = h

int_value : (cell : List ℕ) (z : ℤ) → int_of cell ≡ Some z → value_of cell ≡ Some (Int z)
int_value cell z e = rw (int_not_quoted cell z e, e) refl

pub value_sound : (cell : List ℕ) (value : Value) → SpellsValue cell value → value_of cell ≡ Some value
value_sound _ _ (spells_int {cell} {n} s) = int_value cell n (int_sound cell n s)
value_sound _ _ (spells_text {parts} {text} s) = ap (option_map Text) (parts_sound parts text s)

some_int : (cell : List ℕ) (value : Value) (o : Option ℤ) → int_of cell ≡ o → option_map Int o ≡ Some value → SpellsValue cell value
some_int cell value None is e = absurd (cc)
some_int cell value (Some n) is e = subst (SpellsValue cell) (cc) (spells_int (int_complete cell n is))

some_text : (parts : List ℕ) (value : Value) (o : Option (List ℕ)) → text_from Plain parts ≡ o → option_map Text o ≡ Some value → SpellsValue (34 ∷ parts) value
some_text parts value None is e = absurd (cc)
some_text parts value (Some text) is e = subst (SpellsValue (34 ∷ parts)) (cc) (spells_text (parts_complete parts text is))

unquoted_is : (b : ℕ) (bs : List ℕ) → eqb b 34 ≡ false → value_of (b ∷ bs) ≡ option_map Int (int_of (b ∷ bs))
unquoted_is b bs e = rw e refl

quoted_is : (b : ℕ) (bs : List ℕ) → eqb b 34 ≡ true → value_of (b ∷ bs) ≡ option_map Text (text_from Plain bs)
quoted_is b bs e = rw e refl

pub value_complete : (cell : List ℕ) (value : Value) → value_of cell ≡ Some value → SpellsValue cell value
value_complete [] value e = absurd (cc)
value_complete (b ∷ bs) value e = go (eqb b 34) refl
  where
    go : (t : Bool) → eqb b 34 ≡ t → SpellsValue (b ∷ bs) value
    go true h =
        subst (λ (x : ℕ). SpellsValue (x ∷ bs) value) (sym (eqb-true b 34 h)) (some_text bs value (text_from Plain bs) refl (sym (quoted_is b bs h) ∙ e))
    go false h = some_int (b ∷ bs) value (int_of (b ∷ bs)) refl (sym (unquoted_is b bs h) ∙ e)
