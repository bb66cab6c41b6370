-- Canonical lines, place by place.
use Rattle.std.proofs.Common.{◌≡◌, ℕ, zero, suc, ◌+◌, ◌-◌, ◌*◌, ◌/◌, ◌%◌, ◌<◌, ◌≤◌, true, ◌==◌, List, [], ◌∷◌, ◌++◌, length, take, drop, get_or, refl, ap, sym, ◌∙◌, subst, append_assoc, append-nil, arith, pos}
use Rattle.std.specs.Prelude.{neg_ℤ, slice_index}
use Rattle.std.specs.List.{flat_map, slice_range}
use Rattle.std.specs.Fmt.{decimal, signed_decimal}
use Rattle.std.proofs.lemmas.Bool.{and_parts, false≢true, eqb-true}
use Rattle.std.proofs.lemmas.Bool.Decides.{nat_tests}
use Rattle.std.proofs.lemmas.Fmt.{decimal_digit, decimal_step}
use Rattle.std.proofs.lemmas.Grind.{flat_map-append}
use Rattle.std.proofs.lemmas.List.{length-drop, take_all, take_more}
use Rattle.std.proofs.lemmas.List.Concat.{flat_map-cons}
use Rattle.pj_value.specs.declared.values.Kind.{Kind}
use Rattle.pj_value.specs.declared.values.Value.{Value}
use Rattle.pj_value.specs.declared.values.Value.TheVariants.{Text}
use Rattle.pj_value.specs.Texts.{plain, spelled_byte, value_spelling, values_spelling}
use Rattle.pj_value.specs.Values.{Domain, is_kind}
use Rattle.pj_value.proofs.Plain.{plain_run}
use Rattle.pj_shape.specs.declared.columns.Column.{Column}
use Rattle.pj_shape.specs.Columns.{domains_of}
use Rattle.pj_pattern.specs.Fitting.{row_fits}
use Rattle.pj_element.specs.declared.element.Read.TheVariants.{Tuple}
use Rattle.pj_element.specs.Canonical.{StandsAt, AreSpelled}
use Rattle.pj_element.specs.Elements.{reading_of}
use Rattle.pj_value.specs.Storable.{AreStorable}
use Rattle.pj_element.specs.Spelled.{is_digit}
use Rattle.pj_element.proofs.LinesAgain.{row_again}

-- ---- pieces one after the other

pub stands_byte : (bytes : List ℕ) (from : ℕ) → from < length bytes → StandsAt bytes from (from + 1) (get_or bytes from 0 ∷ [])
stands_byte bytes from lt = record { within = omega arith; front = take_more bytes from 0 lt }

stands_both : (bytes p q : List ℕ) (from mid end : ℕ) → StandsAt bytes from mid p → StandsAt bytes mid end q → StandsAt bytes from end (p ++ q)
stands_both bytes p q from mid end first second = record {
  within = second.within;
  front = second.front ∙ (ap (λ (front : List ℕ). front ++ q) first.front ∙ append_assoc (take from bytes) p q);
}

-- a byte behind a piece, and one before it
stands_more : (bytes p : List ℕ) (from at : ℕ) → StandsAt bytes from at p → at < length bytes → StandsAt bytes from (at + 1) (p ++ get_or bytes at 0 ∷ [])
stands_more bytes p from at before lt = stands_both bytes p (get_or bytes at 0 ∷ []) from at (at + 1) before (stands_byte bytes at lt)

pub stands_behind : (bytes p : List ℕ) (byte at end : ℕ) → at < length bytes → (get_or bytes at 0 == byte) ≡ true → StandsAt bytes (at + 1) end p → StandsAt bytes at end (byte ∷ p)
stands_behind bytes p byte at end lt is more =
    subst (λ (b : ℕ). StandsAt bytes at end (b ∷ p)) (eqb-true (get_or bytes at 0) byte is) (stands_both bytes (get_or bytes at 0 ∷ []) p at (at + 1) end (stands_byte bytes at lt) more)

-- ---- integers

appended : (number d : ℕ) → 1 ≤ number → number < 922337203685477580 → d < 10 → decimal (number * 10 + d) ≡ decimal number ++ (48 + d) ∷ []
appended number d some small low =
    let whole : (number * 10 + d) / 10 ≡ number = omega arith in
    let last : (number * 10 + d) % 10 ≡ d = omega arith in
    decimal_step (number * 10 + d) (omega arith) (omega arith)
    ∙ (ap (λ (n : ℕ). decimal n ++ (48 + (number * 10 + d) % 10) ∷ []) whole
    ∙ ap (λ (n : ℕ). decimal number ++ (48 + n) ∷ []) last)

digit_is : (b : ℕ) → is_digit b ≡ true → 48 + (b - 48) ≡ b
digit_is b digit = grind (arith, nat_tests)

digit_low : (b : ℕ) → is_digit b ≡ true → b - 48 < 10
digit_low b digit = grind (arith, nat_tests)

pub first_digit : (bytes : List ℕ) (from : ℕ) → from < length bytes → is_digit (get_or bytes from 0) ≡ true → StandsAt bytes from (from + 1) (decimal (get_or bytes from 0 - 48))
first_digit bytes from lt digit =
    subst (StandsAt bytes from (from + 1)) (sym (decimal_digit (get_or bytes from 0 - 48) (digit_low (get_or bytes from 0) digit) ∙ ap (λ (b : ℕ). b ∷ []) (digit_is (get_or bytes from 0) digit))) (stands_byte bytes from lt)

pub more_digits : (bytes : List ℕ) (from at number : ℕ) → StandsAt bytes from at (decimal number) → 1 ≤ number → number < 922337203685477580 → at < length bytes → is_digit (get_or bytes at 0) ≡ true
    → StandsAt bytes from (at + 1) (decimal (number * 10 + (get_or bytes at 0 - 48)))
more_digits bytes from at number before some small lt digit =
    subst (StandsAt bytes from (at + 1))
    (sym (appended number (get_or bytes at 0 - 48) some small (digit_low (get_or bytes at 0) digit) ∙ ap (λ (b : ℕ). decimal number ++ b ∷ []) (digit_is (get_or bytes at 0) digit)))
    (stands_more bytes (decimal number) from at before lt)

negative : (number : ℕ) → 0 < number → signed_decimal (neg_ℤ (pos number)) ≡ 45 ∷ decimal number
negative zero some = absurd (omega arith)
negative (suc n) some = refl

pub minus_digits : (bytes : List ℕ) (from end number : ℕ) → from < length bytes → (get_or bytes from 0 == 45) ≡ true → 0 < number → StandsAt bytes (from + 1) end (decimal number) → StandsAt bytes from end (signed_decimal (neg_ℤ (pos number)))
minus_digits bytes from end number lt is some digits =
    subst (StandsAt bytes from end) (sym (negative number some)) (stands_behind bytes (decimal number) 45 from end lt is digits)

-- ---- texts

front_parts : (xs : List ℕ) (start end : ℕ) → start ≤ end → end ≤ length xs → take end xs ≡ take start xs ++ slice_range xs start end
front_parts xs zero end le within = let same : end - 0 ≡ end = omega arith in ap (λ (n : ℕ). take n xs) (sym same)
front_parts [] (suc s) end le within = absurd (omega arith)
front_parts (x ∷ xs) (suc s) zero le within = absurd (omega arith)
front_parts (x ∷ xs) (suc s) (suc e) le within =
    let same : suc e - suc s ≡ e - s = omega arith in
    ap (λ (ys : List ℕ). x ∷ ys) (front_parts xs s e (omega arith) (omega arith) ∙ ap (λ (n : ℕ). take s xs ++ take n (drop s xs)) (sym same))

stands_part : (bytes : List ℕ) (start end : ℕ) → start ≤ end → end ≤ length bytes → StandsAt bytes start end (slice_range bytes start end)
stands_part bytes start end ordered within = record { within = within; front = front_parts bytes start end ordered within }

-- a run of plain bytes between quotes is the text of these bytes
pub quoted_run : (bytes rest : List ℕ) (from n : ℕ) → from < length bytes → (get_or bytes from 0 == 34) ≡ true → rest ≡ drop (from + 1) bytes
    → ((k : ℕ) → k < n → plain (slice_index rest k) ≡ true) → from + 1 + n < length bytes → (get_or bytes (from + 1 + n) 0 == 34) ≡ true
    → StandsAt bytes from (from + 1 + n + 1) (value_spelling (Text (slice_range bytes (from + 1) (from + 1 + n))))
quoted_run bytes rest from n lt opens are all within closes =
    let size : (from + 1 + n) - (from + 1) ≡ n = omega arith in
    let part : StandsAt bytes (from + 1) (from + 1 + n) (slice_range bytes (from + 1) (from + 1 + n)) = stands_part bytes (from + 1) (from + 1 + n) (omega arith) (omega arith) in
    let closed : StandsAt bytes (from + 1) (from + 1 + n + 1) (slice_range bytes (from + 1) (from + 1 + n) ++ 34 ∷ []) =
    stands_both bytes (slice_range bytes (from + 1) (from + 1 + n)) (34 ∷ []) (from + 1) (from + 1 + n) (from + 1 + n + 1) part
    (subst (λ (b : ℕ). StandsAt bytes (from + 1 + n) (from + 1 + n + 1) (b ∷ [])) (eqb-true (get_or bytes (from + 1 + n) 0) 34 closes) (stands_byte bytes (from + 1 + n) within)) in
    let run : flat_map spelled_byte (slice_range bytes (from + 1) (from + 1 + n)) ≡ slice_range bytes (from + 1) (from + 1 + n) =
    subst (λ (m : ℕ). flat_map spelled_byte (take m (drop (from + 1) bytes)) ≡ take m (drop (from + 1) bytes)) (sym size)
    (subst (λ (r : List ℕ). flat_map spelled_byte (take n r) ≡ take n r) are (plain_run rest n all (omega (arith, ap length are, length-drop (from + 1) bytes)))) in
    subst (λ (p : List ℕ). StandsAt bytes from (from + 1 + n + 1) (34 ∷ p ++ 34 ∷ [])) (sym run)
    (stands_behind bytes (slice_range bytes (from + 1) (from + 1 + n) ++ 34 ∷ []) 34 from (from + 1 + n + 1) lt opens closed)

-- a cell that is what its value's spelling is
pub same_cell : (bytes : List ℕ) (from end : ℕ) (value : Value) → from ≤ end → end ≤ length bytes → value_spelling value ≡ slice_range bytes from end → StandsAt bytes from end (value_spelling value)
same_cell bytes from end value ordered within same = subst (StandsAt bytes from end) (sym same) (stands_part bytes from end ordered within)

-- ---- values

-- these values stand at the front, for the first i columns
pub record ValuesSoFar (columns : List Column) (bytes : List ℕ) (i at : ℕ) (values : List Value) : Type 0 where
  pub stand : StandsAt bytes 0 at (values_spelling values)
  pub fit : row_fits (domains_of (take i columns)) values ≡ true

pub values_start : (columns : List Column) (bytes : List ℕ) → ValuesSoFar columns bytes 0 0 []
values_start columns bytes = record { stand = record { within = omega arith; front = refl }; fit = refl }

domains_more : (columns : List Column) (column : Column) → domains_of (columns ++ column ∷ []) ≡ domains_of columns ++ column.kind ∷ []
domains_more [] column = refl
domains_more (c ∷ cs) column = ap (λ (ks : List Domain). c.kind ∷ ks) (domains_more cs column)

fits_more : (kinds : List Domain) (values : List Value) (kind : Kind) (value : Value) → row_fits kinds values ≡ true → is_kind kind value ≡ true → row_fits (kinds ++ kind ∷ []) (values ++ value ∷ []) ≡ true
fits_more [] [] kind value fit is = rw is refl
fits_more [] (v ∷ vs) kind value fit is = absurd (false≢true fit)
fits_more (k ∷ ks) [] kind value fit is = absurd (false≢true fit)
fits_more (k ∷ ks) (v ∷ vs) kind value fit is =
    let both = and_parts (is_kind k v) (row_fits ks vs) fit in
    rw (both.0, fits_more ks vs kind value both.1 is) refl

spelled_more : (values : List Value) (value : Value) → values_spelling (values ++ value ∷ []) ≡ values_spelling values ++ 32 ∷ value_spelling value
spelled_more values value =
    flat_map-append (λ (v : Value). 32 ∷ value_spelling v) values (value ∷ [])
    ∙ ap (λ (more : List ℕ). values_spelling values ++ more) (flat_map-cons (λ (v : Value). 32 ∷ value_spelling v) value [] ∙ append-nil (32 ∷ value_spelling value))

pub values_more : (columns : List Column) (bytes : List ℕ) (i at end : ℕ) (values : List Value) (column : Column) (value : Value) → ValuesSoFar columns bytes i at values → i < length columns → column ≡ get_or columns i column
    → StandsAt bytes at end (32 ∷ value_spelling value) → is_kind column.kind value ≡ true → ValuesSoFar columns bytes (i + 1) end (values ++ value ∷ [])
values_more columns bytes i at end values column value before lt is cell kind = record {
  stand = subst (StandsAt bytes 0 end) (sym (spelled_more values value)) (stands_both bytes (values_spelling values) (32 ∷ value_spelling value) 0 at end before.stand cell);
  fit = subst (λ (cs : List Column). row_fits (domains_of cs) (values ++ value ∷ []) ≡ true) (sym (take_more columns i column lt ∙ ap (λ (c : Column). take i columns ++ c ∷ []) (sym is)))
      (subst (λ (ks : List Domain). row_fits ks (values ++ value ∷ []) ≡ true) (sym (domains_more (take i columns) column)) (fits_more (domains_of (take i columns)) values column.kind value before.fit kind));
}

pub values_end : (columns : List Column) (bytes : List ℕ) (i at : ℕ) (values : List Value) → ValuesSoFar columns bytes i at values → length columns ≤ i → at ≡ length bytes → AreSpelled columns bytes values
values_end columns bytes i at values so le whole = record {
  spelled = sym (take_all at bytes (omega arith)) ∙ so.stand.front;
  fit = subst (λ (cs : List Column). row_fits (domains_of cs) values ≡ true) (take_all i columns le) so.fit;
}

-- ---- lines

pub line_is_tuple : (columns : List Column) (line cells : List ℕ) (tag : ℕ) (values : List Value) → length columns ≤ 120 → line ≡ tag ∷ cells → tag ≡ 116 → AreSpelled columns cells values → AreStorable values → reading_of columns line ≡ Tuple values
line_is_tuple columns line cells tag values few is tuple so storable =
    ap (reading_of columns) (is ∙ (ap (λ (byte : ℕ). byte ∷ cells) tuple ∙ ap (λ (bytes : List ℕ). 116 ∷ bytes) so.spelled)) ∙ row_again values storable columns few so.fit
