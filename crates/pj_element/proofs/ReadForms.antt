-- The patterns that cells spell are those of the grammar.
use Rattle.std.proofs.Common.{◌≡◌, ◌≢◌, ℕ, ◌<◌, Bool, true, false, ◌&&◌, eqb, List, [], ◌∷◌, ◌++◌, Option, Some, None, length, refl, ap, sym, ◌∙◌, subst, append_assoc, append-nil, arith}
use Rattle.std.specs.Option.{option_map}
use Rattle.std.proofs.lemmas.Bool.{ne_eqb, eqb-true}
use Rattle.std.proofs.lemmas.Bool.Decides.{nat_tests}
use Rattle.pj_value.specs.Options.{with_first, both}
use Rattle.pj_value.specs.declared.values.Value.{Value}
use Rattle.pj_line.specs.declared.quote.Quote.{Quote}
use Rattle.pj_line.specs.declared.quote.Quote.TheVariants.{Outside, Inside, Taken}
use Rattle.pj_line.specs.Lines.{is_blank, onto}
use Rattle.pj_line.specs.Cells.{after, is_outside}
use Rattle.pj_pattern.specs.declared.pattern.Form.{Form}
use Rattle.pj_pattern.specs.declared.pattern.Form.TheVariants.{Wild, Constant, Range, Members}
use Rattle.pj_element.specs.Spelled.{first_is, value_of}
use Rattle.pj_element.specs.Forms.{before_last, parts_from, values_of, members_of, without_first, onto_first, ends_from, end_of, both_ends, range_in, braced, bracketed, is_star, form_of}
use Rattle.pj_element.specs.Reading.{EndsQuoted, end_quote, taken_byte, quoted_byte, AreParts, no_part, plain_byte, quoted_part, IsDigit, SpellsNumber, one_digit, more_digits, SpellsInt, plain_int, minus_int, IsHexDigit, hex_digit, small_letter, large_letter, SpellsParts, closing_quote, byte_itself, escaped_byte, hex_byte, SpellsValue, spells_int, spells_text, SpellsMembers, one_member, more_members, SpellsEnd, no_end, value_end, SpellsForm, spells_star, spells_empty, spells_list, spells_range, spells_constant}
use Rattle.pj_element.proofs.ReadValues.{first_some, value_sound, value_complete}
use Rattle.pj_line.proofs.FedPieces.{onto-some}

-- ---- what values are made of: quoted parts, and bytes that are no blanks, quotes, bars or dots

pub record IsQuietByte (b : ℕ) : Type 0 where
  no_blank : is_blank b ≡ false
  no_quote : b ≢ 34
  no_bar : b ≢ 124
  no_dot : b ≢ 46

pub data IsQuiet : List ℕ → Type 0 where
  quiet_end : IsQuiet []
  quiet_byte : (b : ℕ) {bytes : List ℕ} → IsQuietByte b → IsQuiet bytes → IsQuiet (b ∷ bytes)
  quiet_part : (part : List ℕ) {bytes : List ℕ} → EndsQuoted part → IsQuiet bytes → IsQuiet (34 ∷ part ++ bytes)

quiet_digit : (b : ℕ) → IsDigit b → IsQuietByte b
quiet_digit b d = record {
  no_blank = grind (arith, nat_tests, d.0, d.1);
  no_quote = λ e. omega (arith, d.0, d.1, e);
  no_bar = λ e. omega (arith, d.0, d.1, e);
  no_dot = λ e. omega (arith, d.0, d.1, e);
}

quiet_push : (bytes : List ℕ) (b : ℕ) → IsQuiet bytes → IsQuietByte b → IsQuiet (bytes ++ b ∷ [])
quiet_push _ b quiet_end q = quiet_byte b q quiet_end
quiet_push _ b (quiet_byte c {bytes} here rest) q = quiet_byte c here (quiet_push bytes b rest q)
quiet_push _ b (quiet_part part {bytes} ends rest) q =
    subst IsQuiet (sym (append_assoc (34 ∷ part) bytes (b ∷ []))) (quiet_part part ends (quiet_push bytes b rest q))

number_quiet : (digits : List ℕ) (n : ℕ) → SpellsNumber digits n → IsQuiet digits
number_quiet _ _ (one_digit b d) = quiet_byte b (quiet_digit b d) quiet_end
number_quiet _ _ (more_digits {digits = ds} {n} b s d) = quiet_push ds b (number_quiet ds n s) (quiet_digit b d)

hex_no_quote : (h n : ℕ) → IsHexDigit h n → (h ≢ 34) × (h ≢ 92)
hex_no_quote _ _ (hex_digit b d) = (λ e. omega (arith, d.0, d.1, e), λ e. omega (arith, d.0, d.1, e))
hex_no_quote _ _ (small_letter b low high) = (λ e. omega (arith, e), λ e. omega (arith, e))
hex_no_quote _ _ (large_letter b low high) = (λ e. omega (arith, e), λ e. omega (arith, e))

parts_end : (bytes text : List ℕ) → SpellsParts bytes text → EndsQuoted bytes
parts_end _ _ closing_quote = end_quote
parts_end _ _ (byte_itself b {bytes} {text} no_quote no_slash s) = quoted_byte b no_quote no_slash (parts_end bytes text s)
parts_end _ _ (escaped_byte e b {bytes} {text} escape s) = taken_byte e (parts_end bytes text s)
parts_end _ _ (hex_byte h l high low {bytes} {text} is_high is_low s) =
    let at_high = hex_no_quote h high is_high in
    let at_low = hex_no_quote l low is_low in
    taken_byte 120 (quoted_byte h at_high.0 at_high.1 (quoted_byte l at_low.0 at_low.1 (parts_end bytes text s)))

minus_quiet : IsQuietByte 45
minus_quiet = record { no_blank = refl; no_quote = λ e. omega (arith, e); no_bar = λ e. omega (arith, e); no_dot = λ e. omega (arith, e) }

pub value_quiet : (cell : List ℕ) (value : Value) → SpellsValue cell value → IsQuiet cell
value_quiet _ _ (spells_int s) = int_quiet _ _ s
  where
    int_quiet : (cell : List ℕ) (z : _) → SpellsInt cell z → IsQuiet cell
    int_quiet _ _ (plain_int {cell} {n} s le) = number_quiet cell n s
    int_quiet _ _ (minus_int {digits} {n} s le) = quiet_byte 45 minus_quiet (number_quiet digits n s)
value_quiet _ _ (spells_text {parts} {text} s) =
    subst IsQuiet (append-nil (34 ∷ parts)) (quiet_part parts (parts_end parts text s) quiet_end)

pub quiet_parts : (cell : List ℕ) → IsQuiet cell → AreParts cell
quiet_parts _ quiet_end = no_part
quiet_parts _ (quiet_byte b {bytes} q rest) = plain_byte b q.no_blank q.no_quote (quiet_parts bytes rest)
quiet_parts _ (quiet_part part {bytes} ends rest) = quoted_part part ends (quiet_parts bytes rest)

-- ---- bars outside quotes

inside_bar : (b : ℕ) (bs p : List ℕ) (ps : List (List ℕ)) → b ≢ 34 → b ≢ 92 → parts_from Inside bs ≡ p ∷ ps → parts_from Inside (b ∷ bs) ≡ (b ∷ p) ∷ ps
inside_bar b bs p ps no_quote no_slash e = rw (ne_eqb b 34 no_quote, ne_eqb b 92 no_slash, e) refl

outside_bar : (b : ℕ) (bs p : List ℕ) (ps : List (List ℕ)) → b ≢ 34 → b ≢ 124 → parts_from Outside bs ≡ p ∷ ps → parts_from Outside (b ∷ bs) ≡ (b ∷ p) ∷ ps
outside_bar b bs p ps no_quote no_bar e = rw (ne_eqb b 124 no_bar, ne_eqb b 34 no_quote, e) refl

quoted_bars : (part rest p : List ℕ) (ps : List (List ℕ)) → EndsQuoted part → parts_from Outside rest ≡ p ∷ ps → parts_from Inside (part ++ rest) ≡ (part ++ p) ∷ ps
quoted_bars _ rest p ps end_quote e = ap (onto 34) e
quoted_bars _ rest p ps (taken_byte b {bytes} q) e = ap (λ (o : List (List ℕ)). onto 92 (onto b o)) (quoted_bars bytes rest p ps q e)
quoted_bars _ rest p ps (quoted_byte b {bytes} no_quote no_slash q) e = inside_bar b (bytes ++ rest) (bytes ++ p) ps no_quote no_slash (quoted_bars bytes rest p ps q e)

quiet_bars : (cell rest p : List ℕ) (ps : List (List ℕ)) → IsQuiet cell → parts_from Outside rest ≡ p ∷ ps → parts_from Outside (cell ++ rest) ≡ (cell ++ p) ∷ ps
quiet_bars _ rest p ps quiet_end e = e
quiet_bars _ rest p ps (quiet_byte b {bytes} q more) e = outside_bar b (bytes ++ rest) (bytes ++ p) ps q.no_quote q.no_bar (quiet_bars bytes rest p ps more e)
quiet_bars _ rest p ps (quiet_part part {bytes} q more) e =
    ap (parts_from Outside) (append_assoc (34 ∷ part) bytes rest)
    ∙ (ap (onto 34) (quoted_bars part (bytes ++ rest) (bytes ++ p) ps q (quiet_bars bytes rest p ps more e))
    ∙ ap (λ (c : List ℕ). c ∷ ps) (sym (append_assoc (34 ∷ part) bytes p)))

-- ---- dots outside quotes

abbrev Ends : Quote → List ℕ → List ℕ → List ℕ → Type 0
Ends q bytes front back = ends_from q bytes ≡ Some (front, back)

inside_dot : (b : ℕ) (bs front back : List ℕ) → b ≢ 34 → b ≢ 92 → Ends Inside bs front back → Ends Inside (b ∷ bs) (b ∷ front) back
inside_dot b bs front back no_quote no_slash e = rw (ne_eqb b 34 no_quote, ne_eqb b 92 no_slash, e) refl

outside_dot : (b : ℕ) (bs front back : List ℕ) → b ≢ 34 → b ≢ 46 → Ends Outside bs front back → Ends Outside (b ∷ bs) (b ∷ front) back
outside_dot b bs front back no_quote no_dot e = rw (ne_eqb b 46 no_dot, ne_eqb b 34 no_quote, e) refl

quoted_dots : (part rest front back : List ℕ) → EndsQuoted part → Ends Outside rest front back → Ends Inside (part ++ rest) (part ++ front) back
quoted_dots _ rest front back end_quote e = ap (onto_first 34) e
quoted_dots _ rest front back (taken_byte b {bytes} q) e = ap (λ (o : Option (List ℕ × List ℕ)). onto_first 92 (onto_first b o)) (quoted_dots bytes rest front back q e)
quoted_dots _ rest front back (quoted_byte b {bytes} no_quote no_slash q) e = inside_dot b (bytes ++ rest) (bytes ++ front) back no_quote no_slash (quoted_dots bytes rest front back q e)

quiet_dots : (cell rest front back : List ℕ) → IsQuiet cell → Ends Outside rest front back → Ends Outside (cell ++ rest) (cell ++ front) back
quiet_dots _ rest front back quiet_end e = e
quiet_dots _ rest front back (quiet_byte b {bytes} q more) e = outside_dot b (bytes ++ rest) (bytes ++ front) back q.no_quote q.no_dot (quiet_dots bytes rest front back more e)
quiet_dots _ rest front back (quiet_part part {bytes} q more) e =
    ap (ends_from Outside) (append_assoc (34 ∷ part) bytes rest)
    ∙ (ap (onto_first 34) (quoted_dots part (bytes ++ rest) (bytes ++ front) back q (quiet_dots bytes rest front back more e))
    ∙ ap (λ (c : List ℕ). Some (c, back)) (sym (append_assoc (34 ∷ part) bytes front)))

-- ---- what the grammar says is what is computed

last_is : (close : ℕ) → eqb close close ≡ true
last_is close = grind (arith, nat_tests)

last_off : (close : ℕ) (bytes : List ℕ) → before_last close (bytes ++ close ∷ []) ≡ Some bytes
last_off close [] = rw (last_is close) refl
last_off close (b ∷ []) = ap (with_first b) (last_off close [])
last_off close (b ∷ c ∷ bs) = ap (with_first b) (last_off close (c ∷ bs))

members_are : (bytes : List ℕ) (values : List Value) → SpellsMembers bytes values → values_of (parts_from Outside bytes) ≡ Some values
members_are _ _ (one_member {cell} {value} s) =
    ap (λ (bs : List ℕ). values_of (parts_from Outside bs)) (sym (append-nil cell))
    ∙ (ap values_of (quiet_bars cell [] [] [] (value_quiet cell value s) refl)
    ∙ (ap (λ (c : List ℕ). values_of (c ∷ [])) (append-nil cell)
    ∙ rw (value_sound cell value s) refl))
members_are _ _ (more_members {cell} {cells} {value} {values} s more) =
    ap values_of (quiet_bars cell (124 ∷ cells) [] (parts_from Outside cells) (value_quiet cell value s) refl)
    ∙ (ap (λ (c : List ℕ). values_of (c ∷ parts_from Outside cells)) (append-nil cell)
    ∙ rw (value_sound cell value s, members_are cells values more) refl)

-- no value is spelled by no byte
pub value_some : (cell : List ℕ) (value : Value) → SpellsValue cell value → (b : ℕ) × (bs : List ℕ) × (cell ≡ b ∷ bs)
value_some [] value s = absurd (cc (value_sound [] value s))
value_some (b ∷ bs) value s = (b, bs, refl)

members_some : (bytes : List ℕ) (values : List Value) → SpellsMembers bytes values → (b : ℕ) × (bs : List ℕ) × (bytes ≡ b ∷ bs)
members_some _ _ (one_member {cell} {value} s) = value_some cell value s
members_some _ _ (more_members {cell} {cells} {value} {values} s more) =
    let some = value_some cell value s in
    (some.0, some.1 ++ 124 ∷ cells, ap (λ (c : List ℕ). c ++ 124 ∷ cells) some.2)

members_form : (bytes : List ℕ) (values : List Value) → SpellsMembers bytes values → members_of bytes ≡ Some (Members values)
members_form bytes values s =
    let some = members_some bytes values s in
    ap members_of some.2
    ∙ (ap (λ (bs : List ℕ). option_map Members (values_of (parts_from Outside bs))) (sym some.2)
    ∙ ap (option_map Members) (members_are bytes values s))

end_is : (bytes : List ℕ) (end : Option Value) → SpellsEnd bytes end → end_of bytes ≡ Some end
end_is _ _ no_end = refl
end_is _ _ (value_end {cell} {value} s) =
    let some = value_some cell value s in
    ap end_of some.2
    ∙ (ap (λ (bs : List ℕ). option_map Some (value_of bs)) (sym some.2)
    ∙ ap (option_map Some) (value_sound cell value s))

end_quiet : (bytes : List ℕ) (end : Option Value) → SpellsEnd bytes end → IsQuiet bytes
end_quiet _ _ no_end = quiet_end
end_quiet _ _ (value_end {cell} {value} s) = value_quiet cell value s

ends_are : (low high : List ℕ) (from : Option Value) → SpellsEnd low from → Ends Outside (low ++ 46 ∷ 46 ∷ high) low high
ends_are low high from s =
    quiet_dots low (46 ∷ 46 ∷ high) [] high (end_quiet low from s) refl
    ∙ ap (λ (c : List ℕ). Some (c, high)) (append-nil low)

range_form : (low high : List ℕ) (from to : Option Value) → SpellsEnd low from → SpellsEnd high to → form_of (91 ∷ low ++ 46 ∷ 46 ∷ high ++ 93 ∷ []) ≡ Some (Range from to)
range_form low high from to s t =
    ap bracketed (last_off 93 (low ++ 46 ∷ 46 ∷ high))
    ∙ (ap range_in (ends_are low high from s)
    ∙ rw (end_is low from s, end_is high to t) refl)

value_form : (cell : List ℕ) (value : Value) → value_of cell ≡ Some value → form_of cell ≡ Some (Constant value)
value_form [] value e = absurd (cc)
value_form (b ∷ bs) value e = go (eqb b 123) refl (eqb b 91) refl (is_star b bs) refl
  where
    star_is : (bs : List ℕ) → is_star b bs ≡ true → value_of (b ∷ bs) ≡ Some value → form_of (b ∷ bs) ≡ Some (Constant value)
    star_is [] h e = absurd (cc (ap (λ (x : ℕ). value_of (x ∷ [])) (eqb-true b 42 h)))
    star_is (c ∷ cs) h e = absurd (cc)

    go : (t : Bool) → eqb b 123 ≡ t → (u : Bool) → eqb b 91 ≡ u → (v : Bool) → is_star b bs ≡ v → form_of (b ∷ bs) ≡ Some (Constant value)
    go true h u hu v hv = absurd (cc (ap (λ (x : ℕ). value_of (x ∷ bs)) (eqb-true b 123 h)))
    go false h true hu v hv = absurd (cc (ap (λ (x : ℕ). value_of (x ∷ bs)) (eqb-true b 91 hu)))
    go false h false hu true hv = star_is bs hv e
    go false h false hu false hv = rw (h, hu, hv, e) refl

pub form_sound : (cell : List ℕ) (form : Form) → SpellsForm cell form → form_of cell ≡ Some form
form_sound _ _ spells_star = refl
form_sound _ _ spells_empty = refl
form_sound _ _ (spells_list {cells} {values} s) = ap braced (last_off 125 cells) ∙ members_form cells values s
form_sound _ _ (spells_range {low} {high} {from} {to} s t) = range_form low high from to s t
form_sound _ _ (spells_constant {cell} {value} s) = value_form cell value (value_sound cell value s)

-- ---- what is computed is what the grammar says

last_is_there : (close : ℕ) (bytes inner : List ℕ) → before_last close bytes ≡ Some inner → bytes ≡ inner ++ close ∷ []
last_is_there close [] inner e = absurd (cc)
last_is_there close (b ∷ []) inner e = go (eqb b close) refl
  where
    go : (t : Bool) → eqb b close ≡ t → b ∷ [] ≡ inner ++ close ∷ []
    go true h =
        let none : Some [] ≡ Some inner = sym (rw h refl) ∙ e in
        let same : [] ≡ inner = cc in
        ap (λ (x : ℕ). x ∷ []) (eqb-true b close h) ∙ ap (λ (xs : List ℕ). xs ++ close ∷ []) same
    go false h = absurd (let none : None ≡ Some inner = sym (rw h refl) ∙ e in cc)
last_is_there close (b ∷ c ∷ bs) inner e =
    let found = first_some b (before_last close (c ∷ bs)) inner e in
    ap (λ (xs : List ℕ). b ∷ xs) (last_is_there close (c ∷ bs) found.0 found.1.0) ∙ ap (λ (xs : List ℕ). xs ++ close ∷ []) found.1.1

-- parts with a bar between each two
abbrev behind_bars : List (List ℕ) → List ℕ
behind_bars [] = []
behind_bars (p ∷ ps) = 124 ∷ p ++ behind_bars ps

abbrev joined : List (List ℕ) → List ℕ
joined [] = []
joined (p ∷ ps) = p ++ behind_bars ps

joined_onto : (b : ℕ) (parts : List (List ℕ)) → joined (onto b parts) ≡ b ∷ joined parts
joined_onto b [] = refl
joined_onto b (p ∷ ps) = refl

behind_is : (q : Quote) (bytes : List ℕ) → behind_bars (parts_from q bytes) ≡ 124 ∷ joined (parts_from q bytes)
behind_is q [] = refl
behind_is q (b ∷ bs) = go (is_outside q && eqb b 124) refl
  where
    onto_behind : (parts : List (List ℕ)) → behind_bars (onto b parts) ≡ 124 ∷ joined (onto b parts)
    onto_behind [] = refl
    onto_behind (p ∷ ps) = refl

    go : (t : Bool) → (is_outside q && eqb b 124) ≡ t → behind_bars (parts_from q (b ∷ bs)) ≡ 124 ∷ joined (parts_from q (b ∷ bs))
    go true h = rw h refl
    go false h = rw h (onto_behind (parts_from (after q b) bs))

bar_there : (q : Quote) (b : ℕ) → (is_outside q && eqb b 124) ≡ true → b ≡ 124
bar_there Outside b e = eqb-true b 124 e
bar_there Inside b e = absurd (cc)
bar_there Taken b e = absurd (cc)

parts_join : (q : Quote) (bytes : List ℕ) → joined (parts_from q bytes) ≡ bytes
parts_join q [] = refl
parts_join q (b ∷ bs) = go (is_outside q && eqb b 124) refl (λ r. parts_join r bs)
  where
    go : (t : Bool) → (is_outside q && eqb b 124) ≡ t → ((r : Quote) → joined (parts_from r bs) ≡ bs) → joined (parts_from q (b ∷ bs)) ≡ b ∷ bs
    go true h ih = rw h (behind_is q bs ∙ (ap (λ (xs : List ℕ). 124 ∷ xs) (ih q) ∙ ap (λ (x : ℕ). x ∷ bs) (sym (bar_there q b h))))
    go false h ih = rw h (joined_onto b (parts_from (after q b) bs) ∙ ap (λ (xs : List ℕ). b ∷ xs) (ih (after q b)))

both_some : (o : Option Value) (others : Option (List Value)) (values : List Value) → both o others ≡ Some values → (v : Value) × (vs : List Value) × (o ≡ Some v) × (others ≡ Some vs) × (v ∷ vs ≡ values)
both_some None others values e = absurd (cc)
both_some (Some v) None values e = absurd (cc)
both_some (Some v) (Some vs) values e = (v, vs, refl, refl, cc)

values_spelled : (p : List ℕ) (ps : List (List ℕ)) (values : List Value) → values_of (p ∷ ps) ≡ Some values → SpellsMembers (joined (p ∷ ps)) values
values_spelled p [] values e =
    let found = both_some (value_of p) (Some []) values e in
    let none : Some [] ≡ Some found.1 = found.3 in
    let same : [] ≡ found.1 = cc in
    subst (SpellsMembers (p ++ [])) (ap (λ (vs : List Value). found.0 ∷ vs) same ∙ found.4)
    (subst (λ (c : List ℕ). SpellsMembers c (found.0 ∷ [])) (sym (append-nil p)) (one_member (value_complete p found.0 found.2)))
values_spelled p (c ∷ cs) values e =
    let found = both_some (value_of p) (values_of (c ∷ cs)) values e in
    subst (SpellsMembers (joined (p ∷ c ∷ cs))) found.4 (more_members (value_complete p found.0 found.2) (values_spelled c cs found.1 found.3))

members_there : (parts : List (List ℕ)) (values : List Value) → 0 < length parts → values_of parts ≡ Some values → SpellsMembers (joined parts) values
members_there [] values some e = absurd (omega arith)
members_there (p ∷ ps) values some e = values_spelled p ps values e

parts_some : (q : Quote) (bytes : List ℕ) → 0 < length (parts_from q bytes)
parts_some q [] = omega arith
parts_some q (b ∷ bs) = go (is_outside q && eqb b 124) refl
  where
    go : (t : Bool) → (is_outside q && eqb b 124) ≡ t → 0 < length (parts_from q (b ∷ bs))
    go true h = rw h (omega arith)
    go false h = rw h (onto-some b (parts_from (after q b) bs))

braced_complete : (inner : List ℕ) (form : Form) → members_of inner ≡ Some form → SpellsForm (123 ∷ inner ++ 125 ∷ []) form
braced_complete [] form e = subst (SpellsForm (123 ∷ 125 ∷ [])) (let same : Some (Members []) ≡ Some form = e in cc) spells_empty
braced_complete (b ∷ bs) form e = go (values_of (parts_from Outside (b ∷ bs))) refl e
  where
    go : (o : Option (List Value)) → values_of (parts_from Outside (b ∷ bs)) ≡ o → option_map Members o ≡ Some form → SpellsForm (123 ∷ (b ∷ bs) ++ 125 ∷ []) form
    go None is e = absurd (cc)
    go (Some vs) is e =
        let spelled = subst (λ (xs : List ℕ). SpellsMembers xs vs) (parts_join Outside (b ∷ bs)) (members_there (parts_from Outside (b ∷ bs)) vs (parts_some Outside (b ∷ bs)) is) in
        subst (SpellsForm (123 ∷ (b ∷ bs) ++ 125 ∷ [])) (let same : Some (Members vs) ≡ Some form = e in cc) (spells_list spelled)

some_pair : (x y : List ℕ × List ℕ) → Some x ≡ Some y → (x.0 ≡ y.0) × (x.1 ≡ y.1)
some_pair x y e =
    let same : x ≡ y = cc in
    (ap (λ (p : List ℕ × List ℕ). p.0) same, ap (λ (p : List ℕ × List ℕ). p.1) same)

onto_first_some : (b : ℕ) (o : Option (List ℕ × List ℕ)) (front back : List ℕ) → onto_first b o ≡ Some (front, back) → (rest : List ℕ) × (o ≡ Some (rest, back)) × (b ∷ rest ≡ front)
onto_first_some b None front back e = absurd (cc)
onto_first_some b (Some (rest, behind)) front back e =
    let same = some_pair (b ∷ rest, behind) (front, back) e in
    (rest, ap (λ (xs : List ℕ). Some (rest, xs)) same.1, same.0)

two_dots : (q : Quote) (b : ℕ) (bs : List ℕ) → (is_outside q && (eqb b 46 && first_is 46 bs)) ≡ true → b ∷ bs ≡ 46 ∷ 46 ∷ without_first bs
two_dots Outside b [] e = absurd (grind (arith, nat_tests))
two_dots Outside b (c ∷ cs) e = go (eqb b 46) refl (eqb c 46) refl
  where
    go : (t : Bool) → eqb b 46 ≡ t → (u : Bool) → eqb c 46 ≡ u → b ∷ c ∷ cs ≡ 46 ∷ 46 ∷ cs
    go true h true hu = ap (λ (x : ℕ). x ∷ c ∷ cs) (eqb-true b 46 h) ∙ ap (λ (x : ℕ). 46 ∷ x ∷ cs) (eqb-true c 46 hu)
    go true h false hu = absurd (let none : false ≡ true = sym (rw (h, hu) refl) ∙ e in cc)
    go false h u hu = absurd (let none : false ≡ true = sym (rw h refl) ∙ e in cc)
two_dots Inside b bs e = absurd (cc)
two_dots Taken b bs e = absurd (cc)

ends_there : (q : Quote) (bytes front back : List ℕ) → ends_from q bytes ≡ Some (front, back) → bytes ≡ front ++ 46 ∷ 46 ∷ back
ends_there q [] front back e = absurd (cc)
ends_there q (b ∷ bs) front back e = go (is_outside q && (eqb b 46 && first_is 46 bs)) refl (λ r f h. ends_there r bs f back h)
  where
    go : (t : Bool) → (is_outside q && (eqb b 46 && first_is 46 bs)) ≡ t → ((r : Quote) (f : List ℕ) → ends_from r bs ≡ Some (f, back) → bs ≡ f ++ 46 ∷ 46 ∷ back) → b ∷ bs ≡ front ++ 46 ∷ 46 ∷ back
    go true h ih =
        let same = some_pair ([], without_first bs) (front, back) (sym (rw h refl) ∙ e) in
        two_dots q b bs h ∙ (ap (λ (xs : List ℕ). 46 ∷ 46 ∷ xs) same.1 ∙ ap (λ (xs : List ℕ). xs ++ 46 ∷ 46 ∷ back) same.0)
    go false h ih =
        let found = onto_first_some b (ends_from (after q b) bs) front back (sym (rw h refl) ∙ e) in
        ap (λ (xs : List ℕ). b ∷ xs) (ih (after q b) found.0 found.1) ∙ ap (λ (xs : List ℕ). xs ++ 46 ∷ 46 ∷ back) found.2

end_there : (bytes : List ℕ) (end : Option Value) → end_of bytes ≡ Some end → SpellsEnd bytes end
end_there [] end e = subst (SpellsEnd []) (let same : Some None ≡ Some end = e in cc) no_end
end_there (b ∷ bs) end e = go (value_of (b ∷ bs)) refl e
  where
    go : (o : Option Value) → value_of (b ∷ bs) ≡ o → option_map Some o ≡ Some end → SpellsEnd (b ∷ bs) end
    go None is e = absurd (cc)
    go (Some v) is e = subst (SpellsEnd (b ∷ bs)) (let same : Some (Some v) ≡ Some end = e in cc) (value_end (value_complete (b ∷ bs) v is))

both_ends_some : (o p : Option (Option Value)) (form : Form) → both_ends o p ≡ Some form → (low : Option Value) × (high : Option Value) × (o ≡ Some low) × (p ≡ Some high) × (Range low high ≡ form)
both_ends_some None p form e = absurd (cc)
both_ends_some (Some low) None form e = absurd (cc)
both_ends_some (Some low) (Some high) form e = (low, high, refl, refl, cc)

bracketed_complete : (inner : List ℕ) (form : Form) → range_in (ends_from Outside inner) ≡ Some form → SpellsForm (91 ∷ inner ++ 93 ∷ []) form
bracketed_complete inner form e = go (ends_from Outside inner) refl e
  where
    go : (o : Option (List ℕ × List ℕ)) → ends_from Outside inner ≡ o → range_in o ≡ Some form → SpellsForm (91 ∷ inner ++ 93 ∷ []) form
    go None is e = absurd (cc)
    go (Some (front, back)) is e =
        let found = both_ends_some (end_of front) (end_of back) form e in
        subst (λ (xs : List ℕ). SpellsForm (91 ∷ xs ++ 93 ∷ []) form) (sym (ends_there Outside inner front back is))
        (subst (SpellsForm (91 ∷ front ++ 46 ∷ 46 ∷ back ++ 93 ∷ [])) found.4 (spells_range (end_there front found.0 found.2) (end_there back found.1 found.3)))

star_there : (b : ℕ) (bs : List ℕ) → is_star b bs ≡ true → b ∷ bs ≡ 42 ∷ []
star_there b [] e = ap (λ (x : ℕ). x ∷ []) (eqb-true b 42 e)
star_there b (c ∷ cs) e = absurd (cc)

pub form_complete : (cell : List ℕ) (form : Form) → form_of cell ≡ Some form → SpellsForm cell form
form_complete [] form e = absurd (cc)
form_complete (b ∷ bs) form e = go (eqb b 123) refl (eqb b 91) refl (is_star b bs) refl
  where
    in_braces : (o : Option (List ℕ)) → before_last 125 bs ≡ o → braced o ≡ Some form → SpellsForm (123 ∷ bs) form
    in_braces None is e = absurd (cc)
    in_braces (Some inner) is e = subst (λ (xs : List ℕ). SpellsForm (123 ∷ xs) form) (sym (last_is_there 125 bs inner is)) (braced_complete inner form e)

    in_brackets : (o : Option (List ℕ)) → before_last 93 bs ≡ o → bracketed o ≡ Some form → SpellsForm (91 ∷ bs) form
    in_brackets None is e = absurd (cc)
    in_brackets (Some inner) is e = subst (λ (xs : List ℕ). SpellsForm (91 ∷ xs) form) (sym (last_is_there 93 bs inner is)) (bracketed_complete inner form e)

    a_value : (o : Option Value) → value_of (b ∷ bs) ≡ o → option_map Constant o ≡ Some form → SpellsForm (b ∷ bs) form
    a_value None is e = absurd (cc)
    a_value (Some v) is e = subst (SpellsForm (b ∷ bs)) (let same : Some (Constant v) ≡ Some form = e in cc) (spells_constant (value_complete (b ∷ bs) v is))

    go : (t : Bool) → eqb b 123 ≡ t → (u : Bool) → eqb b 91 ≡ u → (v : Bool) → is_star b bs ≡ v → SpellsForm (b ∷ bs) form
    go true h u hu v hv =
        subst (λ (x : ℕ). SpellsForm (x ∷ bs) form) (sym (eqb-true b 123 h)) (in_braces (before_last 125 bs) refl (sym (rw h refl) ∙ e))
    go false h true hu v hv =
        subst (λ (x : ℕ). SpellsForm (x ∷ bs) form) (sym (eqb-true b 91 hu)) (in_brackets (before_last 93 bs) refl (sym (rw (h, hu) refl) ∙ e))
    go false h false hu true hv =
        subst (λ (c : List ℕ). SpellsForm c form) (sym (star_there b bs hv))
        (subst (SpellsForm (42 ∷ [])) (let same : Some Wild ≡ Some form = sym (rw (h, hu, hv) refl) ∙ e in cc) spells_star)
    go false h false hu false hv = a_value (value_of (b ∷ bs)) refl (sym (rw (h, hu, hv) refl) ∙ e)
