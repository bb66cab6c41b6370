-- Loops over the parts of a pattern's cell.
use Rattle.std.proofs.Common.{◌≡◌, ℕ, ◌+◌, ◌-◌, ◌<◌, ◌≤◌, Bool, true, false, ◌&&◌, cond, eqb, List, [], ◌∷◌, ◌++◌, Option, Some, None, length, get_or, take, drop, refl, ap, sym, subst, ◌∙◌, append_assoc, append-nil, arith}
use Rattle.std.proofs.lemmas.List.{take_more, take_all, at_drop_more, at_drop_all, length-drop, drop-drop}
use Rattle.std.proofs.lemmas.Bool.{false≢true, eq-eqb, ne_eqb}
use Rattle.pj_value.specs.declared.values.Value.{Value}
use Rattle.pj_value.specs.Options.{with_first, with_front, both}
use Rattle.pj_line.specs.declared.quote.Quote.{Quote}
use Rattle.pj_line.specs.declared.quote.Quote.TheVariants.{Outside, Inside, Taken}
use Rattle.pj_line.specs.Lines.{onto}
use Rattle.pj_line.specs.Cells.{after, is_outside}
use Rattle.pj_element.specs.Spelled.{value_of}
use Rattle.pj_element.specs.Forms.{before_last, both_ends, end_of, range_in, ends_from, onto_first, parts_from, values_of}
use Rattle.pj_element.specs.Splits.{are_dots, AreDots, IsPartLen, parts_behind}
use Rattle.pj_line.proofs.Fronts.{folded, folded_push, folded_turn, folded_stop, folded_end}
use Rattle.pj_line.proofs.Splits.{folded_onto_first}

-- ---- the first part

-- the first i bytes of the first part were passed
abbrev pub PartPassed : List ℕ → ℕ → Quote → Type 0
PartPassed bytes i q = parts_from Outside bytes ≡ folded onto (take i bytes) (parts_from q (drop i bytes))

part_goes_on : (q : Quote) (b : ℕ) (rest : List ℕ) → (is_outside q && eqb b 124) ≡ false → parts_from q (b ∷ rest) ≡ onto b (parts_from (after q b) rest)
part_goes_on q b rest e = rw e refl

bar_parts : (q : Quote) (b : ℕ) (rest : List ℕ) → (is_outside q && eqb b 124) ≡ true → parts_from q (b ∷ rest) ≡ [] ∷ parts_from Outside rest
bar_parts Outside b rest e = rw e refl
bar_parts Inside b rest e = absurd (false≢true e)
bar_parts Taken b rest e = absurd (false≢true e)

pub part_more : (bytes : List ℕ) (i : ℕ) (q : Quote) → i < length bytes → PartPassed bytes i q → (is_outside q && eqb (get_or bytes i 0) 124) ≡ false → PartPassed bytes (i + 1) (after q (get_or bytes i 0))
part_more bytes i q lt before e = folded_turn onto _ (parts_from q) (parts_from (after q (get_or bytes i 0))) bytes i lt before (λ rest. part_goes_on q (get_or bytes i 0) rest e)

pub part_ends : (bytes : List ℕ) (i : ℕ) (q : Quote) → i < length bytes → PartPassed bytes i q → (is_outside q && eqb (get_or bytes i 0) 124) ≡ true → parts_from Outside bytes ≡ take i bytes ∷ parts_behind (drop i bytes)
part_ends bytes i q lt before e =
    folded_stop onto _ _ (parts_from q) bytes i lt before (bar_parts q (get_or bytes i 0) (drop (i + 1) bytes) e)
    ∙ (folded_onto_first (take i bytes) (parts_from Outside (drop (i + 1) bytes))
    ∙ ap (λ (ps : List (List ℕ)). take i bytes ∷ ps) (sym (at_drop_more parts_behind bytes i 0 lt)))

pub part_is_last : (bytes : List ℕ) (i : ℕ) (q : Quote) → length bytes ≤ i → PartPassed bytes i q → parts_from Outside bytes ≡ take (length bytes) bytes ∷ parts_behind (drop (length bytes) bytes)
part_is_last bytes i q le before =
    folded_end onto _ (parts_from q) bytes i le before
    ∙ (folded_onto_first bytes []
    ∙ (ap (λ (xs : List ℕ). xs ∷ []) (sym (take_all (length bytes) bytes (omega arith)))
    ∙ ap (λ (ps : List (List ℕ)). take (length bytes) bytes ∷ ps) (sym (at_drop_all parts_behind bytes (length bytes) (omega arith)))))

-- ---- the two dots of a range

-- no two dots outside quotes stand in the first i bytes
abbrev pub DotsPassed : List ℕ → ℕ → Quote → Type 0
DotsPassed bytes i q = ends_from Outside bytes ≡ folded onto_first (take i bytes) (ends_from q (drop i bytes))

no_dots : (q : Quote) (b : ℕ) (rest : List ℕ) → are_dots q (b ∷ rest) ≡ false → ends_from q (b ∷ rest) ≡ onto_first b (ends_from (after q b) rest)
no_dots q b rest e = rw e refl

pub dots_more : (bytes : List ℕ) (i : ℕ) (q : Quote) → i < length bytes → DotsPassed bytes i q → are_dots q (drop i bytes) ≡ false → DotsPassed bytes (i + 1) (after q (get_or bytes i 0))
dots_more bytes i q lt before e =
    let b = get_or bytes i 0 in
    let rest = drop (i + 1) bytes in
    before
    ∙ (ap (folded onto_first (take i bytes)) (at_drop_more (ends_from q) bytes i 0 lt ∙ no_dots q b rest (sym (at_drop_more (are_dots q) bytes i 0 lt) ∙ e))
    ∙ (sym (folded_push onto_first (take i bytes) b (ends_from (after q b) rest))
    ∙ ap (λ (xs : List ℕ). folded onto_first xs (ends_from (after q b) rest)) (sym (take_more bytes i 0 lt))))

folded_first_some : (front back : List ℕ) → folded onto_first front (Some ([], back)) ≡ Some (front, back)
folded_first_some [] back = refl
folded_first_some (x ∷ xs) back = ap (onto_first x) (folded_first_some xs back)

folded_first_none : (front : List ℕ) → folded onto_first front None ≡ None
folded_first_none [] = refl
folded_first_none (x ∷ xs) = ap (onto_first x) (folded_first_none xs)

and_no : (a b : Bool) → (a && (b && false)) ≡ true → ⊥
and_no true true e = false≢true e
and_no true false e = false≢true e
and_no false b e = false≢true e

dots_part : (q : Quote) (bs : List ℕ) → are_dots q bs ≡ true → (2 ≤ length bs) × (ends_from q bs ≡ Some ([], drop 2 bs))
dots_part q [] e = absurd (false≢true e)
dots_part q (b ∷ []) e = absurd (and_no (is_outside q) (eqb b 46) e)
dots_part q (b ∷ c ∷ bs) e = (omega arith, rw e refl)

pub dots_found : (bytes : List ℕ) (i : ℕ) (q : Quote) → i < length bytes → DotsPassed bytes i q → are_dots q (drop i bytes) ≡ true → AreDots bytes (Some i)
dots_found bytes i q lt before e =
    let found = dots_part q (drop i bytes) e in (
      omega (arith, found.0, length-drop i bytes),
      before
          ∙ (ap (folded onto_first (take i bytes)) found.1
          ∙ (folded_first_some (take i bytes) (drop 2 (drop i bytes))
          ∙ ap (λ (back : List ℕ). Some (take i bytes, back)) (drop-drop 2 i bytes))),
    )

pub dots_none : (bytes : List ℕ) (i : ℕ) (q : Quote) → length bytes ≤ i → DotsPassed bytes i q → ends_from Outside bytes ≡ None
dots_none bytes i q le before = folded_end onto_first _ (ends_from q) bytes i le before ∙ folded_first_none bytes

-- ---- the values of a list

-- these values came before the rest
abbrev pub ValuesSoFar : List ℕ → List Value → List ℕ → Type 0
ValuesSoFar bytes values rest = values_of (parts_from Outside bytes) ≡ with_front values (values_of (parts_from Outside rest))

one_more : (values : List Value) (v : Value) (o : Option (List Value)) → with_front values (with_first v o) ≡ with_front (values ++ v ∷ []) o
one_more values v None = refl
one_more values v (Some vs) = ap Some (sym (append_assoc values (v ∷ []) vs))

values_at : (bytes rest part : List ℕ) (values : List Value) (n : ℕ) → ValuesSoFar bytes values rest → IsPartLen rest n → part ≡ take n rest → values_of (parts_from Outside bytes) ≡ with_front values (both (value_of part) (values_of (parts_behind (drop n rest))))
values_at bytes rest part values n before cut is =
    before ∙ (ap (λ (ps : List (List ℕ)). with_front values (values_of ps)) cut.1 ∙ rw is refl)

values_on : (bytes rest part behind : List ℕ) (values : List Value) (v : Value) (n : ℕ) → ValuesSoFar bytes values rest → IsPartLen rest n → part ≡ take n rest → behind ≡ drop n rest → Some v ≡ value_of part → values_of (parts_from Outside bytes) ≡ with_front (values ++ v ∷ []) (values_of (parts_behind behind))
values_on bytes rest part behind values v n before cut is_part is_behind read =
    values_at bytes rest part values n before cut is_part
    ∙ (ap (λ (o : Option Value). with_front values (both o (values_of (parts_behind (drop n rest))))) (sym read)
    ∙ (one_more values v (values_of (parts_behind (drop n rest))) ∙ rw is_behind refl))

pub values_none : (bytes rest part : List ℕ) (values : List Value) (n : ℕ) → ValuesSoFar bytes values rest → IsPartLen rest n → part ≡ take n rest → None ≡ value_of part → values_of (parts_from Outside bytes) ≡ None
values_none bytes rest part values n before cut is read =
    values_at bytes rest part values n before cut is ∙ ap (λ (o : Option Value). with_front values (both o (values_of (parts_behind (drop n rest))))) (sym read)

pub values_end : (bytes rest part behind : List ℕ) (values : List Value) (v : Value) (n : ℕ) → ValuesSoFar bytes values rest → IsPartLen rest n → part ≡ take n rest → behind ≡ drop n rest → Some v ≡ value_of part → length behind ≡ 0 → values_of (parts_from Outside bytes) ≡ Some (values ++ v ∷ [])
values_end bytes rest part [] values v n before cut is_part is_behind read none = values_on bytes rest part [] values v n before cut is_part is_behind read ∙ ap Some (append-nil (values ++ v ∷ []))
values_end bytes rest part (bar ∷ bs) values v n before cut is_part is_behind read none = absurd (omega arith)

pub values_more : (bytes rest part behind more : List ℕ) (values : List Value) (v : Value) (n : ℕ) → ValuesSoFar bytes values rest → IsPartLen rest n → part ≡ take n rest → behind ≡ drop n rest → Some v ≡ value_of part → 1 ≤ length behind → more ≡ take (length behind - 1) (drop 1 behind) → ValuesSoFar bytes (values ++ v ∷ []) more
values_more bytes rest part [] more values v n before cut is_part is_behind read some is_more = absurd (omega arith)
values_more bytes rest part (bar ∷ bs) more values v n before cut is_part is_behind read some is_more =
    values_on bytes rest part (bar ∷ bs) values v n before cut is_part is_behind read
    ∙ ap (λ (xs : List ℕ). with_front (values ++ v ∷ []) (values_of (parts_from Outside xs))) (sym (is_more ∙ take_all (length (bar ∷ bs) - 1) bs (omega arith)))

-- ---- a closing byte

last_or_none : (bytes : List ℕ) (close : ℕ) (b : ℕ) → before_last close (b ∷ bytes) ≡ cond (eqb (get_or (b ∷ bytes) (length bytes) 0) close) (Some (take (length bytes) (b ∷ bytes))) None
last_or_none [] close b = refl
last_or_none (c ∷ bs) close b =
    ap (with_first b) (last_or_none bs close c)
    ∙ (elim (eqb (get_or (c ∷ bs) (length bs) 0) close) as (λ t. with_first b (cond t (Some (take (length bs) (c ∷ bs))) None) ≡ cond t (Some (b ∷ take (length bs) (c ∷ bs))) None) [ true ↦ refl | false ↦ refl ])

pub closing_is_last : (bytes : List ℕ) (close n : ℕ) → 1 ≤ length bytes → n ≡ length bytes - 1 → get_or bytes n 0 ≡ close → Some (take n bytes) ≡ before_last close bytes
closing_is_last [] close n some is same = absurd (omega arith)
closing_is_last (b ∷ bs) close n some is same =
    let at : n ≡ length bs = omega (arith, is) in
    subst (λ (k : ℕ). get_or (b ∷ bs) k 0 ≡ close → Some (take k (b ∷ bs)) ≡ before_last close (b ∷ bs)) (sym at)
    (λ same. sym (last_or_none bs close b ∙ rw (eq-eqb (get_or (b ∷ bs) (length bs) 0) close same) refl)) same

pub closing_is_not_last : (bytes : List ℕ) (close n : ℕ) → 1 ≤ length bytes → n ≡ length bytes - 1 → (get_or bytes n 0 ≡ close → ⊥) → None ≡ before_last close bytes
closing_is_not_last [] close n some is differ = refl
closing_is_not_last (b ∷ bs) close n some is differ =
    let at : n ≡ length bs = omega (arith, is) in
    subst (λ (k : ℕ). (get_or (b ∷ bs) k 0 ≡ close → ⊥) → None ≡ before_last close (b ∷ bs)) (sym at)
    (λ differ. sym (last_or_none bs close b ∙ rw (ne_eqb (get_or (b ∷ bs) (length bs) 0) close differ) refl)) differ

-- the ends of a range, cut at the dots
pub range_cut : (inner low behind high : List ℕ) (n : ℕ) → AreDots inner (Some n) → low ≡ take n inner → behind ≡ drop n inner → high ≡ drop 2 behind → range_in (ends_from Outside inner) ≡ both_ends (end_of low) (end_of high)
range_cut inner low behind high n dots is_low is_behind is_high =
    ap range_in dots.1 ∙ rw (is_low, is_high, is_behind, drop-drop 2 n inner) refl
