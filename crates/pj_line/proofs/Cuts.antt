-- The length of the first cell.
use Rattle.std.proofs.Common.{◌≡◌, ℕ, zero, suc, ◌+◌, ◌<◌, ◌≤◌, Bool, true, false, ◌&&◌, ◌==◌, List, [], ◌∷◌, Option, Some, None, length, get_or, take, drop, refl, ap, sym, ◌∙◌, subst, arith}
use Rattle.std.proofs.lemmas.Bool.{false≢true}
use Rattle.std.proofs.lemmas.Bool.Decides.{nat_tests}
use Rattle.std.proofs.lemmas.List.{at_drop_more, drop_all, drop-drop, get_or-drop}
use Rattle.std.proofs.Math.Seq.{take-add}
use Rattle.memchr.specs.Find.{Nowhere, Passes, is_byte2}
use Rattle.pj_value.specs.Options.{with_first}
use Rattle.pj_line.specs.declared.quote.Quote.{Quote}
use Rattle.pj_line.specs.declared.quote.Quote.TheVariants.{Outside, Inside, Taken}
use Rattle.pj_line.specs.Lines.{is_blank}
use Rattle.pj_line.specs.Cells.{after, cells_from, cells_of, is_outside, onto_cell}
use Rattle.pj_line.specs.Cutting.{Leads, IsPlainLen, ends_plain}
use Rattle.pj_line.proofs.Fronts.{folded, folded_both, folded_turn, folded_stop}

pub cell_goes_on : (q : Quote) (b : ℕ) (rest : List ℕ) → (is_outside q && is_blank b) ≡ false → cells_from (Some q) (b ∷ rest) ≡ onto_cell b (cells_from (Some (after q b)) rest)
cell_goes_on q b rest e = rw e refl

pub cell_ends : (q : Quote) (b : ℕ) (rest : List ℕ) → (is_outside q && is_blank b) ≡ true → cells_from (Some q) (b ∷ rest) ≡ with_first [] (cells_of rest)
cell_ends q b rest e = rw e refl

pub blank_is_passed : (q : Quote) (b : ℕ) (rest : List ℕ) → (is_outside q && is_blank b) ≡ true → cells_of (b ∷ rest) ≡ cells_of rest
blank_is_passed Outside b rest e = rw e refl
blank_is_passed Inside b rest e = absurd (false≢true e)
blank_is_passed Taken b rest e = absurd (false≢true e)

-- a cell begins at a byte that is no blank
pub cell_begins : (b : ℕ) (rest : List ℕ) → is_blank b ≡ false → cells_of (b ∷ rest) ≡ cells_from (Some Outside) (b ∷ rest)
cell_begins b rest e = rw e refl

pub folded_cell_first : (front : List ℕ) (o : Option (List (List ℕ))) → folded onto_cell front (with_first [] o) ≡ with_first front o
folded_cell_first [] o = refl
folded_cell_first (x ∷ xs) None = ap (onto_cell x) (folded_cell_first xs None)
folded_cell_first (x ∷ xs) (Some cs) = ap (onto_cell x) (folded_cell_first xs (Some cs))

pub folded_cell_none : (front : List ℕ) → folded onto_cell front None ≡ None
folded_cell_none [] = refl
folded_cell_none (x ∷ xs) = ap (onto_cell x) (folded_cell_none xs)

-- ---- runs of bytes

pub leads_more : (p q : Quote) (bytes : List ℕ) (i : ℕ) → i < length bytes → Leads p q bytes i → (is_outside q && is_blank (get_or bytes i 0)) ≡ false → Leads p (after q (get_or bytes i 0)) bytes (i + 1)
leads_more p q bytes i lt before e = folded_turn onto_cell _ (cells_from (Some q)) (cells_from (Some (after q (get_or bytes i 0)))) bytes i lt before (λ rest. cell_goes_on q (get_or bytes i 0) rest e)

-- one run behind another
pub leads_on : (p q r : Quote) (bytes rest : List ℕ) (i n : ℕ) → Leads p q bytes i → rest ≡ drop i bytes → Leads q r rest n → Leads p r bytes (i + n)
leads_on p q r bytes rest i n first is second =
    first ∙ (ap (folded onto_cell (take i bytes)) (ap (cells_from (Some q)) (sym is) ∙ second)
    ∙ (sym (folded_both onto_cell (take i bytes) (take n rest) (cells_from (Some r) (drop n rest)))
    ∙ rw (is, take-add i n bytes, drop-drop n i bytes) refl))

-- what is behind a run is unclosed
pub leads_to_none : (p q : Quote) (bytes rest : List ℕ) (i : ℕ) → Leads p q bytes i → rest ≡ drop i bytes → cells_from (Some q) rest ≡ None → cells_from (Some p) bytes ≡ None
leads_to_none p q bytes rest i first is none =
    first ∙ (ap (folded onto_cell (take i bytes)) (ap (cells_from (Some q)) (sym is) ∙ none) ∙ folded_cell_none (take i bytes))

-- outside quotes
plain_byte : (b : ℕ) → ends_plain b ≡ false → (is_blank b ≡ false) × (after Outside b ≡ Outside)
plain_byte b e = (grind (arith, nat_tests), grind (arith, nat_tests))

pub plain_more : (bytes : List ℕ) (i : ℕ) → i < length bytes → Leads Outside Outside bytes i → ends_plain (get_or bytes i 0) ≡ false → Leads Outside Outside bytes (i + 1)
plain_more bytes i lt before e =
    let plain = plain_byte (get_or bytes i 0) e in
    subst (λ (q : Quote). Leads Outside q bytes (i + 1)) plain.1 (leads_more Outside Outside bytes i lt before plain.0)

-- inside them, no byte being a quote or a backslash
inside_byte : (b : ℕ) → (is_byte2 34 92 b ≡ true → ⊥) → after Inside b ≡ Inside
inside_byte b e = go (b == 34) refl (b == 92) refl e
  where
    go : (s : Bool) → (b == 34) ≡ s → (t : Bool) → (b == 92) ≡ t → (is_byte2 34 92 b ≡ true → ⊥) → after Inside b ≡ Inside
    go true e1 t e2 none = absurd (none (rw e1 refl))
    go false e1 true e2 none = absurd (none (rw (e1, e2) refl))
    go false e1 false e2 none = rw (e1, e2) refl

pub inside_run : (bytes : List ℕ) (n : ℕ) → n ≤ length bytes → Nowhere (Passes (is_byte2 34 92) bytes) 0 n → Leads Inside Inside bytes n
inside_run bytes zero le none = refl
inside_run [] (suc n) le none = absurd (omega arith)
inside_run (b ∷ bs) (suc n) le none =
    rw (inside_byte b (none 0 (omega arith) (omega arith))) (ap (onto_cell b) (inside_run bs n (omega arith) (λ k low high. none (suc k) (omega arith) (omega arith))))

-- ---- the rest of a quoted part

-- what stands before the first quote or backslash
to_mark : (bytes rest : List ℕ) (at n : ℕ) → Leads Inside Inside bytes at → rest ≡ drop at bytes → n ≤ length rest → Nowhere (Passes (is_byte2 34 92) rest) 0 n → Leads Inside Inside bytes (at + n)
to_mark bytes rest at n before is le none = leads_on Inside Inside Inside bytes rest at n before is (inside_run rest n le none)

pub no_mark : (bytes rest : List ℕ) (at : ℕ) → Leads Inside Inside bytes at → rest ≡ drop at bytes → Nowhere (Passes (is_byte2 34 92) rest) 0 (length rest) → cells_from (Some Inside) bytes ≡ None
no_mark bytes rest at before is none =
    leads_to_none Inside Inside bytes rest at before is
    (leads_to_none Inside Inside rest (drop (length rest) rest) (length rest) (inside_run rest (length rest) (omega arith) none) refl
    (ap (cells_from (Some Inside)) (drop_all (length rest) rest (omega arith))))

pub quote_closes : (bytes rest : List ℕ) (at run : ℕ) → Leads Inside Inside bytes at → rest ≡ drop at bytes → run < length rest → Nowhere (Passes (is_byte2 34 92) rest) 0 run → at + run < length bytes → get_or bytes (at + run) 0 ≡ 34 → Leads Inside Outside bytes (at + run + 1)
quote_closes bytes rest at run before is lt none within e =
    subst (λ (q : Quote). Leads Inside q bytes (at + run + 1)) (rw e refl)
    (leads_more Inside Inside bytes (at + run) within (to_mark bytes rest at run before is (omega arith) none) refl)

-- a mark that is no quote is a backslash
slash_is : (b : ℕ) → is_byte2 34 92 b ≡ true → (b ≡ 34 → ⊥) → b ≡ 92
slash_is b e differs = grind (arith, nat_tests)

to_slash : (bytes rest : List ℕ) (at run : ℕ) → Leads Inside Inside bytes at → rest ≡ drop at bytes → run < length rest → Nowhere (Passes (is_byte2 34 92) rest) 0 run → at + run < length bytes → get_or bytes (at + run) 0 ≡ 92 → Leads Inside Taken bytes (at + run + 1)
to_slash bytes rest at run before is lt none within e =
    subst (λ (q : Quote). Leads Inside q bytes (at + run + 1)) (rw e refl)
    (leads_more Inside Inside bytes (at + run) within (to_mark bytes rest at run before is (omega arith) none) refl)

-- the byte at the mark
at_mark : (bytes rest : List ℕ) (at run : ℕ) → rest ≡ drop at bytes → Passes (is_byte2 34 92) rest run → (get_or bytes (at + run) 0 ≡ 34 → ⊥) → get_or bytes (at + run) 0 ≡ 92
at_mark bytes rest at run is passes differs =
    slash_is (get_or bytes (at + run) 0) (ap (is_byte2 34 92) (sym (get_or-drop at bytes run 0) ∙ ap (λ (l : List ℕ). get_or l run 0) (sym is)) ∙ passes) differs

pub slash_takes : (bytes rest : List ℕ) (at run : ℕ) → Leads Inside Inside bytes at → rest ≡ drop at bytes → run < length rest → Nowhere (Passes (is_byte2 34 92) rest) 0 run → Passes (is_byte2 34 92) rest run → at + run + 1 < length bytes → (get_or bytes (at + run) 0 ≡ 34 → ⊥) → Leads Inside Inside bytes (at + run + 2)
slash_takes bytes rest at run before is lt none passes within differs =
    let slash = to_slash bytes rest at run before is lt none (omega arith) (at_mark bytes rest at run is passes differs) in
    subst (Leads Inside Inside bytes) (omega arith) (leads_more Inside Taken bytes (at + run + 1) within slash refl)

pub slash_at_end : (bytes rest : List ℕ) (at run : ℕ) → Leads Inside Inside bytes at → rest ≡ drop at bytes → run < length rest → Nowhere (Passes (is_byte2 34 92) rest) 0 run → Passes (is_byte2 34 92) rest run → at + run + 1 ≡ length bytes → (get_or bytes (at + run) 0 ≡ 34 → ⊥) → cells_from (Some Inside) bytes ≡ None
slash_at_end bytes rest at run before is lt none passes end differs =
    let slash = to_slash bytes rest at run before is lt none (omega (arith, end)) (at_mark bytes rest at run is passes differs) in
    leads_to_none Inside Taken bytes (drop (at + run + 1) bytes) (at + run + 1) slash refl
    (ap (cells_from (Some Taken)) (drop_all (at + run + 1) bytes (omega (arith, end))))

-- ---- the end of a cell

pub stops_at_blank : (line : List ℕ) (i : ℕ) → i < length line → Leads Outside Outside line i → is_blank (get_or line i 0) ≡ true → cells_from (Some Outside) line ≡ with_first (take i line) (cells_of (drop i line))
stops_at_blank line i lt before e =
    let rest = drop (i + 1) line in
    folded_stop onto_cell _ _ (cells_from (Some Outside)) line i lt before (cell_ends Outside (get_or line i 0) rest e)
    ∙ (folded_cell_first (take i line) (cells_of rest)
    ∙ ap (with_first (take i line)) (sym (at_drop_more cells_of line i 0 lt ∙ blank_is_passed Outside (get_or line i 0) rest e)))

pub stops_at_end : (line : List ℕ) (i : ℕ) → i ≡ length line → Leads Outside Outside line i → cells_from (Some Outside) line ≡ with_first (take i line) (cells_of (drop i line))
stops_at_end line i is before =
    before ∙ (ap (λ (xs : List ℕ). folded onto_cell (take i line) (cells_from (Some Outside) xs)) (drop_all i line (omega (arith, is)))
    ∙ (folded_cell_first (take i line) (cells_of []) ∙ ap (λ (xs : List ℕ). with_first (take i line) (cells_of xs)) (sym (drop_all i line (omega (arith, is))))))

-- a plain part ends at a blank, at the end, or at a quote
pub plain_part : (line rest : List ℕ) (at n : ℕ) → Leads Outside Outside line at → rest ≡ drop at line → IsPlainLen rest n → Leads Outside Outside line (at + n)
plain_part line rest at n before is plain = leads_on Outside Outside Outside line rest at n before is plain.leads

no_blank_but_end : (b : ℕ) → ends_plain b ≡ true → is_blank b ≡ false → b ≡ 34
no_blank_but_end b e f = grind (arith, nat_tests)

pub opens_quote : (line rest : List ℕ) (at n : ℕ) → Leads Outside Outside line at → rest ≡ drop at line → IsPlainLen rest n → n < length rest → at + n < length line → is_blank (get_or line (at + n) 0) ≡ false → Leads Outside Inside line (at + n + 1)
opens_quote line rest at n before is plain lt within e =
    let same : get_or rest n 0 ≡ get_or line (at + n) 0 = ap (λ (l : List ℕ). get_or l n 0) is ∙ get_or-drop at line n 0 in
    let quote : get_or line (at + n) 0 ≡ 34 = no_blank_but_end (get_or line (at + n) 0) (ap ends_plain (sym same) ∙ plain.ends lt) e in
    subst (λ (q : Quote). Leads Outside q line (at + n + 1)) (rw quote refl)
    (leads_more Outside Outside line (at + n) within (plain_part line rest at n before is plain) e)

pub cell_first : (line : List ℕ) → 0 < length line → is_blank (get_or line 0 0) ≡ false → cells_of line ≡ cells_from (Some Outside) line
cell_first [] some e = absurd (omega arith)
cell_first (b ∷ bs) some e = cell_begins b bs e
