-- The cells of a line are those of the grammar.
use Rattle.std.proofs.Common.{◌≡◌, ◌≢◌, ℕ, ◌<◌, Bool, true, false, List, [], ◌∷◌, ◌++◌, Option, Some, None, length, refl, ap, sym, ◌∙◌, subst, append_assoc, append-nil, eqb, arith}
use Rattle.std.proofs.lemmas.Bool.{ne_eqb, eqb-false, eqb-true}
use Rattle.pj_value.specs.Options.{with_first}
use Rattle.pj_line.specs.declared.quote.Quote.TheVariants.{Outside, Inside}
use Rattle.pj_line.specs.Lines.{is_blank}
use Rattle.pj_line.specs.Cells.{cells_from, cells_of, onto_cell}
use Rattle.pj_line.proofs.Fronts.{folded}
use Rattle.pj_line.proofs.Cuts.{folded_cell_first, folded_cell_none, cell_begins}
use Rattle.pj_element.specs.Reading.{EndsQuoted, end_quote, taken_byte, quoted_byte, StaysQuoted, no_more, takes_none, taken_open, quoted_open, AreParts, no_part, plain_byte, quoted_part, IsCell, AreCells, no_cell, behind_blank, last_cell, first_cell, IsUnclosed, open_part, behind_byte, behind_part}

-- ---- what the grammar says is what is computed

inside_byte : (b : ℕ) (rest : List ℕ) → b ≢ 34 → b ≢ 92 → cells_from (Some Inside) (b ∷ rest) ≡ onto_cell b (cells_from (Some Inside) rest)
inside_byte b rest no_quote no_slash = rw (ne_eqb b 34 no_quote, ne_eqb b 92 no_slash) refl

outside_byte : (b : ℕ) (rest : List ℕ) → is_blank b ≡ false → b ≢ 34 → cells_from (Some Outside) (b ∷ rest) ≡ onto_cell b (cells_from (Some Outside) rest)
outside_byte b rest no_blank no_quote = rw (no_blank, ne_eqb b 34 no_quote) refl

quoted_is : (part rest : List ℕ) → EndsQuoted part → cells_from (Some Inside) (part ++ rest) ≡ folded onto_cell part (cells_from (Some Outside) rest)
quoted_is _ rest end_quote = refl
quoted_is _ rest (taken_byte b {bytes} q) = ap (λ (o : Option (List (List ℕ))). onto_cell 92 (onto_cell b o)) (quoted_is bytes rest q)
quoted_is _ rest (quoted_byte b {bytes} no_quote no_slash q) = inside_byte b (bytes ++ rest) no_quote no_slash ∙ ap (onto_cell b) (quoted_is bytes rest q)

folded_append : (part rest : List ℕ) (o : Option (List (List ℕ))) → folded onto_cell (part ++ rest) o ≡ folded onto_cell part (folded onto_cell rest o)
folded_append [] rest o = refl
folded_append (b ∷ part) rest o = ap (onto_cell b) (folded_append part rest o)

parts_are : (cell rest : List ℕ) → AreParts cell → cells_from (Some Outside) (cell ++ rest) ≡ folded onto_cell cell (cells_from (Some Outside) rest)
parts_are _ rest no_part = refl
parts_are _ rest (plain_byte b {bytes} no_blank no_quote p) = outside_byte b (bytes ++ rest) no_blank no_quote ∙ ap (onto_cell b) (parts_are bytes rest p)
parts_are _ rest (quoted_part part {bytes} q p) =
    ap (λ (line : List ℕ). onto_cell 34 (cells_from (Some Inside) line)) (append_assoc part bytes rest)
    ∙ ap (onto_cell 34)
    (quoted_is part (bytes ++ rest) q
    ∙ (ap (folded onto_cell part) (parts_are bytes rest p) ∙ sym (folded_append part bytes (cells_from (Some Outside) rest))))

-- a cell begins with a byte that is no blank
begins_no_blank : (cell rest : List ℕ) → 0 < length cell → AreParts cell → cells_of (cell ++ rest) ≡ cells_from (Some Outside) (cell ++ rest)
begins_no_blank _ rest some no_part = absurd (omega arith)
begins_no_blank _ rest some (plain_byte b {bytes} no_blank no_quote p) = cell_begins b (bytes ++ rest) no_blank
begins_no_blank _ rest some (quoted_part part {bytes} q p) = refl

cell_is : (cell rest : List ℕ) → IsCell cell → cells_of (cell ++ rest) ≡ folded onto_cell cell (cells_from (Some Outside) rest)
cell_is cell rest c = begins_no_blank cell rest c.0 c.1 ∙ parts_are cell rest c.1

pub cells_are : (line : List ℕ) (cells : List (List ℕ)) → AreCells line cells → cells_of line ≡ Some cells
cells_are _ _ no_cell = refl
cells_are _ _ (behind_blank b {line} {cells} blank c) = rw blank (cells_are line cells c)
cells_are _ _ (last_cell cell c) = ap cells_of (sym (append-nil cell)) ∙ (cell_is cell [] c ∙ folded_cell_first cell (Some []))
cells_are _ _ (first_cell cell b {line} {cells} c blank rest) =
    cell_is cell (b ∷ line) c
    ∙ (ap (folded onto_cell cell) (rw blank (ap (with_first []) (cells_are line cells rest)))
    ∙ folded_cell_first cell (Some cells))

stays_is : (bytes : List ℕ) → StaysQuoted bytes → cells_from (Some Inside) bytes ≡ None
stays_is _ no_more = refl
stays_is _ takes_none = refl
stays_is _ (taken_open b {bytes} o) = ap (λ (o : Option (List (List ℕ))). onto_cell 92 (onto_cell b o)) (stays_is bytes o)
stays_is _ (quoted_open b {bytes} no_quote no_slash o) = inside_byte b bytes no_quote no_slash ∙ ap (onto_cell b) (stays_is bytes o)

-- from between cells and from inside one
byte_neither : (b : ℕ) (line : List ℕ) → b ≢ 34 → (t : Bool) → is_blank b ≡ t → (cells_of line ≡ None) × (cells_from (Some Outside) line ≡ None) → (cells_of (b ∷ line) ≡ None) × (cells_from (Some Outside) (b ∷ line) ≡ None)
byte_neither b line no_quote true e none = (rw e none.0, rw e (ap (with_first []) none.0))
byte_neither b line no_quote false e none =
    let out = outside_byte b line e no_quote ∙ ap (onto_cell b) none.1 in
    (cell_begins b line e ∙ out, out)

unclosed_both : (line : List ℕ) → IsUnclosed line → (cells_of line ≡ None) × (cells_from (Some Outside) line ≡ None)
unclosed_both _ (open_part {bytes} o) = let e = ap (onto_cell 34) (stays_is bytes o) in (e, e)
unclosed_both _ (behind_byte b {line} no_quote u) = byte_neither b line no_quote (is_blank b) refl (unclosed_both line u)
unclosed_both _ (behind_part part {line} q u) =
    let e = ap (onto_cell 34) (quoted_is part line q ∙ (ap (folded onto_cell part) (unclosed_both line u).1 ∙ folded_cell_none part)) in
    (e, e)

pub unclosed_is : (line : List ℕ) → IsUnclosed line → cells_of line ≡ None
unclosed_is line u = (unclosed_both line u).0

-- ---- each line has cells or is unclosed

-- the bytes from inside a cell on: the rest of the cell, and behind it the other cells
data FromCell : List ℕ → Type 0 where
  unclosed_there : {line : List ℕ} → IsUnclosed line → FromCell line
  to_end : {cell : List ℕ} → AreParts cell → FromCell cell
  to_blank : (cell : List ℕ) (b : ℕ) {line : List ℕ} {cells : List (List ℕ)} → AreParts cell → is_blank b ≡ true → AreCells line cells → FromCell (cell ++ b ∷ line)

data FromQuote : List ℕ → Type 0 where
  never_ends : {line : List ℕ} → StaysQuoted line → FromQuote line
  ends_there : (part : List ℕ) {line : List ℕ} → EndsQuoted part → FromCell line → FromQuote (part ++ line)

data FromTaken : List ℕ → Type 0 where
  none_taken : FromTaken []
  one_taken : (b : ℕ) {line : List ℕ} → FromQuote line → FromTaken (b ∷ line)

data FromBlank : List ℕ → Type 0 where
  unclosed_line : {line : List ℕ} → IsUnclosed line → FromBlank line
  cells_line : {line : List ℕ} {cells : List (List ℕ)} → AreCells line cells → FromBlank line

record From (line : List ℕ) : Type 0 where
  blank : FromBlank line
  cell : FromCell line
  quote : FromQuote line
  taken : FromTaken line

-- one more byte in front

in_cell : (b : ℕ) {line : List ℕ} → is_blank b ≡ false → b ≢ 34 → FromCell line → FromCell (b ∷ line)
in_cell b no_blank no_quote (unclosed_there u) = unclosed_there (behind_byte b no_quote u)
in_cell b no_blank no_quote (to_end p) = to_end (plain_byte b no_blank no_quote p)
in_cell b no_blank no_quote (to_blank cell d p blank c) = to_blank (b ∷ cell) d (plain_byte b no_blank no_quote p) blank c

at_blank : (b : ℕ) {line : List ℕ} → is_blank b ≡ true → b ≢ 34 → FromBlank line → FromCell (b ∷ line)
at_blank b blank no_quote (unclosed_line u) = unclosed_there (behind_byte b no_quote u)
at_blank b blank no_quote (cells_line c) = to_blank [] b no_part blank c

at_quote_ends : (part : List ℕ) {line : List ℕ} → EndsQuoted part → FromCell line → FromCell (34 ∷ part ++ line)
at_quote_ends part q (unclosed_there u) = unclosed_there (behind_part part q u)
at_quote_ends part q (to_end p) = to_end (quoted_part part q p)
at_quote_ends part q (to_blank cell b {line} {cells} p blank c) =
    subst FromCell (append_assoc (34 ∷ part) cell (b ∷ line)) (to_blank (34 ∷ part ++ cell) b (quoted_part part q p) blank c)

at_quote : {line : List ℕ} → FromQuote line → FromCell (34 ∷ line)
at_quote (never_ends o) = unclosed_there (open_part o)
at_quote (ends_there part q f) = at_quote_ends part q f

in_quote : (b : ℕ) {line : List ℕ} → b ≢ 34 → b ≢ 92 → FromQuote line → FromQuote (b ∷ line)
in_quote b no_quote no_slash (never_ends o) = never_ends (quoted_open b no_quote no_slash o)
in_quote b no_quote no_slash (ends_there part q f) = ends_there (b ∷ part) (quoted_byte b no_quote no_slash q) f

taken_more : (b : ℕ) {line : List ℕ} → FromQuote line → FromQuote (92 ∷ b ∷ line)
taken_more b (never_ends o) = never_ends (taken_open b o)
taken_more b (ends_there part q f) = ends_there (92 ∷ b ∷ part) (taken_byte b q) f

at_slash : {line : List ℕ} → FromTaken line → FromQuote (92 ∷ line)
at_slash none_taken = never_ends takes_none
at_slash (one_taken b f) = taken_more b f

cell_in_line : {line : List ℕ} → FromCell line → 0 < length line → FromBlank line
cell_in_line (unclosed_there u) some = unclosed_line u
cell_in_line (to_end {cell} p) some = cells_line (last_cell cell (some, p))
cell_in_line (to_blank [] b p blank c) some = cells_line (behind_blank b blank c)
cell_in_line (to_blank (x ∷ cell) b p blank c) some = cells_line (first_cell (x ∷ cell) b (omega arith, p) blank c)

passed_blank : (b : ℕ) {line : List ℕ} → is_blank b ≡ true → b ≢ 34 → FromBlank line → FromBlank (b ∷ line)
passed_blank b blank no_quote (unclosed_line u) = unclosed_line (behind_byte b no_quote u)
passed_blank b blank no_quote (cells_line c) = cells_line (behind_blank b blank c)

cell_at : (b : ℕ) (line : List ℕ) → From line → FromCell (b ∷ line)
cell_at b line f = go (eqb b 34) refl (is_blank b) refl
  where
    go : (t : Bool) → eqb b 34 ≡ t → (u : Bool) → is_blank b ≡ u → FromCell (b ∷ line)
    go true e u d = subst (λ (x : ℕ). FromCell (x ∷ line)) (sym (eqb-true b 34 e)) (at_quote f.quote)
    go false e true d = at_blank b d (eqb-false b 34 e) f.blank
    go false e false d = in_cell b d (eqb-false b 34 e) f.cell

blank_at : (b : ℕ) (line : List ℕ) → From line → FromBlank (b ∷ line)
blank_at b line f = go (is_blank b) refl
  where
    go : (t : Bool) → is_blank b ≡ t → FromBlank (b ∷ line)
    go true e = passed_blank b e (λ is. absurd (cc (ap is_blank is))) f.blank
    go false e = cell_in_line (cell_at b line f) (omega arith)

quote_at : (b : ℕ) (line : List ℕ) → From line → FromQuote (b ∷ line)
quote_at b line f = go (eqb b 34) refl (eqb b 92) refl
  where
    go : (t : Bool) → eqb b 34 ≡ t → (u : Bool) → eqb b 92 ≡ u → FromQuote (b ∷ line)
    go true e u d = subst (λ (x : ℕ). FromQuote (x ∷ line)) (sym (eqb-true b 34 e)) (ends_there (34 ∷ []) end_quote f.cell)
    go false e true d = subst (λ (x : ℕ). FromQuote (x ∷ line)) (sym (eqb-true b 92 d)) (at_slash f.taken)
    go false e false d = in_quote b (eqb-false b 34 e) (eqb-false b 92 d) f.quote

from : (line : List ℕ) → From line
from [] = record { blank = cells_line no_cell; cell = to_end no_part; quote = never_ends no_more; taken = none_taken }
from (b ∷ line) =
    let f = from line in
    record { blank = blank_at b line f; cell = cell_at b line f; quote = quote_at b line f; taken = one_taken b f.quote }

-- ---- both directions

cells_there : (line : List ℕ) (cells : List (List ℕ)) → FromBlank line → cells_of line ≡ Some cells → AreCells line cells
cells_there line cells (unclosed_line u) e = absurd (cc (unclosed_is line u))
cells_there line cells (cells_line {cells = others} c) e = subst (AreCells line) (let same = cells_are line others c in cc) c

pub cells_exact : (line : List ℕ) (cells : List (List ℕ)) → cells_of line ≡ Some cells → AreCells line cells
cells_exact line cells e = cells_there line cells (from line).blank e

unclosed_there_is : (line : List ℕ) → FromBlank line → cells_of line ≡ None → IsUnclosed line
unclosed_there_is line (unclosed_line u) e = u
unclosed_there_is line (cells_line {cells = others} c) e = absurd (cc (cells_are line others c))

pub unclosed_exact : (line : List ℕ) → cells_of line ≡ None → IsUnclosed line
unclosed_exact line e = unclosed_there_is line (from line).blank e
