-- What a line says, by its cells.
use Rattle.std.proofs.Common.{◌≡◌, ℕ, ◌-◌, ◌<◌, ◌≤◌, true, false, List, [], ◌∷◌, Some, Ok, Err, length, get_or, drop, refl, ap, sym, ◌∙◌, arith}
use Rattle.std.proofs.lemmas.Bool.{eq-eqb, ne_eqb}
use Rattle.std.proofs.lemmas.Bool.Decides.{nat_tests}
use Rattle.std.proofs.lemmas.List.{length-drop}
use Rattle.std.specs.Str.{bytes_eq}
use Rattle.pj_shape.specs.declared.columns.Column.{Column}
use Rattle.pj_line.specs.declared.cell.CellFault.{CellFault}
use Rattle.pj_line.specs.declared.cell.CellFault.TheVariants.{Unclosed, TooMany}
use Rattle.pj_line.specs.Lines.{is_skipped}
use Rattle.pj_line.specs.Spans.{Span}
use Rattle.pj_line.specs.Cells.{AreCut, bytes_in, cells_of}
use Rattle.pj_element.specs.declared.element.Judged.{Judged}
use Rattle.pj_element.specs.declared.element.Read.TheVariants.{Bad}
use Rattle.pj_element.specs.declared.element.Reject.TheVariants.{Arity, NotElement}
use Rattle.pj_element.specs.Elements.{items_from, items_in, judged, pattern_in, read_punct, read_row, reading_of, tagged, value_in, width}
use Rattle.pj_line.proofs.CutCells.{bytes_count}

-- ---- widths

counted_behind : (cells : List Span) (first : ℕ) → length (bytes_in (drop first cells)) ≡ length cells - first
counted_behind cells first = bytes_count (drop first cells) ∙ length-drop first cells

pub fitting_width : {A : Type 0} (f : Column → List ℕ → Judged A) (columns : List Column) (cells : List Span) (first : ℕ) → length cells - first ≡ length columns → items_in f columns (bytes_in (drop first cells)) ≡ items_from f 1 columns (bytes_in (drop first cells))
fitting_width f columns cells first same = rw (eq-eqb (length (bytes_in (drop first cells))) (length columns) (counted_behind cells first ∙ same)) refl

pub other_width : {A : Type 0} (f : Column → List ℕ → Judged A) (columns : List Column) (cells : List Span) (first : ℕ) → (length cells - first ≡ length columns → ⊥) → items_in f columns (bytes_in (drop first cells)) ≡ Err (Arity (width columns) (length cells - first))
other_width f columns cells first differ =
    rw (ne_eqb (length (bytes_in (drop first cells))) (length columns) (λ same. differ (sym (counted_behind cells first) ∙ same)))
    (ap (λ (n : ℕ). Err (Arity (width columns) n)) (counted_behind cells first))

-- ---- tags

tag_tuple : (columns : List Column) (tag : List ℕ) (cells : List (List ℕ)) → bytes_eq tag (116 ∷ []) ≡ true → tagged columns (tag ∷ cells) ≡ read_row (items_in value_in columns cells)
tag_tuple columns tag cells e = rw e refl

tag_punct : (columns : List Column) (tag : List ℕ) (cells : List (List ℕ)) → bytes_eq tag (116 ∷ []) ≡ false → bytes_eq tag (112 ∷ []) ≡ true → tagged columns (tag ∷ cells) ≡ read_punct (items_in pattern_in columns cells)
tag_punct columns tag cells e f = rw (e, f) refl

pub tag_other : (columns : List Column) (tag : List ℕ) (cells : List (List ℕ)) → bytes_eq tag (116 ∷ []) ≡ false → bytes_eq tag (112 ∷ []) ≡ false → tagged columns (tag ∷ cells) ≡ Bad NotElement
tag_other columns tag cells e f = rw (e, f) refl

-- the first cell is the tag, and the others stand behind it
first_and_others : (cells : List Span) (tag : Span) → 0 < length cells → tag ≡ get_or cells 0 tag → cells ≡ tag ∷ drop 1 cells
first_and_others [] tag some is = absurd (omega arith)
first_and_others (c ∷ cs) tag some is = rw is refl

pub no_tag : (columns : List Column) (cells : List Span) → length cells ≡ 0 → tagged columns (bytes_in cells) ≡ Bad NotElement
no_tag columns [] none = refl
no_tag columns (c ∷ cs) none = absurd (omega arith)

pub tuple_tag : (columns : List Column) (cells : List Span) (tag : Span) → 0 < length cells → tag ≡ get_or cells 0 tag → bytes_eq tag.bytes (116 ∷ []) ≡ true → tagged columns (bytes_in cells) ≡ read_row (items_in value_in columns (bytes_in (drop 1 cells)))
tuple_tag columns cells tag some is e =
    ap (λ (cs : List Span). tagged columns (bytes_in cs)) (first_and_others cells tag some is) ∙ tag_tuple columns tag.bytes (bytes_in (drop 1 cells)) e

pub punct_tag : (columns : List Column) (cells : List Span) (tag : Span) → 0 < length cells → tag ≡ get_or cells 0 tag → bytes_eq tag.bytes (116 ∷ []) ≡ false → bytes_eq tag.bytes (112 ∷ []) ≡ true → tagged columns (bytes_in cells) ≡ read_punct (items_in pattern_in columns (bytes_in (drop 1 cells)))
punct_tag columns cells tag some is e f =
    ap (λ (cs : List Span). tagged columns (bytes_in cs)) (first_and_others cells tag some is) ∙ tag_punct columns tag.bytes (bytes_in (drop 1 cells)) e f

pub other_tag : (columns : List Column) (cells : List Span) (tag : Span) → 0 < length cells → tag ≡ get_or cells 0 tag → bytes_eq tag.bytes (116 ∷ []) ≡ false → bytes_eq tag.bytes (112 ∷ []) ≡ false → tagged columns (bytes_in cells) ≡ Bad NotElement
other_tag columns cells tag some is e f =
    ap (λ (cs : List Span). tagged columns (bytes_in cs)) (first_and_others cells tag some is) ∙ tag_other columns tag.bytes (bytes_in (drop 1 cells)) e f

-- ---- lines

pub few_cells : (columns : List Column) (cells : List (List ℕ)) → length cells ≤ 128 → judged columns (Some cells) ≡ tagged columns cells
few_cells columns cells few = grind (arith, nat_tests)

pub many_cells : (columns : List Column) (cells : List (List ℕ)) → 128 < length cells → judged columns (Some cells) ≡ Bad NotElement
many_cells columns cells many = grind (arith, nat_tests)

pub unskipped : (columns : List Column) (line : List ℕ) → is_skipped line ≡ false → reading_of columns line ≡ judged columns (cells_of line)
unskipped columns line e = rw e refl

pub cut_line : (columns : List Column) (line : List ℕ) (cells : List Span) → is_skipped line ≡ false → AreCut line (Ok cells) → reading_of columns line ≡ tagged columns (bytes_in cells)
cut_line columns line cells e cut =
    unskipped columns line e ∙ (ap (judged columns) cut.0 ∙ few_cells columns (bytes_in cells) (omega (arith, cut.1, bytes_count cells)))

pub uncut_line : (columns : List Column) (line : List ℕ) (fault : CellFault) → is_skipped line ≡ false → AreCut line (Err fault) → reading_of columns line ≡ Bad NotElement
uncut_line columns line (Unclosed at) e cut = unskipped columns line e ∙ ap (judged columns) cut.0
uncut_line columns line TooMany e cut = unskipped columns line e ∙ (ap (judged columns) cut.1 ∙ many_cells columns cut.0 cut.2)
