-- A loop over the columns and the cells of a line.
use Rattle.std.proofs.Common.{◌≡◌, ℕ, ◌+◌, ◌<◌, ◌≤◌, List, [], ◌∷◌, ◌++◌, Result, Ok, Err, length, get_or, drop, refl, ap, sym, ◌∙◌, append_assoc, append-nil, arith}
use Rattle.std.proofs.lemmas.List.{at_drop_more, at_drop_all, get_or-drop, length-drop}
use Rattle.pj_shape.specs.declared.columns.Column.{Column}
use Rattle.pj_line.specs.Spans.{Span}
use Rattle.pj_line.specs.Cells.{bytes_in}
use Rattle.pj_element.specs.declared.element.Judged.{Judged}
use Rattle.pj_element.specs.declared.element.Judged.TheVariants.{Fits, OtherKind, Unspelled}
use Rattle.pj_element.specs.declared.element.Reject.{Reject}
use Rattle.pj_element.specs.declared.element.Reject.TheVariants.{BadCell, WrongKind}
use Rattle.pj_element.specs.Elements.{items_from, onto_items, with_item}

-- these items go to the front of those that fit
abbrev pub onto_front : {A : Type 0} → List A → Result (List A) Reject → Result (List A) Reject
onto_front front (Ok items) = Ok (front ++ items)
onto_front front (Err why) = Err why

-- the first i columns gave these items
abbrev pub ItemsSoFar : {A : Type 0} → (Column → List ℕ → Judged A) → List Column → List Span → ℕ → List A → Type 0
ItemsSoFar f columns cells i items = items_from f 1 columns (bytes_in cells) ≡ onto_front items (items_from f (1 + i) (drop i columns) (bytes_in (drop i cells)))

front_none : {A : Type 0} (r : Result (List A) Reject) → r ≡ onto_front [] r
front_none (Ok items) = refl
front_none (Err why) = refl

pub items_start : {A : Type 0} (f : Column → List ℕ → Judged A) (columns : List Column) (cells : List Span) → ItemsSoFar f columns cells 0 []
items_start f columns cells = front_none (items_from f 1 columns (bytes_in cells))

one_more : {A : Type 0} (items : List A) (x : A) (r : Result (List A) Reject) → onto_front items (onto_items x r) ≡ onto_front (items ++ x ∷ []) r
one_more items x (Ok xs) = ap Ok (sym (append_assoc items (x ∷ []) xs))
one_more items x (Err why) = refl

at_column : {A : Type 0} (f : Column → List ℕ → Judged A) (columns : List Column) (cells : List Span) (i : ℕ) (column : Column) (cell : Span) → i < length columns → length cells ≡ length columns → column ≡ get_or columns i column → cell ≡ get_or cells i cell → items_from f (1 + i) (drop i columns) (bytes_in (drop i cells)) ≡ with_item (1 + i) (f column cell.bytes) (items_from f (1 + (i + 1)) (drop (i + 1) columns) (bytes_in (drop (i + 1) cells)))
at_column f columns cells i column cell lt same is_column is_cell =
    at_drop_more (λ (ks : List Column). items_from f (1 + i) ks (bytes_in (drop i cells))) columns i column lt
    ∙ (at_drop_more (λ (cs : List Span). items_from f (1 + i) (get_or columns i column ∷ drop (i + 1) columns) (bytes_in cs)) cells i cell (omega (arith, same))
    ∙ (ap (λ (k : Column). with_item (1 + i) (f k (get_or cells i cell).bytes) (items_from f (1 + i + 1) (drop (i + 1) columns) (bytes_in (drop (i + 1) cells)))) (sym is_column)
    ∙ (ap (λ (c : Span). with_item (1 + i) (f column c.bytes) (items_from f (1 + i + 1) (drop (i + 1) columns) (bytes_in (drop (i + 1) cells)))) (sym is_cell)
    ∙ ap (λ (n : ℕ). with_item (1 + i) (f column cell.bytes) (items_from f n (drop (i + 1) columns) (bytes_in (drop (i + 1) cells)))) (omega arith))))

-- the same with the cells that begin at the first of them
step : {A : Type 0} (f : Column → List ℕ → Judged A) (columns : List Column) (cells : List Span) (first i : ℕ) (items : List A) (column : Column) (cell : Span) (bytes : List ℕ) (judged : Judged A) → ItemsSoFar f columns (drop first cells) i items → i < length columns → length cells ≡ first + length columns → column ≡ get_or columns i column → cell ≡ get_or cells (first + i) cell → bytes ≡ cell.bytes → judged ≡ f column bytes → items_from f 1 columns (bytes_in (drop first cells)) ≡ onto_front items (with_item (1 + i) judged (items_from f (1 + (i + 1)) (drop (i + 1) columns) (bytes_in (drop (i + 1) (drop first cells)))))
step f columns cells first i items column cell bytes judged before lt same is_column is_cell are read =
    before ∙ (ap (onto_front items) (at_column f columns (drop first cells) i column cell lt (omega (arith, length-drop first cells, same)) is_column (is_cell ∙ sym (get_or-drop first cells i cell)))
    ∙ ap (λ (j : Judged _). onto_front items (with_item (1 + i) j (items_from f (1 + (i + 1)) (drop (i + 1) columns) (bytes_in (drop (i + 1) (drop first cells)))))) (sym (read ∙ ap (f column) are)))

pub items_more : {A : Type 0} (f : Column → List ℕ → Judged A) (columns : List Column) (cells : List Span) (first i : ℕ) (items : List A) (column : Column) (cell : Span) (bytes : List ℕ) (x : A) → ItemsSoFar f columns (drop first cells) i items → i < length columns → length cells ≡ first + length columns → column ≡ get_or columns i column → cell ≡ get_or cells (first + i) cell → bytes ≡ cell.bytes → Fits x ≡ f column bytes → ItemsSoFar f columns (drop first cells) (i + 1) (items ++ x ∷ [])
items_more f columns cells first i items column cell bytes x before lt same is_column is_cell are read =
    step f columns cells first i items column cell bytes (Fits x) before lt same is_column is_cell are read
    ∙ one_more items x (items_from f (1 + (i + 1)) (drop (i + 1) columns) (bytes_in (drop (i + 1) (drop first cells))))

pub items_other : {A : Type 0} (f : Column → List ℕ → Judged A) (columns : List Column) (cells : List Span) (first i : ℕ) (items : List A) (column : Column) (cell : Span) (bytes : List ℕ) → ItemsSoFar f columns (drop first cells) i items → i < length columns → length cells ≡ first + length columns → column ≡ get_or columns i column → cell ≡ get_or cells (first + i) cell → bytes ≡ cell.bytes → OtherKind ≡ f column bytes → items_from f 1 columns (bytes_in (drop first cells)) ≡ Err (WrongKind (1 + i))
items_other f columns cells first i items column cell bytes before lt same is_column is_cell are read = step f columns cells first i items column cell bytes OtherKind before lt same is_column is_cell are read

pub items_unspelled : {A : Type 0} (f : Column → List ℕ → Judged A) (columns : List Column) (cells : List Span) (first i : ℕ) (items : List A) (column : Column) (cell : Span) (bytes : List ℕ) → ItemsSoFar f columns (drop first cells) i items → i < length columns → length cells ≡ first + length columns → column ≡ get_or columns i column → cell ≡ get_or cells (first + i) cell → bytes ≡ cell.bytes → Unspelled ≡ f column bytes → items_from f 1 columns (bytes_in (drop first cells)) ≡ Err (BadCell (1 + i))
items_unspelled f columns cells first i items column cell bytes before lt same is_column is_cell are read = step f columns cells first i items column cell bytes Unspelled before lt same is_column is_cell are read

pub items_end : {A : Type 0} (f : Column → List ℕ → Judged A) (columns : List Column) (cells : List Span) (i : ℕ) (items : List A) → ItemsSoFar f columns cells i items → length columns ≤ i → items_from f 1 columns (bytes_in cells) ≡ Ok items
items_end f columns cells i items before le =
    before ∙ (ap (onto_front items) (at_drop_all (λ (ks : List Column). items_from f (1 + i) ks (bytes_in (drop i cells))) columns i le) ∙ ap Ok (append-nil items))
