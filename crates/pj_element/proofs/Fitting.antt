-- What a line says fits the columns.
use Rattle.std.proofs.Common.{◌≡◌, ◌≤◌, ◌<◌, ◌^◌, ℕ, ◌+◌, Bool, true, false, cond, ◌==◌, nat_lt, List, [], ◌∷◌, Option, Some, None, Result, Ok, Err, length, refl, sym, arith}
use Rattle.std.specs.Bool.{⊤}
use Rattle.std.specs.Str.{bytes_eq}
use Rattle.std.proofs.lemmas.Bool.{eqb-true, ltb-false, and_from}
use Rattle.pj_value.specs.declared.values.Value.{Value}
use Rattle.pj_value.specs.Values.{is_kind}
use Rattle.pj_shape.specs.declared.columns.Column.{Column}
use Rattle.pj_shape.specs.Columns.{domains_of}
use Rattle.pj_pattern.specs.declared.pattern.Form.{Form}
use Rattle.pj_pattern.specs.Patterns.{Pattern, is_of_kind}
use Rattle.pj_pattern.specs.Fitting.{row_fits, punct_fits}
use Rattle.pj_pattern.proofs.Fitting.{punct_length}
use Rattle.pj_pattern.specs.Normal.{normal_of}
use Rattle.pj_pattern.proofs.NormalKinds.{kind_kept}
use Rattle.pj_line.specs.Lines.{is_skipped}
use Rattle.pj_line.specs.Cells.{cells_of}
use Rattle.pj_element.specs.declared.element.Judged.{Judged}
use Rattle.pj_element.specs.declared.element.Judged.TheVariants.{Fits, OtherKind, Unspelled}
use Rattle.pj_element.specs.declared.element.Read.{Read}
use Rattle.pj_element.specs.declared.element.Read.TheVariants.{Skip, Bad}
use Rattle.pj_element.specs.declared.element.Reject.{Reject}
use Rattle.pj_element.specs.declared.element.Reject.TheVariants.{NotElement, Arity}
use Rattle.pj_element.specs.Spelled.{value_of}
use Rattle.pj_element.specs.Forms.{form_of}
use Rattle.pj_element.specs.Elements.{judged_value, value_in, judged_form, pattern_in, onto_items, with_item, items_from, width, items_in, read_row, read_punct, tagged, judged, reading_of}
use Rattle.pj_element.specs.Fitting.{FitsRead, HasArity}
use Rattle.pj_shape.proofs.DomainsOf.{domains_length}

-- the items that were read are of each column what its cell says
abbrev pub AreOf : {A : Type 0} → (Column → A → Type 0) → List Column → Result (List A) Reject → Type 0
AreOf P columns (Err why) = ⊤
AreOf P [] (Ok []) = ⊤
AreOf P [] (Ok (x ∷ xs)) = ⊥
AreOf P (c ∷ cs) (Ok []) = ⊥
AreOf P (c ∷ cs) (Ok (x ∷ xs)) = P c x × AreOf P cs (Ok xs)

of-onto : {A : Type 0} (P : Column → A → Type 0) (c : Column) (cs : List Column) (x : A) (r : Result (List A) Reject) → P c x → AreOf P cs r → AreOf P (c ∷ cs) (onto_items x r)
of-onto P c cs x (Ok xs) p all = (p, all)
of-onto P c cs x (Err why) p all = tt

of-with : {A : Type 0} (P : Column → A → Type 0) (n : ℕ) (c : Column) (cs : List Column) (j : Judged A) (r : Result (List A) Reject) → ((x : A) → j ≡ Fits x → P c x) → AreOf P cs r → AreOf P (c ∷ cs) (with_item n j r)
of-with P n c cs (Fits x) r p all = of-onto P c cs x r (p x refl) all
of-with P n c cs OtherKind r p all = tt
of-with P n c cs Unspelled r p all = tt

of-items : {A : Type 0} (P : Column → A → Type 0) (f : Column → List ℕ → Judged A) → ((c : Column) (cell : List ℕ) (x : A) → f c cell ≡ Fits x → P c x)
    → (n : ℕ) (columns : List Column) (cells : List (List ℕ)) → length cells ≡ length columns → AreOf P columns (items_from f n columns cells)
of-items P f p n [] cells same = tt
of-items P f p n (c ∷ cs) [] same = absurd (omega (arith, same))
of-items P f p n (c ∷ cs) (cell ∷ cells) same = of-with P n c cs (f c cell) (items_from f (n + 1) cs cells) (p c cell) (of-items P f p (n + 1) cs cells (omega (arith, same)))

value-fits : (c : Column) (cell : List ℕ) (v : Value) → value_in c cell ≡ Fits v → is_kind c.kind v ≡ true
value-fits c cell v e = go (value_of cell) e
  where
    of : (w : Value) (b : Bool) → is_kind c.kind w ≡ b → cond b (Fits w) OtherKind ≡ Fits v → is_kind c.kind v ≡ true
    of w true t is = let same : w ≡ v = cc in rw (sym same) t
    of w false t is = cc

    go : (o : Option Value) → judged_value c o ≡ Fits v → is_kind c.kind v ≡ true
    go None is = cc
    go (Some w) is = of w (is_kind c.kind w) refl is

pattern-fits : (c : Column) (cell : List ℕ) (p : Pattern) → pattern_in c cell ≡ Fits p → is_of_kind c.kind p ≡ true
pattern-fits c cell p e = go (form_of cell) e
  where
    of : (w : Form) (b : Bool) → is_of_kind c.kind w ≡ b → cond b (Fits (normal_of w)) OtherKind ≡ Fits p → is_of_kind c.kind p ≡ true
    of w true t is = let same : normal_of w ≡ p = cc in rw (sym same) (kind_kept c.kind w t)
    of w false t is = cc

    go : (o : Option Form) → judged_form c o ≡ Fits p → is_of_kind c.kind p ≡ true
    go None is = cc
    go (Some w) is = of w (is_of_kind c.kind w) refl is

row-of : (columns : List Column) (row : List Value) → AreOf (λ c v. is_kind c.kind v ≡ true) columns (Ok row) → row_fits (domains_of columns) row ≡ true
row-of [] [] all = refl
row-of [] (v ∷ vs) all = absurd all
row-of (c ∷ cs) [] all = absurd all
row-of (c ∷ cs) (v ∷ vs) all = and_from (is_kind c.kind v) (row_fits (domains_of cs) vs) all.0 (row-of cs vs all.1)

punct-of : (columns : List Column) (punct : List Pattern) → AreOf (λ c p. is_of_kind c.kind p ≡ true) columns (Ok punct) → punct_fits (domains_of columns) punct ≡ true
punct-of [] [] all = refl
punct-of [] (p ∷ ps) all = absurd all
punct-of (c ∷ cs) [] all = absurd all
punct-of (c ∷ cs) (p ∷ ps) all = and_from (is_of_kind c.kind p) (punct_fits (domains_of cs) ps) all.0 (punct-of cs ps all.1)

-- what is read fits the columns, and a punctuation has as many patterns as their width says
abbrev pub FitsBoth : List Column → Read → Type 0
FitsBoth columns read = FitsRead columns read × HasArity (width columns) read

row-read : (columns : List Column) (r : Result (List Value) Reject) → AreOf (λ c v. is_kind c.kind v ≡ true) columns r → FitsBoth columns (read_row r)
row-read columns (Ok row) all = (row-of columns row all, tt)
row-read columns (Err why) all = (tt, tt)

punct-read : (columns : List Column) (r : Result (List Pattern) Reject) → length columns < 2 ^ 32 → AreOf (λ c p. is_of_kind c.kind p ≡ true) columns r → FitsBoth columns (read_punct r)
punct-read columns (Ok punct) few all =
    let fit : punct_fits (domains_of columns) punct ≡ true = punct-of columns punct all in
    (fit, omega (arith, few, punct_length (domains_of columns) punct fit, domains_length columns))
punct-read columns (Err why) few all = (tt, tt)

row-items : (columns : List Column) (cells : List (List ℕ)) → FitsBoth columns (read_row (items_in value_in columns cells))
row-items columns cells = go (length cells == length columns) refl
  where
    go : (b : Bool) → (length cells == length columns) ≡ b → FitsBoth columns (read_row (cond b (items_from value_in 1 columns cells) (Err (Arity (width columns) (length cells)))))
    go true t = row-read columns (items_from value_in 1 columns cells) (of-items _ value_in value-fits 1 columns cells (eqb-true (length cells) (length columns) t))
    go false t = (tt, tt)

punct-items : (columns : List Column) (cells : List (List ℕ)) → length cells < 2 ^ 32 → FitsBoth columns (read_punct (items_in pattern_in columns cells))
punct-items columns cells few = go (length cells == length columns) refl
  where
    go : (b : Bool) → (length cells == length columns) ≡ b → FitsBoth columns (read_punct (cond b (items_from pattern_in 1 columns cells) (Err (Arity (width columns) (length cells)))))
    go true t =
        let same : length cells ≡ length columns = eqb-true (length cells) (length columns) t in
        punct-read columns (items_from pattern_in 1 columns cells) (omega (arith, few, same)) (of-items _ pattern_in pattern-fits 1 columns cells same)
    go false t = (tt, tt)

tagged-fits : (columns : List Column) (cells : List (List ℕ)) → length cells ≤ 128 → FitsBoth columns (tagged columns cells)
tagged-fits columns [] few = (tt, tt)
tagged-fits columns (tag ∷ cells) few = go (bytes_eq tag (116 ∷ [])) (bytes_eq tag (112 ∷ []))
  where
    go : (b d : Bool) → FitsBoth columns (cond b (read_row (items_in value_in columns cells)) (cond d (read_punct (items_in pattern_in columns cells)) (Bad NotElement)))
    go true d = row-items columns cells
    go false true = punct-items columns cells (omega (arith, few))
    go false false = (tt, tt)

judged-fits : (columns : List Column) (o : Option (List (List ℕ))) → FitsBoth columns (judged columns o)
judged-fits columns None = (tt, tt)
judged-fits columns (Some cells) = go (nat_lt 128 (length cells)) refl
  where
    go : (b : Bool) → nat_lt 128 (length cells) ≡ b → FitsBoth columns (cond b (Bad NotElement) (tagged columns cells))
    go true t = (tt, tt)
    go false t = tagged-fits columns cells (ltb-false 128 (length cells) t)

reading-fits : (columns : List Column) (line : List ℕ) → FitsBoth columns (reading_of columns line)
reading-fits columns line = go (is_skipped line)
  where
    go : (b : Bool) → FitsBoth columns (cond b Skip (judged columns (cells_of line)))
    go true = (tt, tt)
    go false = judged-fits columns (cells_of line)

pub line_fits : (columns : List Column) (line : List ℕ) (read : Read) → read ≡ reading_of columns line → FitsRead columns read
line_fits columns line read is = rw is (reading-fits columns line).0

pub line_has_arity : (columns : List Column) (line : List ℕ) (read : Read) → read ≡ reading_of columns line → HasArity (width columns) read
line_has_arity columns line read is = rw is (reading-fits columns line).1
