-- The elements that lines stand for, and the rejects, are those of the grammar.
use Rattle.std.proofs.Common.{◌≡◌, ◌≢◌, ℕ, ◌+◌, ◌<◌, ◌≤◌, Bool, true, false, eqb, ltb, ◌⊎◌, inl, inr, List, [], ◌∷◌, Option, Some, None, Result, Ok, Err, length, refl, ap, sym, ◌∙◌, subst, arith}
use Rattle.std.specs.Prelude.{◌↔◌, codes}
use Rattle.std.specs.Str.{bytes_eq}
use Rattle.std.proofs.lemmas.Bool.Decides.{nat_tests}
use Rattle.pj_value.specs.Values.{is_kind}
use Rattle.pj_value.specs.declared.values.Kind.{Kind}
use Rattle.pj_value.specs.declared.values.Kind.TheVariants.{Int as IntKind, Text as TextKind}
use Rattle.pj_value.specs.declared.values.Value.{Value}
use Rattle.pj_value.specs.declared.values.Value.TheVariants.{Int, Text}
use Rattle.pj_value.proofs.Bytes.{bytes_same}
use Rattle.pj_shape.specs.declared.columns.Column.{Column}
use Rattle.pj_pattern.specs.declared.pattern.Form.{Form}
use Rattle.pj_pattern.specs.Patterns.{Pattern, is_of_kind}
use Rattle.pj_pattern.specs.Normal.{normal_of}
use Rattle.pj_line.specs.Lines.{is_skipped}
use Rattle.pj_line.specs.Cells.{cells_of}
use Rattle.pj_element.specs.declared.element.Reject.{Reject}
use Rattle.pj_element.specs.declared.element.Reject.TheVariants.{TooLong, NotElement, Arity, BadCell, WrongKind, Closed}
use Rattle.pj_element.specs.declared.element.Read.{Read}
use Rattle.pj_element.specs.declared.element.Read.TheVariants.{Skip, Tuple, Punct, Bad}
use Rattle.pj_element.specs.declared.element.Judged.{Judged}
use Rattle.pj_element.specs.declared.element.Judged.TheVariants.{Fits, OtherKind, Unspelled}
use Rattle.pj_element.specs.Spelled.{value_of}
use Rattle.pj_element.specs.Forms.{form_of}
use Rattle.pj_element.specs.Elements.{judged_value, value_in, judged_form, pattern_in, onto_items, with_item, items_from, items_in, width, read_row, read_punct, tagged, judged, reading_of}
use Rattle.pj_element.specs.Reading.{AreCells, IsUnclosed, SpellsValue, SpellsForm, HasKind, int_kind, text_kind, HasFormKind, SpellsIn, SpellsPattern, EachSpells, no_column, next_column, IsFirstFault, spells_nothing, spells_other, behind_column, IsTagged, IsTupleLine, IsPunctLine, IsUntagged, IsNoElement, HasOtherWidth, HasFault, ReadsAs}
use Rattle.pj_element.proofs.ReadCells.{cells_are, cells_exact, unclosed_is, unclosed_exact}
use Rattle.pj_element.proofs.ReadValues.{value_sound, value_complete}
use Rattle.pj_element.proofs.ReadForms.{form_sound, form_complete}
use Rattle.pj_element.proofs.Lines.{tag_other, few_cells, many_cells, unskipped}

-- ---- what a cell says of a column

-- what is judged of a cell: an item that fits, a raw one of another kind, or none
data Judges {A B : Type 0} (SpellsItem : Column → List ℕ → A → Type 0) (Spells : List ℕ → B → Type 0) (IsOf : B → Kind → Type 0) (column : Column) (cell : List ℕ) : Judged A → Type 0 where
  it_fits : (item : A) (raw : B) → SpellsItem column cell item → Spells cell raw → IsOf raw column.kind → Judges SpellsItem Spells IsOf column cell (Fits item)
  is_other : (raw : B) → Spells cell raw → (IsOf raw column.kind → ⊥) → Judges SpellsItem Spells IsOf column cell OtherKind
  is_unspelled : ((raw : B) → Spells cell raw → ⊥) → Judges SpellsItem Spells IsOf column cell Unspelled

-- the judgement and the grammar agree
record Agrees {A B : Type 0} (f : Column → List ℕ → Judged A) (SpellsItem : Column → List ℕ → A → Type 0) (Spells : List ℕ → B → Type 0) (IsOf : B → Kind → Type 0) : Type 0 where
  item_fits : (column : Column) (cell : List ℕ) (item : A) → SpellsItem column cell item → f column cell ≡ Fits item
  raw_fits : (column : Column) (cell : List ℕ) (raw : B) → Spells cell raw → IsOf raw column.kind → (item : A) × (f column cell ≡ Fits item)
  other_kind : (column : Column) (cell : List ℕ) (raw : B) → Spells cell raw → (IsOf raw column.kind → ⊥) → f column cell ≡ OtherKind
  nothing_spelled : (column : Column) (cell : List ℕ) → ((raw : B) → Spells cell raw → ⊥) → f column cell ≡ Unspelled
  judges : (column : Column) (cell : List ℕ) → Judges SpellsItem Spells IsOf column cell (f column cell)

kind_test : (value : Value) (kind : Kind) → HasKind value kind → is_kind kind value ≡ true
kind_test _ _ (int_kind n) = refl
kind_test _ _ (text_kind text) = refl

test_kind : (value : Value) (kind : Kind) → is_kind kind value ≡ true → HasKind value kind
test_kind (Int n) IntKind e = int_kind n
test_kind (Int n) TextKind e = absurd (cc)
test_kind (Text text) IntKind e = absurd (cc)
test_kind (Text text) TextKind e = text_kind text

value_fits : (column : Column) (cell : List ℕ) (value : Value) → SpellsValue cell value → HasKind value column.kind → value_in column cell ≡ Fits value
value_fits column cell value s k = rw (value_sound cell value s, kind_test value column.kind k) refl

value_other : (column : Column) (cell : List ℕ) (value : Value) → SpellsValue cell value → (HasKind value column.kind → ⊥) → value_in column cell ≡ OtherKind
value_other column cell value s other = go (is_kind column.kind value) refl
  where
    go : (t : Bool) → is_kind column.kind value ≡ t → value_in column cell ≡ OtherKind
    go true h = absurd (other (test_kind value column.kind h))
    go false h = rw (value_sound cell value s, h) refl

value_nothing : (column : Column) (cell : List ℕ) → ((value : Value) → SpellsValue cell value → ⊥) → value_in column cell ≡ Unspelled
value_nothing column cell none = go (value_of cell) refl
  where
    go : (o : Option Value) → value_of cell ≡ o → judged_value column o ≡ Unspelled
    go None is = refl
    go (Some v) is = absurd (none v (value_complete cell v is))

value_judges : (column : Column) (cell : List ℕ) → Judges SpellsIn SpellsValue HasKind column cell (value_in column cell)
value_judges column cell = by_value (value_of cell) refl
  where
    by_kind : (v : Value) → SpellsValue cell v → (t : Bool) → is_kind column.kind v ≡ t → Judges SpellsIn SpellsValue HasKind column cell (judged_value column (Some v))
    by_kind v s true h = let k = test_kind v column.kind h in rw h (it_fits v v (s, k) s k)
    by_kind v s false h = rw h (is_other v s (λ k. let t = kind_test v column.kind k in absurd (cc)))

    by_value : (o : Option Value) → value_of cell ≡ o → Judges SpellsIn SpellsValue HasKind column cell (judged_value column o)
    by_value None is = is_unspelled (λ v s. let some = value_sound cell v s in absurd (cc))
    by_value (Some v) is = by_kind v (value_complete cell v is) (is_kind column.kind v) refl

values_agree : Agrees value_in SpellsIn SpellsValue HasKind
values_agree = record {
  item_fits = λ column cell value s. value_fits column cell value s.0 s.1;
  raw_fits = λ column cell value s k. (value, value_fits column cell value s k);
  other_kind = value_other;
  nothing_spelled = value_nothing;
  judges = value_judges;
}

form_fits : (column : Column) (cell : List ℕ) (form : Form) → SpellsForm cell form → HasFormKind form column.kind → pattern_in column cell ≡ Fits (normal_of form)
form_fits column cell form s k = rw (form_sound cell form s, k) refl

form_other : (column : Column) (cell : List ℕ) (form : Form) → SpellsForm cell form → (HasFormKind form column.kind → ⊥) → pattern_in column cell ≡ OtherKind
form_other column cell form s other = go (is_of_kind column.kind form) refl
  where
    go : (t : Bool) → is_of_kind column.kind form ≡ t → pattern_in column cell ≡ OtherKind
    go true h = absurd (other h)
    go false h = rw (form_sound cell form s, h) refl

form_nothing : (column : Column) (cell : List ℕ) → ((form : Form) → SpellsForm cell form → ⊥) → pattern_in column cell ≡ Unspelled
form_nothing column cell none = go (form_of cell) refl
  where
    go : (o : Option Form) → form_of cell ≡ o → judged_form column o ≡ Unspelled
    go None is = refl
    go (Some form) is = absurd (none form (form_complete cell form is))

form_judges : (column : Column) (cell : List ℕ) → Judges SpellsPattern SpellsForm HasFormKind column cell (pattern_in column cell)
form_judges column cell = by_form (form_of cell) refl
  where
    by_kind : (form : Form) → SpellsForm cell form → (t : Bool) → is_of_kind column.kind form ≡ t → Judges SpellsPattern SpellsForm HasFormKind column cell (judged_form column (Some form))
    by_kind form s true h = rw h (it_fits (normal_of form) form (form, s, h, refl) s h)
    by_kind form s false h = rw h (is_other form s (λ k. absurd (cc)))

    by_form : (o : Option Form) → form_of cell ≡ o → Judges SpellsPattern SpellsForm HasFormKind column cell (judged_form column o)
    by_form None is = is_unspelled (λ form s. let some = form_sound cell form s in absurd (cc))
    by_form (Some form) is = by_kind form (form_complete cell form is) (is_of_kind column.kind form) refl

forms_agree : Agrees pattern_in SpellsPattern SpellsForm HasFormKind
forms_agree = record {
  item_fits = λ column cell pattern s. form_fits column cell s.0 s.1 s.2 ∙ ap Fits (sym s.3);
  raw_fits = λ column cell form s k. (normal_of form, form_fits column cell form s k);
  other_kind = form_other;
  nothing_spelled = form_nothing;
  judges = form_judges;
}

-- ---- what the cells of a line say

module _ {A B : Type 0} (f : Column → List ℕ → Judged A) (SpellsItem : Column → List ℕ → A → Type 0) (Spells : List ℕ → B → Type 0) (IsOf : B → Kind → Type 0) (agrees : Agrees f SpellsItem Spells IsOf) where
  each_sound : (n : ℕ) (columns : List Column) (cells : List (List ℕ)) (items : List A) → EachSpells SpellsItem columns cells items → items_from f n columns cells ≡ Ok items
  each_sound n _ _ _ no_column = refl
  each_sound n _ _ _ (next_column {column} {columns} {cell} {cells} {item} {items} s each) = rw (agrees.item_fits column cell item s, each_sound (n + 1) columns cells items each) refl

  each_as_many : (columns : List Column) (cells : List (List ℕ)) (items : List A) → EachSpells SpellsItem columns cells items → length cells ≡ length columns
  each_as_many _ _ _ no_column = refl
  each_as_many _ _ _ (next_column {column} {columns} {cell} {cells} {item} {items} s each) = omega (arith, each_as_many columns cells items each)

  fault_sound : (n : ℕ) (columns : List Column) (cells : List (List ℕ)) (why : Reject) → IsFirstFault Spells IsOf n columns cells why → items_from f n columns cells ≡ Err why
  fault_sound _ _ _ _ (spells_nothing n column columns cell cells none) = rw (agrees.nothing_spelled column cell none) refl
  fault_sound _ _ _ _ (spells_other n column columns cell cells raw s other) = rw (agrees.other_kind column cell raw s other) refl
  fault_sound _ _ _ _ (behind_column n column columns cell cells raw why s k rest) =
      let fits = agrees.raw_fits column cell raw s k in
      rw (fits.1, fault_sound (n + 1) columns cells why rest) refl

  -- all fit, or there is a first fault
  data Outcome (n : ℕ) (columns : List Column) (cells : List (List ℕ)) : Result (List A) Reject → Type 0 where
    all_fit : (items : List A) → EachSpells SpellsItem columns cells items → Outcome n columns cells (Ok items)
    has_fault : (why : Reject) → IsFirstFault Spells IsOf n columns cells why → Outcome n columns cells (Err why)

  more_outcome : (n : ℕ) (column : Column) (columns : List Column) (cell : List ℕ) (cells : List (List ℕ)) (item : A) (raw : B) → SpellsItem column cell item → Spells cell raw → IsOf raw column.kind → (r : Result (List A) Reject) → Outcome (n + 1) columns cells r → Outcome n (column ∷ columns) (cell ∷ cells) (onto_items item r)
  more_outcome n column columns cell cells item raw s t k _ (all_fit items each) = all_fit (item ∷ items) (next_column s each)
  more_outcome n column columns cell cells item raw s t k _ (has_fault why fault) = has_fault why (behind_column n column columns cell cells raw why t k fault)

  next_outcome : (n : ℕ) (column : Column) (columns : List Column) (cell : List ℕ) (cells : List (List ℕ)) (j : Judged A) → Judges SpellsItem Spells IsOf column cell j → (r : Result (List A) Reject) → Outcome (n + 1) columns cells r → Outcome n (column ∷ columns) (cell ∷ cells) (with_item n j r)
  next_outcome n column columns cell cells _ (it_fits item raw s t k) r rest = more_outcome n column columns cell cells item raw s t k r rest
  next_outcome n column columns cell cells _ (is_other raw s other) r rest = has_fault (WrongKind n) (spells_other n column columns cell cells raw s other)
  next_outcome n column columns cell cells _ (is_unspelled none) r rest = has_fault (BadCell n) (spells_nothing n column columns cell cells none)

  outcome : (n : ℕ) (columns : List Column) (cells : List (List ℕ)) → length cells ≡ length columns → Outcome n columns cells (items_from f n columns cells)
  outcome n [] [] same = all_fit [] no_column
  outcome n [] (cell ∷ cells) same = absurd (omega (arith, same))
  outcome n (column ∷ columns) [] same = absurd (omega (arith, same))
  outcome n (column ∷ columns) (cell ∷ cells) same =
      next_outcome n column columns cell cells (f column cell) (agrees.judges column cell) (items_from f (n + 1) columns cells) (outcome (n + 1) columns cells (omega (arith, same)))

  as_many : (columns : List Column) (cells : List (List ℕ)) → length cells ≡ length columns → items_in f columns cells ≡ items_from f 1 columns cells
  as_many columns cells same =
      let test : eqb (length cells) (length columns) ≡ true = grind (arith, nat_tests, same) in
      rw test refl

  not_as_many : (columns : List Column) (cells : List (List ℕ)) → length cells ≢ length columns → items_in f columns cells ≡ Err (Arity (width columns) (length cells))
  not_as_many columns cells differ = go (eqb (length cells) (length columns)) refl
    where
      go : (t : Bool) → eqb (length cells) (length columns) ≡ t → items_in f columns cells ≡ Err (Arity (width columns) (length cells))
      go true h = absurd (differ (grind (arith, nat_tests)))
      go false h = rw h refl

-- a first fault is a cell that spells nothing or something of another kind
fault_reads : {B : Type 0} (Spells : List ℕ → B → Type 0) (IsOf : B → Kind → Type 0) (all_columns : List Column) (line : List ℕ) (n : ℕ) (columns : List Column) (cells : List (List ℕ)) (why : Reject) → IsFirstFault Spells IsOf n columns cells why → HasFault all_columns line why → ReadsAs all_columns line (Bad why)
fault_reads Spells IsOf all_columns line _ _ _ _ (spells_nothing n column columns cell cells none) has = has
fault_reads Spells IsOf all_columns line _ _ _ _ (spells_other n column columns cell cells raw s other) has = has
fault_reads Spells IsOf all_columns line _ _ _ _ (behind_column n column columns cell cells raw why s k rest) has = fault_reads Spells IsOf all_columns line (n + 1) columns cells why rest has

-- ---- what the grammar says is what is computed

tagged_reading : (tag : List ℕ) (columns : List Column) (line : List ℕ) (cells : List (List ℕ)) → IsTagged tag line cells → reading_of columns line ≡ tagged columns (tag ∷ cells)
tagged_reading tag columns line cells t =
    unskipped columns line t.0
    ∙ (ap (judged columns) (cells_are line (tag ∷ cells) t.1) ∙ few_cells columns (tag ∷ cells) (let few : length cells < 128 = t.2 in omega arith))

tuple_reading : (columns : List Column) (line : List ℕ) (row : List Value) → IsTupleLine columns line row → reading_of columns line ≡ Tuple row
tuple_reading columns line row t =
    tagged_reading (codes "t") columns line t.0 t.1
    ∙ ap read_row
    (as_many value_in SpellsIn SpellsValue HasKind values_agree columns t.0 (each_as_many value_in SpellsIn SpellsValue HasKind values_agree columns t.0 row t.2)
    ∙ each_sound value_in SpellsIn SpellsValue HasKind values_agree 1 columns t.0 row t.2)

punct_reading : (columns : List Column) (line : List ℕ) (punct : List Pattern) → IsPunctLine columns line punct → reading_of columns line ≡ Punct punct
punct_reading columns line punct t =
    tagged_reading (codes "p") columns line t.0 t.1
    ∙ ap read_punct
    (as_many pattern_in SpellsPattern SpellsForm HasFormKind forms_agree columns t.0 (each_as_many pattern_in SpellsPattern SpellsForm HasFormKind forms_agree columns t.0 punct t.2)
    ∙ each_sound pattern_in SpellsPattern SpellsForm HasFormKind forms_agree 1 columns t.0 punct t.2)

tuple_fault : (columns : List Column) (line : List ℕ) (cells : List (List ℕ)) (why : Reject) → length cells ≡ length columns → IsTagged (codes "t") line cells → IsFirstFault SpellsValue HasKind 1 columns cells why → reading_of columns line ≡ Bad why
tuple_fault columns line cells why same t fault =
    tagged_reading (codes "t") columns line cells t
    ∙ ap read_row
    (as_many value_in SpellsIn SpellsValue HasKind values_agree columns cells same
    ∙ fault_sound value_in SpellsIn SpellsValue HasKind values_agree 1 columns cells why fault)

punct_fault : (columns : List Column) (line : List ℕ) (cells : List (List ℕ)) (why : Reject) → length cells ≡ length columns → IsTagged (codes "p") line cells → IsFirstFault SpellsForm HasFormKind 1 columns cells why → reading_of columns line ≡ Bad why
punct_fault columns line cells why same t fault =
    tagged_reading (codes "p") columns line cells t
    ∙ ap read_punct
    (as_many pattern_in SpellsPattern SpellsForm HasFormKind forms_agree columns cells same
    ∙ fault_sound pattern_in SpellsPattern SpellsForm HasFormKind forms_agree 1 columns cells why fault)

fault_reading : (columns : List Column) (line : List ℕ) (why : Reject) → HasFault columns line why → reading_of columns line ≡ Bad why
fault_reading columns line why h = go h.2
  where
    go : (IsTagged (codes "t") line h.0 × IsFirstFault SpellsValue HasKind 1 columns h.0 why) ⊎ (IsTagged (codes "p") line h.0 × IsFirstFault SpellsForm HasFormKind 1 columns h.0 why) → reading_of columns line ≡ Bad why
    go (inl t) = tuple_fault columns line h.0 why h.1 t.0 t.1
    go (inr t) = punct_fault columns line h.0 why h.1 t.0 t.1

tuple_width : (columns : List Column) (line : List ℕ) (cells : List (List ℕ)) → IsTagged (codes "t") line cells → length cells ≢ length columns → reading_of columns line ≡ Bad (Arity (width columns) (length cells))
tuple_width columns line cells t differ = tagged_reading (codes "t") columns line cells t ∙ ap read_row (not_as_many value_in SpellsIn SpellsValue HasKind values_agree columns cells differ)

punct_width : (columns : List Column) (line : List ℕ) (cells : List (List ℕ)) → IsTagged (codes "p") line cells → length cells ≢ length columns → reading_of columns line ≡ Bad (Arity (width columns) (length cells))
punct_width columns line cells t differ = tagged_reading (codes "p") columns line cells t ∙ ap read_punct (not_as_many pattern_in SpellsPattern SpellsForm HasFormKind forms_agree columns cells differ)

width_reading : (columns : List Column) (line : List ℕ) (want got : ℕ) → HasOtherWidth columns line want got → reading_of columns line ≡ Bad (Arity want got)
width_reading columns line want got h = go h.2 ∙ rw (h.5, h.6) refl
  where
    go : (h.0 ≡ codes "t") ⊎ (h.0 ≡ codes "p") → reading_of columns line ≡ Bad (Arity (width columns) (length h.1))
    go (inl e) = tuple_width columns line h.1 (subst (λ (tag : List ℕ). IsTagged tag line h.1) e h.3) h.4
    go (inr e) = punct_width columns line h.1 (subst (λ (tag : List ℕ). IsTagged tag line h.1) e h.3) h.4

unlike : (xs ys : List ℕ) → xs ≢ ys → bytes_eq xs ys ≡ false
unlike xs ys differ = go (bytes_eq xs ys) refl
  where
    go : (t : Bool) → bytes_eq xs ys ≡ t → bytes_eq xs ys ≡ false
    go true h = absurd (differ (bytes_same xs ys h))
    go false h = h

untagged_is : (columns : List Column) (cells : List (List ℕ)) → IsUntagged cells → judged columns (Some cells) ≡ Bad NotElement
untagged_is columns [] u = refl
untagged_is columns (tag ∷ cells) u = go (ltb 128 (length (tag ∷ cells))) refl
  where
    go : (t : Bool) → ltb 128 (length (tag ∷ cells)) ≡ t → judged columns (Some (tag ∷ cells)) ≡ Bad NotElement
    go true h = rw h refl
    go false h = rw h (tag_other columns tag cells (unlike tag (codes "t") u.0) (unlike tag (codes "p") u.1))

no_element_reading : (columns : List Column) (line : List ℕ) → IsNoElement line → reading_of columns line ≡ Bad NotElement
no_element_reading columns line n = unskipped columns line n.0 ∙ go n.1
  where
    by_cells : (cells : List (List ℕ)) → AreCells line cells → (128 < length cells) ⊎ IsUntagged cells → judged columns (cells_of line) ≡ Bad NotElement
    by_cells cells c (inl many) = ap (judged columns) (cells_are line cells c) ∙ many_cells columns cells many
    by_cells cells c (inr u) = ap (judged columns) (cells_are line cells c) ∙ untagged_is columns cells u

    go : IsUnclosed line ⊎ ((cells : List (List ℕ)) × AreCells line cells × ((128 < length cells) ⊎ IsUntagged cells)) → judged columns (cells_of line) ≡ Bad NotElement
    go (inl open_line) = ap (judged columns) (unclosed_is line open_line)
    go (inr c) = by_cells c.0 c.1 c.2

only_reading : (columns : List Column) (line : List ℕ) (read : Read) → ReadsAs columns line read → read ≡ reading_of columns line
only_reading columns line Skip r = sym (rw r refl)
only_reading columns line (Tuple row) r = sym (tuple_reading columns line row r)
only_reading columns line (Punct punct) r = sym (punct_reading columns line punct r)
only_reading columns line (Bad TooLong) r = absurd r
only_reading columns line (Bad NotElement) r = sym (no_element_reading columns line r)
only_reading columns line (Bad (Arity want got)) r = sym (width_reading columns line want got r)
only_reading columns line (Bad (BadCell n)) r = sym (fault_reading columns line (BadCell n) r)
only_reading columns line (Bad (WrongKind n)) r = sym (fault_reading columns line (WrongKind n) r)
only_reading columns line (Bad (Closed n)) r = absurd r

-- ---- what is computed is what the grammar says

tuple_outcome : (columns : List Column) (line : List ℕ) (cells : List (List ℕ)) → IsTagged (codes "t") line cells → length cells ≡ length columns → (r : Result (List Value) Reject) → Outcome value_in SpellsIn SpellsValue HasKind values_agree 1 columns cells r → ReadsAs columns line (read_row r)
tuple_outcome columns line cells t same _ (all_fit row each) = (cells, t, each)
tuple_outcome columns line cells t same _ (has_fault why fault) = fault_reads SpellsValue HasKind columns line 1 columns cells why fault (cells, same, inl (t, fault))

punct_outcome : (columns : List Column) (line : List ℕ) (cells : List (List ℕ)) → IsTagged (codes "p") line cells → length cells ≡ length columns → (r : Result (List Pattern) Reject) → Outcome pattern_in SpellsPattern SpellsForm HasFormKind forms_agree 1 columns cells r → ReadsAs columns line (read_punct r)
punct_outcome columns line cells t same _ (all_fit punct each) = (cells, t, each)
punct_outcome columns line cells t same _ (has_fault why fault) = fault_reads SpellsForm HasFormKind columns line 1 columns cells why fault (cells, same, inr (t, fault))

tuple_line : (columns : List Column) (line : List ℕ) (cells : List (List ℕ)) → IsTagged (codes "t") line cells → ReadsAs columns line (read_row (items_in value_in columns cells))
tuple_line columns line cells t = go (eqb (length cells) (length columns)) refl
  where
    go : (b : Bool) → eqb (length cells) (length columns) ≡ b → ReadsAs columns line (read_row (items_in value_in columns cells))
    go true h =
        let same : length cells ≡ length columns = grind (arith, nat_tests) in
        rw h (tuple_outcome columns line cells t same (items_from value_in 1 columns cells) (outcome value_in SpellsIn SpellsValue HasKind values_agree 1 columns cells same))
    go false h = rw h (codes "t", cells, inl refl, t, λ same. grind (arith, nat_tests), refl, refl)

punct_line_reads : (columns : List Column) (line : List ℕ) (cells : List (List ℕ)) → IsTagged (codes "p") line cells → ReadsAs columns line (read_punct (items_in pattern_in columns cells))
punct_line_reads columns line cells t = go (eqb (length cells) (length columns)) refl
  where
    go : (b : Bool) → eqb (length cells) (length columns) ≡ b → ReadsAs columns line (read_punct (items_in pattern_in columns cells))
    go true h =
        let same : length cells ≡ length columns = grind (arith, nat_tests) in
        rw h (punct_outcome columns line cells t same (items_from pattern_in 1 columns cells) (outcome pattern_in SpellsPattern SpellsForm HasFormKind forms_agree 1 columns cells same))
    go false h = rw h (codes "p", cells, inr refl, t, λ same. grind (arith, nat_tests), refl, refl)

by_tag : (columns : List Column) (line tag : List ℕ) (cells : List (List ℕ)) → is_skipped line ≡ false → AreCells line (tag ∷ cells) → length cells < 128 → ReadsAs columns line (tagged columns (tag ∷ cells))
by_tag columns line tag cells e c few = go (bytes_eq tag (codes "t")) refl (bytes_eq tag (codes "p")) refl
  where
    go : (t : Bool) → bytes_eq tag (codes "t") ≡ t → (p : Bool) → bytes_eq tag (codes "p") ≡ p → ReadsAs columns line (tagged columns (tag ∷ cells))
    go true h p hp =
        let same = bytes_same tag (codes "t") h in
        subst (λ (x : List ℕ). ReadsAs columns line (tagged columns (x ∷ cells))) (sym same) (tuple_line columns line cells (e, subst (λ (x : List ℕ). AreCells line (x ∷ cells)) same c, few))
    go false h true hp =
        let same = bytes_same tag (codes "p") hp in
        subst (λ (x : List ℕ). ReadsAs columns line (tagged columns (x ∷ cells))) (sym same) (punct_line_reads columns line cells (e, subst (λ (x : List ℕ). AreCells line (x ∷ cells)) same c, few))
    go false h false hp =
        let no_t : tag ≢ codes "t" = λ is. absurd (cc) in
        let no_p : tag ≢ codes "p" = λ is. absurd (cc) in
        subst (ReadsAs columns line) (sym (tag_other columns tag cells h hp)) (e, inr (tag ∷ cells, c, inr (no_t, no_p)))

by_cells : (columns : List Column) (line : List ℕ) (cells : List (List ℕ)) → is_skipped line ≡ false → AreCells line cells → ReadsAs columns line (judged columns (Some cells))
by_cells columns line [] e c = (e, inr ([], c, inr tt))
by_cells columns line (tag ∷ cells) e c = go (ltb 128 (length (tag ∷ cells))) refl
  where
    go : (t : Bool) → ltb 128 (length (tag ∷ cells)) ≡ t → ReadsAs columns line (judged columns (Some (tag ∷ cells)))
    go true h =
        let many : 128 < length (tag ∷ cells) = grind (arith, nat_tests) in
        rw h (e, inr (tag ∷ cells, c, inl many))
    go false h =
        let few : length (tag ∷ cells) ≤ 128 = grind (arith, nat_tests) in
        rw h (by_tag columns line tag cells e c (omega arith))

reads : (columns : List Column) (line : List ℕ) → ReadsAs columns line (reading_of columns line)
reads columns line = go (is_skipped line) refl (cells_of line) refl
  where
    go : (t : Bool) → is_skipped line ≡ t → (o : Option (List (List ℕ))) → cells_of line ≡ o → ReadsAs columns line (reading_of columns line)
    go true e o is = let skip : reading_of columns line ≡ Skip = rw e refl in subst (ReadsAs columns line) (sym skip) e
    go false e None is =
        subst (ReadsAs columns line) (sym (unskipped columns line e ∙ ap (judged columns) is)) (e, inl (unclosed_exact line is))
    go false e (Some cells) is =
        subst (ReadsAs columns line) (sym (unskipped columns line e ∙ ap (judged columns) is)) (by_cells columns line cells e (cells_exact line cells is))

pub reading_exact : (columns : List Column) (line : List ℕ) (read : Read) → ReadsAs columns line read ↔ (read ≡ reading_of columns line)
reading_exact columns line read = (only_reading columns line read, λ is. subst (ReadsAs columns line) (sym is) (reads columns line))
