-- A canonical line is read again as what was printed.
use Rattle.std.proofs.Common.{◌≡◌, ℕ, ◌+◌, ◌≤◌, true, false, eqb, ltb, List, [], ◌∷◌, ◌++◌, map, Option, Some, None, length, refl, ap, sym, ◌∙◌, subst, append-nil, arith}
use Rattle.std.specs.Prelude.{Ok}
use Rattle.std.specs.List.{flat_map}
use Rattle.std.proofs.lemmas.Bool.{and_parts, false≢true}
use Rattle.std.proofs.lemmas.Bool.Decides.{nat_tests}
use Rattle.pj_value.specs.declared.values.Value.{Value}
use Rattle.pj_value.specs.Texts.{value_spelling}
use Rattle.pj_value.specs.Values.{is_kind}
use Rattle.pj_shape.specs.declared.columns.Column.{Column}
use Rattle.pj_shape.specs.Columns.{domains_of}
use Rattle.pj_pattern.specs.declared.pattern.Form.{Form}
use Rattle.pj_pattern.specs.declared.pattern.Form.TheVariants.{Wild, Empty, Constant, Range, Members}
use Rattle.pj_pattern.specs.Patterns.{Pattern, is_of_kind, is_of_one_kind}
use Rattle.pj_pattern.specs.Fitting.{row_fits, punct_fits}
use Rattle.pj_pattern.specs.Normal.{normal_of}
use Rattle.pj_element.specs.declared.element.Judged.{Judged}
use Rattle.pj_element.specs.declared.element.Judged.TheVariants.{Fits}
use Rattle.pj_element.specs.declared.forms.Spelled.TheVariants.{Good}
use Rattle.pj_element.specs.Elements.{value_in, pattern_in, items_from, items_in, read_row, read_punct, tagged, judged, end_spelling, more_members, pattern_spelling, row_line, punct_line}
use Rattle.pj_element.specs.Reading.{IsCell, AreCells, last_cell, first_cell, plain_byte, no_part, SpellsMembers, one_member, more_members as member_behind, SpellsEnd, no_end, value_end, SpellsForm, spells_star, spells_empty, spells_list, spells_range, spells_constant}
use Rattle.pj_value.specs.Storable.{AreStorable, IsStorable}
use Rattle.pj_element.specs.Laws.{IsStorableEnd, IsKeptPattern, AreKeptPatterns, RowIsReadAgain, PunctIsReadAgain, PatternIsReadAgain}
use Rattle.pj_element.proofs.ReadCells.{cells_are}
use Rattle.pj_element.proofs.ReadForms.{form_sound}
use Rattle.pj_element.proofs.FormCells.{value_cell, form_cell}
use Rattle.pj_element.proofs.SpelledAgain.{value_again, value_spelled}

-- ---- patterns

-- what the spelling of a pattern says, which need not be in normal form
abbrev read_as : Pattern → Form
read_as Wild = Wild
read_as Empty = Members []
read_as (Constant c) = Constant c
read_as (Range low high) = Range low high
read_as (Members vs) = Members vs

end_spelled : (end : Option Value) → IsStorableEnd end → SpellsEnd (end_spelling end) end
end_spelled None storable = no_end
end_spelled (Some v) storable = value_end (value_spelled v storable)

members_spelled : (v : Value) (vs : List Value) → IsStorable v → AreStorable vs → SpellsMembers (value_spelling v ++ more_members vs) (v ∷ vs)
members_spelled v [] first others =
    subst (λ (c : List ℕ). SpellsMembers c (v ∷ [])) (sym (append-nil (value_spelling v))) (one_member (value_spelled v first))
members_spelled v (w ∷ ws) first others = member_behind (value_spelled v first) (members_spelled w ws others.0 others.1)

pattern_spelled : (p : Pattern) → IsKeptPattern p → SpellsForm (pattern_spelling p) (read_as p)
pattern_spelled Wild kept = spells_star
pattern_spelled Empty kept = spells_empty
pattern_spelled (Constant c) kept = spells_constant (value_spelled c kept)
pattern_spelled (Range low high) kept = spells_range (end_spelled low kept.0) (end_spelled high kept.1)
pattern_spelled (Members []) kept = spells_empty
pattern_spelled (Members (v ∷ vs)) kept = spells_list (members_spelled v vs kept.0.0 kept.0.1)

pattern_normal : (p : Pattern) → IsKeptPattern p → normal_of (read_as p) ≡ p
pattern_normal Wild kept = refl
pattern_normal Empty kept = refl
pattern_normal (Constant c) kept = refl
pattern_normal (Range low high) kept = kept.2
pattern_normal (Members vs) kept = kept.1

pattern_kind : (column : Column) (p : Pattern) → is_of_kind column.kind p ≡ true → is_of_kind column.kind (read_as p) ≡ true
pattern_kind column Wild fits = fits
pattern_kind column Empty fits = refl
pattern_kind column (Constant c) fits = fits
pattern_kind column (Range low high) fits = fits
pattern_kind column (Members vs) fits = fits

pattern_one_kind : (p : Pattern) → is_of_one_kind p ≡ true → is_of_one_kind (read_as p) ≡ true
pattern_one_kind Wild fits = fits
pattern_one_kind Empty fits = refl
pattern_one_kind (Constant c) fits = fits
pattern_one_kind (Range low high) fits = fits
pattern_one_kind (Members vs) fits = fits

-- ---- cells

pub pattern_again : (p : Pattern) → IsKeptPattern p → PatternIsReadAgain p
pattern_again p kept fits =
    rw (form_sound (pattern_spelling p) (read_as p) (pattern_spelled p kept), pattern_one_kind p fits) (ap Good (pattern_normal p kept))

pub pattern_cell : (p : Pattern) → IsKeptPattern p → IsCell (pattern_spelling p)
pattern_cell p kept = form_cell (pattern_spelling p) (read_as p) (pattern_spelled p kept)

value_fits : (column : Column) (v : Value) → IsStorable v → is_kind column.kind v ≡ true → value_in column (value_spelling v) ≡ Fits v
value_fits column v storable fits = rw (value_again v storable, fits) refl

pattern_fits : (column : Column) (p : Pattern) → IsKeptPattern p → is_of_kind column.kind p ≡ true → pattern_in column (pattern_spelling p) ≡ Fits p
pattern_fits column p kept fits =
    rw (form_sound (pattern_spelling p) (read_as p) (pattern_spelled p kept), pattern_kind column p fits) (ap Fits (pattern_normal p kept))

-- ---- lines of cells

-- each item's spelling is one cell, which says of its column that item
data AreItems {A : Type 0} (f : Column → List ℕ → Judged A) (spelling : A → List ℕ) : List Column → List A → Type 0 where
  no_item : AreItems f spelling [] []
  next_item : {column : Column} {columns : List Column} {item : A} {items : List A} → IsCell (spelling item) → f column (spelling item) ≡ Fits item → AreItems f spelling columns items → AreItems f spelling (column ∷ columns) (item ∷ items)

module _ {A : Type 0} (f : Column → List ℕ → Judged A) (spelling : A → List ℕ) where
  line_cells : (cell : List ℕ) → IsCell cell → (columns : List Column) (items : List A) → AreItems f spelling columns items → AreCells (cell ++ flat_map (λ item. 32 ∷ spelling item) items) (cell ∷ map spelling items)
  line_cells cell c _ _ no_item = subst (λ (line : List ℕ). AreCells line (cell ∷ [])) (sym (append-nil cell)) (last_cell cell c)
  line_cells cell c _ _ (next_item {column} {columns} {item} {items} d is more) = first_cell cell 32 c refl (line_cells (spelling item) d columns items more)

  items_from_again : (n : ℕ) (columns : List Column) (items : List A) → AreItems f spelling columns items → items_from f n columns (map spelling items) ≡ Ok items
  items_from_again n _ _ no_item = refl
  items_from_again n _ _ (next_item {column} {columns} {item} {items} d is more) = rw (is, items_from_again (n + 1) columns items more) refl

  as_many : (columns : List Column) (items : List A) → AreItems f spelling columns items → length (map spelling items) ≡ length columns
  as_many _ _ no_item = refl
  as_many _ _ (next_item {column} {columns} {item} {items} d is more) = omega (arith, as_many columns items more)

  items_again : (columns : List Column) (items : List A) → AreItems f spelling columns items → items_in f columns (map spelling items) ≡ Ok items
  items_again columns items all =
      let same : eqb (length (map spelling items)) (length columns) ≡ true = grind (arith, nat_tests, as_many columns items all) in
      rw same (items_from_again 1 columns items all)

  few_cells : (columns : List Column) (items : List A) → AreItems f spelling columns items → length columns ≤ 120 → (cell : List ℕ) → ltb 128 (length (cell ∷ map spelling items)) ≡ false
  few_cells columns items all few cell = let same = as_many columns items all in grind (arith, nat_tests)

row_items : (columns : List Column) (row : List Value) → AreStorable row → row_fits (domains_of columns) row ≡ true → AreItems value_in value_spelling columns row
row_items [] [] storable fits = no_item
row_items [] (v ∷ vs) storable fits = absurd (false≢true fits)
row_items (c ∷ cs) [] storable fits = absurd (false≢true fits)
row_items (c ∷ cs) (v ∷ vs) storable fits =
    let both = and_parts (is_kind c.kind v) (row_fits (domains_of cs) vs) fits in
    next_item (value_cell (value_spelling v) v (value_spelled v storable.0)) (value_fits c v storable.0 both.0) (row_items cs vs storable.1 both.1)

punct_items : (columns : List Column) (punct : List Pattern) → AreKeptPatterns punct → punct_fits (domains_of columns) punct ≡ true → AreItems pattern_in pattern_spelling columns punct
punct_items [] [] kept fits = no_item
punct_items [] (p ∷ ps) kept fits = absurd (false≢true fits)
punct_items (c ∷ cs) [] kept fits = absurd (false≢true fits)
punct_items (c ∷ cs) (p ∷ ps) kept fits =
    let both = and_parts (is_of_kind c.kind p) (punct_fits (domains_of cs) ps) fits in
    next_item (form_cell (pattern_spelling p) (read_as p) (pattern_spelled p kept.0)) (pattern_fits c p kept.0 both.0) (punct_items cs ps kept.1 both.1)

tuple_tag : IsCell (116 ∷ [])
tuple_tag = (omega arith, plain_byte 116 refl (λ e. omega (arith, e)) no_part)

punct_tag : IsCell (112 ∷ [])
punct_tag = (omega arith, plain_byte 112 refl (λ e. omega (arith, e)) no_part)

few_tagged : (columns : List Column) (cells : List (List ℕ)) → ltb 128 (length cells) ≡ false → judged columns (Some cells) ≡ tagged columns cells
few_tagged columns cells few = rw few refl

pub row_again : (row : List Value) → AreStorable row → RowIsReadAgain row
row_again row storable columns few fits =
    let items = row_items columns row storable fits in
    ap (judged columns) (cells_are (row_line row) ((116 ∷ []) ∷ map value_spelling row) (line_cells value_in value_spelling (116 ∷ []) tuple_tag columns row items))
    ∙ (few_tagged columns ((116 ∷ []) ∷ map value_spelling row) (few_cells value_in value_spelling columns row items few (116 ∷ []))
    ∙ ap read_row (items_again value_in value_spelling columns row items))

pub punct_again : (punct : List Pattern) → AreKeptPatterns punct → PunctIsReadAgain punct
punct_again punct kept columns few fits =
    let items = punct_items columns punct kept fits in
    ap (judged columns) (cells_are (punct_line punct) ((112 ∷ []) ∷ map pattern_spelling punct) (line_cells pattern_in pattern_spelling (112 ∷ []) punct_tag columns punct items))
    ∙ (few_tagged columns ((112 ∷ []) ∷ map pattern_spelling punct) (few_cells pattern_in pattern_spelling columns punct items few (112 ∷ []))
    ∙ ap read_punct (items_again pattern_in pattern_spelling columns punct items))
