-- Laws of reading and of canonical lines.
use Rattle.std.specs.Prelude.{◌≡◌, ◌≤◌, ◌↔◌, ℕ, true, ⊤, List, [], ◌∷◌, length, Option, Some, None}
use Rattle.pj_value.specs.declared.values.Value.{Value}
use Rattle.pj_value.specs.Storable.{AreStorable, IsStorable}
use Rattle.pj_shape.specs.declared.columns.Column.{Column}
use Rattle.pj_shape.specs.Columns.{domains_of}
use Rattle.pj_pattern.specs.declared.pattern.Form.{Form}
use Rattle.pj_pattern.specs.declared.pattern.Form.TheVariants.{Wild, Empty, Constant, Range, Members}
use Rattle.pj_pattern.specs.Patterns.{Pattern, is_of_one_kind}
use Rattle.pj_pattern.specs.Fitting.{row_fits, punct_fits}
use Rattle.pj_pattern.specs.Normal.{IsNormal}
use Rattle.pj_line.specs.Cells.{cells_of}
use Rattle.pj_element.specs.declared.element.Read.{Read}
use Rattle.pj_element.specs.declared.element.Read.TheVariants.{Tuple, Punct}
use Rattle.pj_element.specs.Spelled.{value_of}
use Rattle.pj_element.specs.declared.forms.Spelled.TheVariants.{Good}
use Rattle.pj_element.specs.Forms.{form_of, pattern_of}
use Rattle.pj_element.specs.Elements.{reading_of, pattern_spelling, row_line, punct_line}
use Rattle.pj_element.specs.Reading.{AreCells, IsUnclosed, SpellsValue, SpellsForm, ReadsAs}

-- ---- the grammar and what is computed agree

abbrev pub CellsAreExact : Type 0
CellsAreExact = (line : List ℕ) (cells : List (List ℕ)) → AreCells line cells ↔ (cells_of line ≡ Some cells)

abbrev pub UnclosedIsExact : Type 0
UnclosedIsExact = (line : List ℕ) → IsUnclosed line ↔ (cells_of line ≡ None)

abbrev pub ValuesAreExact : Type 0
ValuesAreExact = (cell : List ℕ) (value : Value) → SpellsValue cell value ↔ (value_of cell ≡ Some value)

abbrev pub FormsAreExact : Type 0
FormsAreExact = (cell : List ℕ) (form : Form) → SpellsForm cell form ↔ (form_of cell ≡ Some form)

abbrev pub LinesAreExact : Type 0
LinesAreExact = (columns : List Column) (line : List ℕ) (read : Read) → ReadsAs columns line read ↔ (read ≡ reading_of columns line)

-- ---- canonical lines are read again

abbrev pub IsStorableEnd : Option Value → Type 0
IsStorableEnd None = ⊤
IsStorableEnd (Some v) = IsStorable v

-- the values in the pattern are storable, and it is in normal form
abbrev pub IsKeptPattern : Pattern → Type 0
IsKeptPattern Wild = ⊤
IsKeptPattern Empty = ⊤
IsKeptPattern (Constant c) = IsStorable c
IsKeptPattern (Range low high) = IsStorableEnd low × IsStorableEnd high × IsNormal (Range low high)
IsKeptPattern (Members vs) = AreStorable vs × IsNormal (Members vs)

abbrev pub AreKeptPatterns : List Pattern → Type 0
AreKeptPatterns [] = ⊤
AreKeptPatterns (p ∷ ps) = IsKeptPattern p × AreKeptPatterns ps

-- a pattern whose values are of one kind, printed, is read again as itself
abbrev pub PatternIsReadAgain : Pattern → Type 0
PatternIsReadAgain pattern = is_of_one_kind pattern ≡ true → pattern_of (pattern_spelling pattern) ≡ Good pattern

-- a row that fits at most 120 columns, printed, is read again as itself
abbrev pub RowIsReadAgain : List Value → Type 0
RowIsReadAgain row = (columns : List Column) → length columns ≤ 120 → row_fits (domains_of columns) row ≡ true → reading_of columns (row_line row) ≡ Tuple row

-- a punctuation that fits at most 120 columns, printed, is read again as itself
abbrev pub PunctIsReadAgain : List Pattern → Type 0
PunctIsReadAgain punct = (columns : List Column) → length columns ≤ 120 → punct_fits (domains_of columns) punct ≡ true → reading_of columns (punct_line punct) ≡ Punct punct

abbrev pub RowsAreReadAgain : Type 0
RowsAreReadAgain = (row : List Value) → AreStorable row → RowIsReadAgain row

abbrev pub PunctsAreReadAgain : Type 0
PunctsAreReadAgain = (punct : List Pattern) → AreKeptPatterns punct → PunctIsReadAgain punct
