-- What lines say, as a grammar: the cells of a line, the values that cells spell, the elements that lines stand for.
use Rattle.std.specs.Prelude.{◌≡◌, ◌≢◌, ℕ, ℤ, pos, neg_ℤ, ◌+◌, ◌-◌, ◌*◌, ◌^◌, ◌<◌, ◌≤◌, ◌⊎◌, ⊤, true, List, [], ◌∷◌, ◌++◌, length, Option, Some, None, IsTrue, IsFalse, codes}
use Rattle.pj_value.specs.declared.values.Kind.{Kind}
use Rattle.pj_value.specs.declared.values.Kind.TheVariants.{Int as IntKind, Text as TextKind}
use Rattle.pj_value.specs.declared.values.Value.{Value}
use Rattle.pj_value.specs.declared.values.Value.TheVariants.{Int, Text}
use Rattle.pj_shape.specs.declared.columns.Column.{Column}
use Rattle.pj_pattern.specs.declared.pattern.Form.{Form}
use Rattle.pj_pattern.specs.declared.pattern.Form.TheVariants.{Wild, Constant, Range, Members}
use Rattle.pj_pattern.specs.Patterns.{Pattern, is_of_kind}
use Rattle.pj_pattern.specs.Normal.{normal_of}
use Rattle.pj_element.specs.declared.element.Reject.{Reject}
use Rattle.pj_element.specs.declared.element.Reject.TheVariants.{TooLong, NotElement, Arity, BadCell, WrongKind, Closed}
use Rattle.pj_element.specs.declared.element.Read.{Read}
use Rattle.pj_element.specs.declared.element.Read.TheVariants.{Skip, Tuple, Punct, Bad}
use Rattle.pj_line.specs.Lines.{is_blank, is_skipped}
use Rattle.pj_element.specs.Elements.{width}

-- ---- cells

-- the rest of a quoted part: a backslash takes the next byte with it, and the next quote that is not taken so ends the part
pub data EndsQuoted : List ℕ → Type 0 where
  end_quote : EndsQuoted (codes "\"")
  taken_byte : (b : ℕ) {bytes : List ℕ} → EndsQuoted bytes → EndsQuoted (codes "\\" ++ b ∷ bytes)
  quoted_byte : (b : ℕ) {bytes : List ℕ} → b ≢ 34 → b ≢ 92 → EndsQuoted bytes → EndsQuoted (b ∷ bytes)

-- bytes behind an opening quote that no quote ends
pub data StaysQuoted : List ℕ → Type 0 where
  no_more : StaysQuoted []
  takes_none : StaysQuoted (codes "\\")
  taken_open : (b : ℕ) {bytes : List ℕ} → StaysQuoted bytes → StaysQuoted (codes "\\" ++ b ∷ bytes)
  quoted_open : (b : ℕ) {bytes : List ℕ} → b ≢ 34 → b ≢ 92 → StaysQuoted bytes → StaysQuoted (b ∷ bytes)

-- plain bytes, which are no blanks and no quotes, and quoted parts
pub data AreParts : List ℕ → Type 0 where
  no_part : AreParts []
  plain_byte : (b : ℕ) {bytes : List ℕ} → IsFalse (is_blank b) → b ≢ 34 → AreParts bytes → AreParts (b ∷ bytes)
  quoted_part : (part : List ℕ) {bytes : List ℕ} → EndsQuoted part → AreParts bytes → AreParts (codes "\"" ++ part ++ bytes)

-- a cell is one or more of these
abbrev pub IsCell : List ℕ → Type 0
IsCell cell = (0 < length cell) × AreParts cell

-- the cells of a line: one or more blanks part them, and blanks may stand at either end
pub data AreCells : List ℕ → List (List ℕ) → Type 0 where
  no_cell : AreCells [] []
  behind_blank : (b : ℕ) {line : List ℕ} {cells : List (List ℕ)} → IsTrue (is_blank b) → AreCells line cells → AreCells (b ∷ line) cells
  last_cell : (cell : List ℕ) → IsCell cell → AreCells cell (cell ∷ [])
  first_cell : (cell : List ℕ) (b : ℕ) {line : List ℕ} {cells : List (List ℕ)} → IsCell cell → IsTrue (is_blank b) → AreCells line cells → AreCells (cell ++ b ∷ line) (cell ∷ cells)

-- a line that ends inside a quoted part
pub data IsUnclosed : List ℕ → Type 0 where
  open_part : {bytes : List ℕ} → StaysQuoted bytes → IsUnclosed (codes "\"" ++ bytes)
  behind_byte : (b : ℕ) {line : List ℕ} → b ≢ 34 → IsUnclosed line → IsUnclosed (b ∷ line)
  behind_part : (part : List ℕ) {line : List ℕ} → EndsQuoted part → IsUnclosed line → IsUnclosed (codes "\"" ++ part ++ line)

-- ---- values

-- `0` to `9`
abbrev pub IsDigit : ℕ → Type 0
IsDigit b = (48 ≤ b) × (b ≤ 57)

-- the number that one or more digits spell
pub data SpellsNumber : List ℕ → ℕ → Type 0 where
  one_digit : (b : ℕ) → IsDigit b → SpellsNumber (b ∷ []) (b - 48)
  more_digits : {digits : List ℕ} {n : ℕ} (b : ℕ) → SpellsNumber digits n → IsDigit b → SpellsNumber (digits ++ b ∷ []) (10 * n + (b - 48))

-- an int is a number, or one behind a minus, from -2^63 to 2^63 - 1
pub data SpellsInt : List ℕ → ℤ → Type 0 where
  plain_int : {cell : List ℕ} {n : ℕ} → SpellsNumber cell n → n ≤ 2 ^ 63 - 1 → SpellsInt cell (pos n)
  minus_int : {digits : List ℕ} {n : ℕ} → SpellsNumber digits n → n ≤ 2 ^ 63 → SpellsInt (codes "-" ++ digits) (neg_ℤ (pos n))

-- the byte that a backslash and this one stand for
pub data EscapesTo : ℕ → ℕ → Type 0 where
  quote_escape : EscapesTo 34 34
  backslash_escape : EscapesTo 92 92
  feed_escape : EscapesTo 110 10
  return_escape : EscapesTo 114 13
  tab_escape : EscapesTo 116 9

-- the number that a hexadecimal digit of either case stands for
pub data IsHexDigit : ℕ → ℕ → Type 0 where
  hex_digit : (b : ℕ) → IsDigit b → IsHexDigit b (b - 48)
  small_letter : (b : ℕ) → 97 ≤ b → b ≤ 102 → IsHexDigit b (b - 87)
  large_letter : (b : ℕ) → 65 ≤ b → b ≤ 70 → IsHexDigit b (b - 55)

-- the text that parts and a closing quote spell: a byte other than quote and backslash stands for itself
pub data SpellsParts : List ℕ → List ℕ → Type 0 where
  closing_quote : SpellsParts (codes "\"") []
  byte_itself : (b : ℕ) {bytes text : List ℕ} → b ≢ 34 → b ≢ 92 → SpellsParts bytes text → SpellsParts (b ∷ bytes) (b ∷ text)
  escaped_byte : (e b : ℕ) {bytes text : List ℕ} → EscapesTo e b → SpellsParts bytes text → SpellsParts (codes "\\" ++ e ∷ bytes) (b ∷ text)
  hex_byte : (h l high low : ℕ) {bytes text : List ℕ} → IsHexDigit h high → IsHexDigit l low → SpellsParts bytes text → SpellsParts (codes "\\x" ++ h ∷ l ∷ bytes) ((16 * high + low) ∷ text)

-- the value that a cell spells
pub data SpellsValue : List ℕ → Value → Type 0 where
  spells_int : {cell : List ℕ} {n : ℤ} → SpellsInt cell n → SpellsValue cell (Int n)
  spells_text : {parts text : List ℕ} → SpellsParts parts text → SpellsValue (codes "\"" ++ parts) (Text text)

-- ---- patterns

-- one or more values, parted by vertical bars
pub data SpellsMembers : List ℕ → List Value → Type 0 where
  one_member : {cell : List ℕ} {value : Value} → SpellsValue cell value → SpellsMembers cell (value ∷ [])
  more_members : {cell cells : List ℕ} {value : Value} {values : List Value} → SpellsValue cell value → SpellsMembers cells values → SpellsMembers (cell ++ (codes "|" ++ cells)) (value ∷ values)

-- an end of a range: a value, or nothing
pub data SpellsEnd : List ℕ → Option Value → Type 0 where
  no_end : SpellsEnd [] None
  value_end : {cell : List ℕ} {value : Value} → SpellsValue cell value → SpellsEnd cell (Some value)

-- the pattern, not yet in normal form, that a cell spells: `*`, `{}`, `{v|v|..}`, `[low..high]` or a value
pub data SpellsForm : List ℕ → Form → Type 0 where
  spells_star : SpellsForm (codes "*") Wild
  spells_empty : SpellsForm (codes "{}") (Members [])
  spells_list : {cells : List ℕ} {values : List Value} → SpellsMembers cells values → SpellsForm (codes "{" ++ cells ++ codes "}") (Members values)
  spells_range : {low high : List ℕ} {from to : Option Value} → SpellsEnd low from → SpellsEnd high to → SpellsForm (codes "[" ++ (low ++ (codes ".." ++ high)) ++ codes "]") (Range from to)
  spells_constant : {cell : List ℕ} {value : Value} → SpellsValue cell value → SpellsForm cell (Constant value)

-- ---- elements

-- the kind of a value
pub data HasKind : Value → Kind → Type 0 where
  int_kind : (n : ℤ) → HasKind (Int n) IntKind
  text_kind : (text : List ℕ) → HasKind (Text text) TextKind

-- each value that stands in the pattern is of the kind
abbrev pub HasFormKind : Form → Kind → Type 0
HasFormKind form kind = is_of_kind kind form ≡ true

-- the cell spells a value of the column's kind
abbrev pub SpellsIn : Column → List ℕ → Value → Type 0
SpellsIn column cell value = SpellsValue cell value × HasKind value column.kind

-- the cell spells a pattern whose values are of the column's kind, and this is its normal form
abbrev pub SpellsPattern : Column → List ℕ → Pattern → Type 0
SpellsPattern column cell pattern = (form : Form) × SpellsForm cell form × HasFormKind form column.kind × (pattern ≡ normal_of form)

-- a cell for each column, and what each cell spells
pub data EachSpells {A : Type 0} (Spells : Column → List ℕ → A → Type 0) : List Column → List (List ℕ) → List A → Type 0 where
  no_column : EachSpells Spells [] [] []
  next_column : {column : Column} {columns : List Column} {cell : List ℕ} {cells : List (List ℕ)} {item : A} {items : List A} → Spells column cell item → EachSpells Spells columns cells items → EachSpells Spells (column ∷ columns) (cell ∷ cells) (item ∷ items)

-- from the left, the first column, the first of these having this number, whose cell spells nothing or something of another kind
pub data IsFirstFault {A : Type 0} (Spells : List ℕ → A → Type 0) (IsOf : A → Kind → Type 0) : ℕ → List Column → List (List ℕ) → Reject → Type 0 where
  spells_nothing : (n : ℕ) (column : Column) (columns : List Column) (cell : List ℕ) (cells : List (List ℕ)) → ((item : A) → Spells cell item → ⊥) → IsFirstFault Spells IsOf n (column ∷ columns) (cell ∷ cells) (BadCell n)
  spells_other : (n : ℕ) (column : Column) (columns : List Column) (cell : List ℕ) (cells : List (List ℕ)) (item : A) → Spells cell item → (IsOf item column.kind → ⊥) → IsFirstFault Spells IsOf n (column ∷ columns) (cell ∷ cells) (WrongKind n)
  behind_column : (n : ℕ) (column : Column) (columns : List Column) (cell : List ℕ) (cells : List (List ℕ)) (item : A) (why : Reject) → Spells cell item → IsOf item column.kind → IsFirstFault Spells IsOf (n + 1) columns cells why → IsFirstFault Spells IsOf n (column ∷ columns) (cell ∷ cells) why

-- the line is not skipped, has at most 128 cells, the first of which is this tag, and these others
abbrev pub IsTagged : List ℕ → List ℕ → List (List ℕ) → Type 0
IsTagged tag line cells = IsFalse (is_skipped line) × AreCells line (tag ∷ cells) × (length cells < 128)

-- the tag is `t`, and the cells spell the row's values
abbrev pub IsTupleLine : List Column → List ℕ → List Value → Type 0
IsTupleLine columns line row = (cells : List (List ℕ)) × IsTagged (codes "t") line cells × EachSpells SpellsIn columns cells row

-- the tag is `p`, and the cells spell the punctuation's patterns
abbrev pub IsPunctLine : List Column → List ℕ → List Pattern → Type 0
IsPunctLine columns line punct = (cells : List (List ℕ)) × IsTagged (codes "p") line cells × EachSpells SpellsPattern columns cells punct

-- the first cell is neither `t` nor `p`
abbrev pub IsUntagged : List (List ℕ) → Type 0
IsUntagged [] = ⊤
IsUntagged (tag ∷ cells) = (tag ≢ codes "t") × (tag ≢ codes "p")

-- the line is not skipped, and it is unclosed, has more than 128 cells, or has neither tag
abbrev pub IsNoElement : List ℕ → Type 0
IsNoElement line =
    IsFalse (is_skipped line)
    × (IsUnclosed line ⊎ ((cells : List (List ℕ)) × AreCells line cells × ((128 < length cells) ⊎ IsUntagged cells)))

-- the line has a tag, and behind it not as many cells as there are columns
abbrev pub HasOtherWidth : List Column → List ℕ → ℕ → ℕ → Type 0
HasOtherWidth columns line want got =
    (tag : List ℕ) × (cells : List (List ℕ)) × ((tag ≡ codes "t") ⊎ (tag ≡ codes "p")) × IsTagged tag line cells
    × (length cells ≢ length columns) × (want ≡ width columns) × (got ≡ length cells)

-- the line has a tag and a cell for each column, and this is its first fault
abbrev pub HasFault : List Column → List ℕ → Reject → Type 0
HasFault columns line why =
    (cells : List (List ℕ)) × (length cells ≡ length columns)
    × ((IsTagged (codes "t") line cells × IsFirstFault SpellsValue HasKind 1 columns cells why)
    ⊎ (IsTagged (codes "p") line cells × IsFirstFault SpellsForm HasFormKind 1 columns cells why))

-- what a line says of a stream with these columns
abbrev pub ReadsAs : List Column → List ℕ → Read → Type 0
ReadsAs columns line Skip = IsTrue (is_skipped line)
ReadsAs columns line (Tuple row) = IsTupleLine columns line row
ReadsAs columns line (Punct punct) = IsPunctLine columns line punct
ReadsAs columns line (Bad TooLong) = ⊥
ReadsAs columns line (Bad NotElement) = IsNoElement line
ReadsAs columns line (Bad (Arity want got)) = HasOtherWidth columns line want got
ReadsAs columns line (Bad (BadCell n)) = HasFault columns line (BadCell n)
ReadsAs columns line (Bad (WrongKind n)) = HasFault columns line (WrongKind n)
ReadsAs columns line (Bad (Closed n)) = ⊥
