-- What a line of a stream's file says.
use Rattle.std.specs.Prelude.{ℕ, ◌+◌, ◌-◌, ◌^◌, min, List, [], ◌∷◌, ◌++◌, Option, Some, None, Result, Ok, Err, if◌then◌else◌, ◌==◌, nat_lt, length, codes}
use Rattle.std.specs.List.{flat_map}
use Rattle.std.specs.Str.{bytes_eq}
use Rattle.pj_value.specs.declared.values.Value.{Value}
use Rattle.pj_value.specs.Texts.{value_spelling}
use Rattle.pj_value.specs.Values.{is_kind}
use Rattle.pj_shape.specs.declared.columns.Column.{Column}
use Rattle.pj_pattern.specs.declared.pattern.Form.{Form}
use Rattle.pj_pattern.specs.declared.pattern.Form.TheVariants.{Wild, Empty, Constant, Range, Members}
use Rattle.pj_pattern.specs.Patterns.{Pattern, is_of_kind}
use Rattle.pj_pattern.specs.Normal.{normal_of}
use Rattle.pj_line.specs.Lines.{is_skipped, line_of}
use Rattle.pj_line.specs.Cells.{cells_of}
use Rattle.pj_element.specs.declared.element.Reject.{Reject}
use Rattle.pj_element.specs.declared.element.Reject.TheVariants.{TooLong, NotElement, Arity, BadCell, WrongKind}
use Rattle.pj_element.specs.declared.element.Read.{Read}
use Rattle.pj_element.specs.declared.element.Read.TheVariants.{Skip, Tuple, Punct, Bad}
use Rattle.pj_element.specs.declared.element.Judged.{Judged}
use Rattle.pj_element.specs.declared.element.Judged.TheVariants.{Fits, OtherKind, Unspelled}
use Rattle.pj_element.specs.Spelled.{value_of}
use Rattle.pj_element.specs.Forms.{form_of}

-- ---- cells

abbrev pub judged_value : Column → Option Value → Judged Value
judged_value column None = Unspelled
judged_value column (Some v) = if is_kind column.kind v then Fits v else OtherKind

-- what a cell says of a column: a value
abbrev pub value_in : Column → List ℕ → Judged Value
value_in column cell = judged_value column (value_of cell)

abbrev pub judged_form : Column → Option Form → Judged Pattern
judged_form column None = Unspelled
judged_form column (Some form) = if is_of_kind column.kind form then Fits (normal_of form) else OtherKind

-- what a cell says of a column: a pattern in normal form. Its kind is judged by the values that the cell spells
abbrev pub pattern_in : Column → List ℕ → Judged Pattern
pattern_in column cell = judged_form column (form_of cell)

-- an item goes to the front of those that fit
abbrev pub onto_items : {A : Type 0} → A → Result (List A) Reject → Result (List A) Reject
onto_items item (Ok items) = Ok (item ∷ items)
onto_items item (Err why) = Err why

-- what the cell of the column with this number says, before what the cells behind it say
abbrev pub with_item : {A : Type 0} → ℕ → Judged A → Result (List A) Reject → Result (List A) Reject
with_item n (Fits item) others = onto_items item others
with_item n OtherKind others = Err (WrongKind n)
with_item n Unspelled others = Err (BadCell n)

-- a cell for each column, of which the first has this number; the first that does not fit decides
abbrev pub items_from : {A : Type 0} → (Column → List ℕ → Judged A) → ℕ → List Column → List (List ℕ) → Result (List A) Reject
items_from f n [] cells = Ok []
items_from f n (column ∷ columns) [] = Ok []
items_from f n (column ∷ columns) (cell ∷ cells) = with_item n (f column cell) (items_from f (n + 1) columns cells)

-- the number of columns, as far as 32 bits count
abbrev pub width : List Column → ℕ
width columns = min (length columns) (2 ^ 32 - 1)

-- as many cells as columns, each of which fits its column
abbrev pub items_in : {A : Type 0} → (Column → List ℕ → Judged A) → List Column → List (List ℕ) → Result (List A) Reject
items_in f columns cells =
    if length cells == length columns then items_from f 1 columns cells else Err (Arity (width columns) (length cells))

-- ---- lines

abbrev pub read_row : Result (List Value) Reject → Read
read_row (Ok row) = Tuple row
read_row (Err why) = Bad why

abbrev pub read_punct : Result (List Pattern) Reject → Read
read_punct (Ok punct) = Punct punct
read_punct (Err why) = Bad why

-- what the cells of a line say: the first is the tag, `t` of a tuple or `p` of a punctuation
abbrev pub tagged : List Column → List (List ℕ) → Read
tagged columns [] = Bad NotElement
tagged columns (tag ∷ cells) =
    if bytes_eq tag (codes "t") then read_row (items_in value_in columns cells)
    else (if bytes_eq tag (codes "p") then read_punct (items_in pattern_in columns cells)
    else Bad NotElement)

-- the same, where an unclosed line and one of more than 128 cells are no elements
abbrev pub judged : List Column → Option (List (List ℕ)) → Read
judged columns None = Bad NotElement
judged columns (Some cells) = if nat_lt 128 (length cells) then Bad NotElement else tagged columns cells

-- what a line says of a stream with these columns
abbrev pub reading_of : List Column → List ℕ → Read
reading_of columns line = if is_skipped line then Skip else judged columns (cells_of line)

-- the same of a piece of a file, which may be too long, and is not skipped then
abbrev pub reading_at : List Column → List ℕ → Read
reading_at columns piece = if nat_lt 65536 (length piece) then Bad TooLong else reading_of columns (line_of piece)

-- ---- canonical lines

-- an end of a range
abbrev pub end_spelling : Option Value → List ℕ
end_spelling None = []
end_spelling (Some v) = value_spelling v

-- values behind a vertical bar each
abbrev pub more_members : List Value → List ℕ
more_members [] = []
more_members (v ∷ vs) = codes "|" ++ value_spelling v ++ more_members vs

-- the members of a list, parted by vertical bars
abbrev pub members_spelling : List Value → List ℕ
members_spelling [] = []
members_spelling (v ∷ vs) = value_spelling v ++ more_members vs

-- the canonical spelling of a pattern: `*`, `{}`, a value, `[low..high]`, or `{v|v|..}`
abbrev pub pattern_spelling : Pattern → List ℕ
pattern_spelling Wild = codes "*"
pattern_spelling Empty = codes "{}"
pattern_spelling (Constant v) = value_spelling v
pattern_spelling (Range low high) = codes "[" ++ (end_spelling low ++ (codes ".." ++ end_spelling high)) ++ codes "]"
pattern_spelling (Members vs) = codes "{" ++ members_spelling vs ++ codes "}"

-- the canonical line of a row, without its line feed
abbrev pub row_line : List Value → List ℕ
row_line row = codes "t" ++ flat_map (λ v. codes " " ++ value_spelling v) row

-- the canonical line of a punctuation, without its line feed
abbrev pub punct_line : List Pattern → List ℕ
punct_line punct = codes "p" ++ flat_map (λ p. codes " " ++ pattern_spelling p) punct
