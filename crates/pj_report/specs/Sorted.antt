-- Lines in order of their bytes, the sorted form of elements, and how lines are kept for it.
use Rattle.std.specs.Prelude.{ℕ, Bool, List, [], ◌∷◌, ◌++◌, map, take, drop, if◌then◌else◌}
use Rattle.std.specs.Cmp.Lexicographic.{slice_cmp}
use Rattle.std.specs.Ordering.{nat_cmp, is_lt}
use denote.Ref.{Bor}
use Rattle.pj_value.specs.declared.values.Value.{Value}
use Rattle.pj_pattern.specs.declared.element.Element.{Element}
use Rattle.pj_pattern.specs.Patterns.{Pattern}
use Rattle.pj_element.specs.Elements.{row_line, punct_line}
use Rattle.pj_element.specs.Runs.{rows_of, puncts_of, fed}

-- byte by byte: the first two that differ decide, and a line with which another begins is below it
abbrev pub is_below : List ℕ → List ℕ → Bool
is_below line other = is_lt (slice_cmp nat_cmp line other)

-- a line put behind those of these lines that are below it
abbrev pub put_line : List ℕ → List (List ℕ) → List (List ℕ)
put_line line [] = line ∷ []
put_line line (first ∷ lines) = if is_below first line then first ∷ put_line line lines else line ∷ first ∷ lines

-- the lines in order of their bytes, each as often as it is there
abbrev pub sorted_lines : List (List ℕ) → List (List ℕ)
sorted_lines [] = []
sorted_lines (line ∷ lines) = put_line line (sorted_lines lines)

-- the canonical lines of a row and of a punctuation, each with its line feed
abbrev pub fed_row : List Value → List ℕ
fed_row row = fed (row_line row)

abbrev pub fed_punct : List Pattern → List ℕ
fed_punct patterns = fed (punct_line patterns)

-- the lines of the rows among elements, in their order, and those of the punctuations
abbrev pub row_lines : List Element → List (List ℕ)
row_lines es = map fed_row (rows_of es)

abbrev pub punct_lines : List Element → List (List ℕ)
punct_lines es = map fed_punct (puncts_of es)

-- the sorted form of elements: the lines of their rows in order, and then those of their punctuations
abbrev pub sorted_form : List Element → List (List ℕ)
sorted_form es = sorted_lines (row_lines es) ++ sorted_lines (punct_lines es)

-- ---- lines in one buffer

-- the pieces of these lengths, one behind the other
abbrev pub pieces : List ℕ → List ℕ → List (List ℕ)
pieces [] bytes = []
pieces (n ∷ ns) bytes = take n bytes ∷ pieces ns (drop n bytes)

-- the bytes that are lent
abbrev pub lent : Bor (List ℕ) → List ℕ
lent line = line.now
