-- Lists of elements: their closing and their text.
use Rattle.std.specs.Prelude.{ℕ, List, ◌++◌, map, length, codes}
use Rattle.pj_shape.specs.declared.columns.Column.{Column}
use Rattle.pj_pattern.specs.declared.element.Element.{Element}
use Rattle.pj_pattern.specs.declared.element.Element.TheVariants.{Tuple, Punct}
use Rattle.pj_pattern.specs.Patterns.{Pattern}
use Rattle.pj_pattern.specs.Columns.{all_wild}
use Rattle.pj_element.specs.Elements.{row_line, punct_line}
pub use Rattle.pj_pattern.specs.Elements.{rows_of, puncts_of, with_row, with_punct, IsLawful, NoneMatches}

-- the closing punctuation of a stream: a wildcard for each column
abbrev pub closing : List Column → List Pattern
closing columns = all_wild (length columns)

-- the canonical line of an element, without its line feed
abbrev pub element_line : Element → List ℕ
element_line (Tuple row) = row_line row
element_line (Punct punct) = punct_line punct

abbrev pub fed : List ℕ → List ℕ
fed line = line ++ codes "\n"

-- the lines of elements, each with its line feed
abbrev pub element_lines : List Element → List (List ℕ)
element_lines es = map (λ e. fed (element_line e)) es
