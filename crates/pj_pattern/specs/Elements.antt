-- Lists of elements: the rows and punctuations in them, and when they are lawful.
use Rattle.std.specs.Prelude.{◌≡◌, false, List, [], ◌∷◌}
use Rattle.pj_value.specs.declared.values.Value.{Value}
use Rattle.pj_pattern.specs.declared.element.Element.{Element}
use Rattle.pj_pattern.specs.declared.element.Element.TheVariants.{Tuple, Punct}
use Rattle.pj_pattern.specs.Patterns.{Pattern}
use Rattle.pj_pattern.specs.Columns.{matches_row}

abbrev pub with_row : Element → List (List Value) → List (List Value)
with_row (Tuple row) rows = row ∷ rows
with_row (Punct punct) rows = rows

-- the rows among the elements
abbrev pub rows_of : List Element → List (List Value)
rows_of [] = []
rows_of (e ∷ es) = with_row e (rows_of es)

abbrev pub with_punct : Element → List (List Pattern) → List (List Pattern)
with_punct (Tuple row) puncts = puncts
with_punct (Punct punct) puncts = punct ∷ puncts

-- the punctuations among the elements
abbrev pub puncts_of : List Element → List (List Pattern)
puncts_of [] = []
puncts_of (e ∷ es) = with_punct e (puncts_of es)

-- no row of these matches the punctuation
abbrev pub NoneMatches : List Pattern → List Element → Type 0
NoneMatches punct [] = Unit {0}
NoneMatches punct (Tuple row ∷ es) = (matches_row punct row ≡ false) × NoneMatches punct es
NoneMatches punct (Punct other ∷ es) = NoneMatches punct es

-- no row matches a punctuation before it (Tucker et al. 2003)
abbrev pub IsLawful : List Element → Type 0
IsLawful [] = Unit {0}
IsLawful (Tuple row ∷ es) = IsLawful es
IsLawful (Punct punct ∷ es) = NoneMatches punct es × IsLawful es
