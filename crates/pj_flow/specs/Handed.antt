-- What is handed up, as a list of elements.
use Rattle.std.specs.Prelude.{List, [], ◌∷◌, Option, Some, None}
use Rattle.pj_value.specs.declared.values.Value.{Value}
use Rattle.pj_pattern.specs.declared.element.Element.{Element}
use Rattle.pj_pattern.specs.declared.element.Element.TheVariants.{Tuple, Punct}
use Rattle.pj_events.specs.Patterns.{Pattern}

-- a tuple, or nothing
abbrev pub row_handed : Option (List Value) → List Element
row_handed None = []
row_handed (Some row) = Tuple row ∷ []

-- a punctuation, or nothing
abbrev pub punct_handed : Option (List Pattern) → List Element
punct_handed None = []
punct_handed (Some patterns) = Punct patterns ∷ []
