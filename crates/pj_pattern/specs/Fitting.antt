-- What fits columns.
use Rattle.std.specs.Prelude.{◌≡◌, Bool, true, false, ◌&&◌, List, [], ◌∷◌}
use Rattle.pj_value.specs.declared.values.Value.{Value}
use Rattle.pj_value.specs.Values.{Domain, value_fits}
use Rattle.pj_pattern.specs.declared.element.Element.{Element}
use Rattle.pj_pattern.specs.declared.element.Element.TheVariants.{Tuple, Punct}
use Rattle.pj_pattern.specs.Patterns.{Pattern, is_of_kind}

-- the values in the pattern fit the column
abbrev pub pattern_fits : Domain → Pattern → Bool
pattern_fits domain p = is_of_kind domain p

-- a value for each column, which fits it
abbrev pub row_fits : List Domain → List Value → Bool
row_fits [] [] = true
row_fits [] (v ∷ vs) = false
row_fits (d ∷ ds) [] = false
row_fits (d ∷ ds) (v ∷ vs) = value_fits d v && row_fits ds vs

-- a pattern for each column, whose values fit it
abbrev pub punct_fits : List Domain → List Pattern → Bool
punct_fits [] [] = true
punct_fits [] (p ∷ ps) = false
punct_fits (d ∷ ds) [] = false
punct_fits (d ∷ ds) (p ∷ ps) = pattern_fits d p && punct_fits ds ps

abbrev pub FitsDomains : List Domain → Element → Type 0
FitsDomains domains (Tuple row) = row_fits domains row ≡ true
FitsDomains domains (Punct punct) = punct_fits domains punct ≡ true
