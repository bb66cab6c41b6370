-- Punctuations: a pattern for each column.
use Rattle.std.specs.Prelude.{ℕ, ◌+◌, ◌&&◌, ◌||◌, Bool, true, false, List, [], ◌∷◌, ◌++◌, map, replicate, Option, Some, None, if◌then◌else◌, slice_index_or}
use Rattle.pj_value.specs.declared.values.Value.{Value}
use Rattle.pj_value.specs.Lists.{has}
use Rattle.pj_pattern.specs.declared.pattern.Form.TheVariants.{Wild}
use Rattle.pj_pattern.specs.Patterns.{Pattern, matches_value, covers_pattern, is_wild}

-- equal length and a match in every column
abbrev pub matches_row : List Pattern → List Value → Bool
matches_row [] [] = true
matches_row [] (v ∷ vs) = false
matches_row (p ∷ ps) [] = false
matches_row (p ∷ ps) (v ∷ vs) = matches_value p v && matches_row ps vs

-- equal length, and the first covers the second in every column
abbrev pub covers_punct : List Pattern → List Pattern → Bool
covers_punct [] [] = true
covers_punct [] (q ∷ qs) = false
covers_punct (p ∷ ps) [] = false
covers_punct (p ∷ ps) (q ∷ qs) = covers_pattern p q && covers_punct ps qs

-- as many wildcards as there are columns
abbrev pub all_wild : ℕ → List Pattern
all_wild columns = replicate columns Wild

-- each of these patterns, from this column on, is a wildcard, or its column is one of those named
abbrev pub others_wild : List ℕ → ℕ → List Pattern → Bool
others_wild columns at [] = true
others_wild columns at (p ∷ ps) = (has columns at || is_wild p) && others_wild columns (at + 1) ps

-- the patterns of these columns, in the order in which they are named
abbrev pub picked_patterns : List ℕ → List Pattern → List Pattern
picked_patterns columns punct = map (λ column. slice_index_or punct column Wild) columns

-- the punctuation cut to these columns, where every other one is a wildcard
abbrev pub keep_of : List ℕ → List Pattern → Option (List Pattern)
keep_of columns punct = if others_wild columns 0 punct then Some (picked_patterns columns punct) else None

-- so many wildcards in front and behind
abbrev pub widen_of : ℕ → ℕ → List Pattern → List Pattern
widen_of before after punct = all_wild before ++ punct ++ all_wild after
