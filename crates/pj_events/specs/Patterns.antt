-- All that is said of the inside of a pattern; every other file uses these words alone.
use Rattle.std.specs.Prelude.{Bool, true, false, ◌&&◌, List, [], ◌∷◌, Option, Some, None}
use Rattle.pj_value.specs.declared.values.Value.{Value}
use Rattle.pj_pattern.specs.declared.pattern.Form.TheVariants.{Wild}
pub use Rattle.pj_pattern.specs.Patterns.{Pattern, matches_value, is_wild, covers_pattern}
pub use Rattle.pj_pattern.specs.Columns.{matches_row, covers_punct, all_wild}

-- the pattern that matches all
abbrev pub wild : Pattern
wild = Wild

-- whether the punctuation covers the instance of a scheme: a wildcard in each unmarked column, and a match of the constant in
-- each marked one
abbrev pub covers : List Pattern → List (Option Value) → Bool
covers [] [] = true
covers [] (cell ∷ cells) = false
covers (p ∷ ps) [] = false
covers (p ∷ ps) (Some v ∷ cells) = matches_value p v && covers ps cells
covers (p ∷ ps) (None ∷ cells) = is_wild p && covers ps cells
