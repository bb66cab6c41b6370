-- All that is proved of the inside of a pattern.
use Rattle.std.proofs.Common.{ℕ, zero, suc, true, List, [], ◌∷◌, ◌≡◌, Option, Some, None, length, refl, ap, ◌∙◌, arith}
use Rattle.std.proofs.lemmas.Bool.{and_parts, and_from, false≢true}
use Rattle.pj_value.specs.declared.values.Value.{Value}
use Rattle.pj_events.specs.Patterns.{Pattern, all_wild, is_wild, matches_value, matches_row, covers}
use Rattle.pj_pattern.proofs.Covering.{wild_matches}
use Rattle.pj_shape.specs.Instances.{MatchesInstance}

-- wildcards alone cover each instance of their length
pub wilds-cover : (n : ℕ) (cells : List (Option Value)) → length cells ≡ n → covers (all_wild n) cells ≡ true
wilds-cover zero [] l = refl
wilds-cover zero (c ∷ cells) l = absurd (omega arith)
wilds-cover (suc n) [] l = absurd (omega arith)
wilds-cover (suc n) (None ∷ cells) l = wilds-cover n cells (omega arith)
wilds-cover (suc n) (Some v ∷ cells) l = wilds-cover n cells (omega arith)

-- ---- instances

-- a row that matches an instance matches each punctuation that covers it
pub covers-matches : (ps : List Pattern) (vs : List Value) (cells : List (Option Value)) → covers ps cells ≡ true → MatchesInstance vs cells → matches_row ps vs ≡ true
covers-matches [] [] [] c m = refl
covers-matches [] [] (cell ∷ cells) c m = absurd m
covers-matches [] (v ∷ vs) [] c m = absurd m
covers-matches [] (v ∷ vs) (cell ∷ cells) c m = absurd (false≢true c)
covers-matches (p ∷ ps) vs [] c m = absurd (false≢true c)
covers-matches (p ∷ ps) [] (cell ∷ cells) c m = absurd m
covers-matches (p ∷ ps) (v ∷ vs) (None ∷ cells) c m =
    and_from (matches_value p v) (matches_row ps vs) (wild_matches p v (and_parts (is_wild p) (covers ps cells) c).0) (covers-matches ps vs cells (and_parts (is_wild p) (covers ps cells) c).1 m)
covers-matches (p ∷ ps) (v ∷ vs) (Some w ∷ cells) c m =
    and_from (matches_value p v) (matches_row ps vs) (ap (matches_value p) m.0 ∙ (and_parts (matches_value p w) (covers ps cells) c).0) (covers-matches ps vs cells (and_parts (matches_value p w) (covers ps cells) c).1 m.1)
