-- A punctuation of constants matches one key alone.
use Rattle.std.proofs.Common.{ℕ, ◌+◌, ◌≤◌, ◌&&◌, List, [], ◌∷◌, ◌++◌, Some, ◌≡◌, map, length, take, refl, sym, ap, ap₂, ◌∙◌, subst, arith}
use Rattle.std.specs.List.{slice_get}
use Rattle.std.proofs.lemmas.List.{map-append, take_all, take_more}
use Rattle.std.proofs.lemmas.Option.{get_or_from_slice_get, slice_get_within}
use Rattle.pj_value.specs.declared.values.Value.{Value}
use Rattle.pj_value.specs.Values.{value_eq}
use Rattle.pj_pattern.specs.declared.pattern.Form.TheVariants.{Constant}
use Rattle.pj_events.specs.Patterns.{Pattern}
use Rattle.pj_group.specs.Slots.{MatchesOnly}

constants_only : (values : List Value) → MatchesOnly (map Constant values) values
constants_only [] [] = refl
constants_only [] (w ∷ row) = refl
constants_only (v ∷ values) [] = refl
constants_only (v ∷ values) (w ∷ row) = ap (λ b. value_eq v w && b) (constants_only values row)

-- where all patterns are constants
pub matches_only : (patterns : List Pattern) (values : List Value) → map Constant values ≡ patterns → MatchesOnly patterns values
matches_only patterns values e = subst (λ (ps : List Pattern). MatchesOnly ps values) e (constants_only values)

-- all of them
pub constants_all : (patterns items : List Pattern) (at : ℕ) (values key : List Value) → items ≡ patterns → length items ≤ at → map Constant values ≡ take at patterns → key ≡ values → MatchesOnly patterns key
constants_all patterns items at values key s n h k =
    subst (MatchesOnly patterns) (sym k) (matches_only patterns values (h ∙ take_all at patterns (omega (arith, n, ap length s))))
