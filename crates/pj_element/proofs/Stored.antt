-- Loops over patterns whose values are storable.
use Rattle.std.proofs.Common.{◌≡◌, ℕ, ◌+◌, ◌<◌, ◌≤◌, List, length, get_or, drop, sym, subst}
use Rattle.std.proofs.lemmas.List.{drop_more, at_drop_all}
use Rattle.pj_pattern.specs.Patterns.{Pattern}
use Rattle.pj_element.specs.Laws.{AreKeptPatterns, IsKeptPattern}

-- all are kept, if those from the i-th on are
abbrev pub KeptSoFar : List Pattern → ℕ → Type 0
KeptSoFar patterns i = AreKeptPatterns (drop i patterns) → AreKeptPatterns patterns

pub kept_more : (patterns : List Pattern) (i : ℕ) (pattern : Pattern) → KeptSoFar patterns i → i < length patterns → pattern ≡ get_or patterns i pattern → IsKeptPattern pattern → KeptSoFar patterns (i + 1)
kept_more patterns i pattern before lt is kept = λ later.
    before (subst AreKeptPatterns (sym (drop_more patterns i pattern lt)) (subst IsKeptPattern is kept, later))

pub kept_end : (patterns : List Pattern) (i : ℕ) → KeptSoFar patterns i → length patterns ≤ i → AreKeptPatterns patterns
kept_end patterns i before le = before (subst AreKeptPatterns (sym (at_drop_all (λ (ps : List Pattern). ps) patterns i le)) tt)
