-- Which punctuations go up, and which wait.
use Rattle.std.specs.Prelude.{ℕ, Bool, not, ◌==◌, ◌&&◌, ◌+◌, if◌then◌else◌, List, [], ◌∷◌, ◌++◌, map, filter, sum, take, drop}
use Rattle.pj_shape.specs.declared.columns.Column.{Column}
use Rattle.pj_shape.specs.Sound.{arities_of}
use Rattle.pj_state.specs.declared.shared.Stored.{Stored}
use Rattle.pj_events.specs.Patterns.{Pattern, all_wild}
use Rattle.pj_events.specs.Join.{PunctAt}
use Rattle.pj_rows.specs.Finding.{still_held}

-- ---- punctuations that wait

-- the punctuation with wildcards for the columns of the other inputs
abbrev pub widened_among : List (List Column) → PunctAt → List Pattern
widened_among schemas p =
    all_wild (sum (take p.input (arities_of schemas))) ++ p.patterns ++ all_wild (sum (drop (p.input + 1) (arities_of schemas)))

-- the same over the rows of the input, without those with these tickets
abbrev pub lets_go : List Stored → List ℕ → ℕ → PunctAt → Bool
lets_go rows gone input p = (p.input == input) && not (still_held rows gone p.patterns)

abbrev pub letting_go : List (List Column) → List Stored → List ℕ → ℕ → List PunctAt → List (List Pattern)
letting_go schemas rows gone input ps = map (widened_among schemas) (filter (lets_go rows gone input) ps)

-- a punctuation that comes is handed up at once, where no row matches it
abbrev pub going_at_once : List (List Column) → Bool → PunctAt → List (List Pattern)
going_at_once schemas held p = if held then [] else (widened_among schemas p ∷ [])

-- else it waits
abbrev pub waiting_with : Bool → List PunctAt → PunctAt → List PunctAt
waiting_with held ps p = if held then (ps ++ p ∷ []) else ps
