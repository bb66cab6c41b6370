-- What a punctuation covers that none does which came before.
use Rattle.std.specs.Prelude.{ℕ, suc, ◌≡◌, ◌⊎◌, true, false, List, ◌∷◌, ◌++◌, take, drop, Option}
use Rattle.pj_value.specs.declared.values.Value.{Value}
use Rattle.pj_events.specs.Patterns.{Pattern, covers, is_wild, matches_value}
use Rattle.pj_puncts.specs.Stores.{covered_by_any}
use Rattle.pj_puncts.specs.declared.store.NumberedPunct.{NumberedPunct}
use Rattle.pj_recheck.specs.declared.added.Added.{Added}
use Rattle.pj_recheck.specs.declared.added.Added.TheVariants.{Nothing, Part, Whole}

-- what the first pattern matches the second or the third matches; the first is no wildcard
abbrev pub IsBeyond : Pattern → Pattern → Pattern → Type 0
IsBeyond p last rest = (is_wild p ≡ false) × ((v : Value) → matches_value p v ≡ true → (matches_value last v ≡ true) ⊎ (matches_value rest v ≡ true))

-- the patterns with another one in a column
abbrev pub replaced : List Pattern → ℕ → Pattern → List Pattern
replaced patterns column p = take column patterns ++ p ∷ drop (suc column) patterns

-- the same of punctuations and what they cover
abbrev pub IsBeside : List Pattern → List Pattern → List Pattern → Type 0
IsBeside patterns last rest = (cells : List (Option Value)) → covers patterns cells ≡ true → (covers last cells ≡ true) ⊎ (covers rest cells ≡ true)

-- what the punctuation covers one of these covers, or what is told of it
abbrev pub IsAdded : List NumberedPunct → List Pattern → Added → Type 0
IsAdded kept patterns Nothing = (cells : List (Option Value)) → covers patterns cells ≡ true → covered_by_any kept cells ≡ true
IsAdded kept patterns (Part rest) = (cells : List (Option Value)) → covers patterns cells ≡ true → (covered_by_any kept cells ≡ true) ⊎ (covers rest cells ≡ true)
IsAdded kept patterns Whole = Unit {0}
