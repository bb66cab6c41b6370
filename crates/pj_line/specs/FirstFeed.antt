-- The first line feed of bytes.
use Rattle.std.specs.Prelude.{◌≡◌, ℕ, ◌+◌, ◌<◌, List, [], ◌∷◌, ◌++◌, Option, Some, None, length, take, drop, if◌then◌else◌, ◌==◌}
use Rattle.pj_line.specs.Lines.{HasNo}

-- one place further
abbrev pub one_behind : Option ℕ → Option ℕ
one_behind None = None
one_behind (Some n) = Some (n + 1)

-- how many bytes stand in front of the first line feed, where there is one
abbrev pub first_feed : List ℕ → Option ℕ
first_feed [] = None
first_feed (b ∷ bs) = if b == 10 then Some 0 else one_behind (first_feed bs)

-- the line feed stands behind so many bytes, or there is none
abbrev pub IsFeedAt : List ℕ → Option ℕ → Type 0
IsFeedAt bytes None = HasNo 10 bytes
IsFeedAt bytes (Some n) = (n < length bytes) × HasNo 10 (take n bytes) × (bytes ≡ take n bytes ++ 10 ∷ drop (n + 1) bytes)
