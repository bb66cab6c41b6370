-- Bytes whose lines end with line feeds.
use Rattle.std.specs.Prelude.{◌≡◌, ◌⊎◌, ℕ, List, [], ◌∷◌, ◌++◌}
use Rattle.pj_line.specs.Lines.{pieces}

-- none, or the last of them is a line feed
abbrev pub AreFed : List ℕ → Type 0
AreFed bytes = (bytes ≡ []) ⊎ ((front : List ℕ) × (bytes ≡ front ++ 10 ∷ []))

-- the pieces of more bytes stand behind theirs
abbrev pub PiecesGoOn : Type 0
PiecesGoOn = (bytes more : List ℕ) → AreFed bytes → pieces (bytes ++ more) ≡ pieces bytes ++ pieces more
