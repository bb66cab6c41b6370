-- The lines of a file.
use Rattle.std.specs.Prelude.{◌≢◌, ℕ, Bool, true, map, List, [], ◌∷◌, ◌-◌, length, take, slice_index, if◌then◌else◌, ◌==◌, ◌||◌}

-- the byte goes to the front of the first piece
abbrev pub onto : ℕ → List (List ℕ) → List (List ℕ)
onto b [] = (b ∷ []) ∷ []
onto b (p ∷ ps) = (b ∷ p) ∷ ps

-- what stands between line feeds; the last piece counts where it is not empty
abbrev pub pieces : List ℕ → List (List ℕ)
pieces [] = []
pieces (b ∷ bs) = if b == 10 then [] ∷ pieces bs else onto b (pieces bs)

-- without one carriage return at the end
abbrev pub line_of : List ℕ → List ℕ
line_of piece = if slice_index piece (length piece - 1) == 13 then take (length piece - 1) piece else piece

-- the lines of a file
abbrev pub lines_of : List ℕ → List (List ℕ)
lines_of bytes = map line_of (pieces bytes)

-- the byte goes to the front of the first piece, if there is one
abbrev pub onto_first : ℕ → List (List ℕ) → List (List ℕ)
onto_first b [] = []
onto_first b (p ∷ ps) = (b ∷ p) ∷ ps

-- the pieces that end with a line feed
abbrev pub fed_pieces : List ℕ → List (List ℕ)
fed_pieces [] = []
fed_pieces (b ∷ bs) = if b == 10 then [] ∷ fed_pieces bs else onto_first b (fed_pieces bs)

-- a space or a tab
abbrev pub is_blank : ℕ → Bool
is_blank b = b == 32 || (b == 9)

-- no byte but blanks, or `#` as the first other byte
abbrev pub is_skipped : List ℕ → Bool
is_skipped [] = true
is_skipped (b ∷ bs) = if is_blank b then is_skipped bs else (b == 35)

-- no byte is this one
abbrev pub HasNo : ℕ → List ℕ → Type 0
HasNo byte [] = Unit {0}
HasNo byte (b ∷ bs) = (b ≢ byte) × HasNo byte bs
