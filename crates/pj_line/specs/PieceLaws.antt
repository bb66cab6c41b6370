-- How the pieces that calls give are the pieces of a file.
use Rattle.std.specs.Prelude.{◌≡◌, ℕ, ◌<◌, Bool, true, List, [], ◌∷◌, ◌++◌, length}
use Rattle.pj_line.specs.Lines.{pieces, HasNo}
use Rattle.pj_line.specs.Buffers.{IsPiece}

-- bytes in front of a line feed are the first piece
abbrev pub FedPieceIsFirst : Type 0
FedPieceIsFirst = (piece rest : List ℕ) → HasNo 10 piece → pieces (piece ++ 10 ∷ rest) ≡ piece ∷ pieces rest

-- bytes without a line feed, not empty, are the only piece
abbrev pub LastPieceIsAll : Type 0
LastPieceIsAll = (piece : List ℕ) → HasNo 10 piece → 0 < length piece → pieces piece ≡ piece ∷ []

-- a piece that is cut off the bytes is the first of the file, whose other pieces are those of the bytes left behind it and
-- of what the source has left, which is nothing at the end
abbrev pub CutPieceIsFirst : Type 0
CutPieceIsFirst =
    (bytes piece rest left : List ℕ) (ended : Bool) → IsPiece bytes piece rest ended → (ended ≡ true → left ≡ []) → pieces (bytes ++ left) ≡ piece ∷ pieces (rest ++ left)
