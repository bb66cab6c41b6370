-- What a read puts behind the bytes that are held.
use Rattle.std.specs.Prelude.{◌≡◌, ◌≤◌, ℕ, List, [], ◌++◌, length, IsTrue}
use Rattle.pj_io.specs.Pieces.{Consumes}
use Rattle.pj_io.specs.States.{SourceState}

-- the piece was the next of the bytes left; where n is 0, none are left
abbrev pub IsNextPiece : SourceState → SourceState → List ℕ → ℕ → Type 0
IsNextPiece old new piece n = Consumes old new piece × (n ≡ 0 → new.left ≡ [])

-- n bytes, no more than these, came behind those held; where the source tells its bytes, they were the next
abbrev pub FillsUp : SourceState → SourceState → ℕ → List ℕ → List ℕ → ℕ → Type 0
FillsUp old new most before now n =
    (piece : List ℕ) × (length piece ≡ n) × (n ≤ most) × (now ≡ before ++ piece) × (IsTrue old.told → IsNextPiece old new piece n)
