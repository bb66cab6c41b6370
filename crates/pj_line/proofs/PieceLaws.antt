-- The pieces of a file.
use Rattle.std.proofs.Common.{◌≡◌, ℕ, List, [], ◌∷◌, ◌++◌, refl, ap, ◌∙◌, arith, append_assoc, append-nil}
use Rattle.std.proofs.lemmas.Bool.Decides.{nat_tests}
use Rattle.pj_line.specs.Lines.{pieces, onto}
use Rattle.pj_line.specs.Buffers.IsPiece.{fed_piece, last_piece}
use Rattle.pj_line.specs.PieceLaws.{FedPieceIsFirst, LastPieceIsAll, CutPieceIsFirst}

pub pieces_at_other : (b : ℕ) (bs : List ℕ) → (b ≡ 10 → ⊥) → pieces (b ∷ bs) ≡ onto b (pieces bs)
pieces_at_other b bs is_not = grind (arith, nat_tests)

pub fed_piece_is_first : FedPieceIsFirst
fed_piece_is_first [] rest none = refl
fed_piece_is_first (b ∷ bs) rest none = pieces_at_other b (bs ++ 10 ∷ rest) none.0 ∙ ap (onto b) (fed_piece_is_first bs rest none.1)

pub last_piece_is_all : LastPieceIsAll
last_piece_is_all [] none some = absurd (omega arith)
last_piece_is_all (b ∷ []) none some = pieces_at_other b [] none.0
last_piece_is_all (b ∷ c ∷ bs) none some = pieces_at_other b (c ∷ bs) none.0 ∙ ap (onto b) (last_piece_is_all (c ∷ bs) none.1 (omega arith))

pub cut_piece_is_first : CutPieceIsFirst
cut_piece_is_first _ _ _ left _ (fed_piece piece rest ended none) at_end = ap pieces (append_assoc piece (10 ∷ rest) left) ∙ fed_piece_is_first piece (rest ++ left) none
cut_piece_is_first _ _ _ left _ (last_piece piece none some) at_end = rw (at_end refl, append-nil piece) (last_piece_is_all piece none some)
