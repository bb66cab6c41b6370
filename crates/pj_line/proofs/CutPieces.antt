-- Pieces that are cut off the bytes that are held.
use Rattle.std.proofs.Common.{◌≡◌, ℕ, ◌+◌, ◌<◌, ◌≤◌, Bool, true, false, List, [], ◌∷◌, ◌++◌, Some, length, take, drop, slice_range, refl, sym, ◌∙◌, subst, append_assoc}
use Rattle.pj_line.specs.declared.pieces.FoundPiece.{FoundPiece}
use Rattle.pj_line.specs.declared.pieces.FoundPiece.TheVariants.{Piece, LongPiece, NoPiece}
use Rattle.pj_line.specs.Lines.{HasNo}
use Rattle.pj_line.specs.Buffers.{Buffered, IsPiece}
use Rattle.pj_line.specs.Buffers.IsPiece.{fed_piece, last_piece}
use Rattle.pj_line.specs.FirstFeed.{IsFeedAt}
use Rattle.pj_line.specs.Searches.{Finds, IsTaken, IsCutOff}
use Rattle.pj_line.specs.Searches.IsCutOff.{at_feed, at_end}
use Rattle.pj_line.proofs.Feeds.{has_no_both}

-- a piece in front of a line feed
pub found_at_feed : (old new : Buffered) (too_long : Bool) (items : List ℕ) (len : ℕ) (found : FoundPiece) → IsFeedAt old.held (Some len) → new.held ≡ drop (len + 1) old.held → IsTaken old.size (take len old.held) too_long items found → Finds old too_long new items (Some found)
found_at_feed old new too_long items len (Piece start end) feed rest taken = (
  subst (λ (bytes : List ℕ). IsPiece bytes (slice_range items start end) new.held new.ended) (sym (feed.2 ∙ rw (taken.0, rest) refl)) (fed_piece _ new.held new.ended (subst (HasNo 10) (sym taken.0) feed.1)),
  subst (λ (piece : List ℕ). length piece ≤ old.size) (sym taken.0) taken.1,
  taken.2,
)
found_at_feed old new too_long items len LongPiece feed rest taken = (
  take len old.held,
  subst (λ (bytes : List ℕ). IsCutOff bytes (take len old.held) new.held new.ended) (sym (feed.2 ∙ rw rest refl)) (at_feed _ new.held new.ended feed.1),
  taken,
)
found_at_feed old new too_long items len NoPiece feed rest taken = absurd taken

-- all that is held, at the end
pub found_at_end : (old new : Buffered) (too_long : Bool) (items piece : List ℕ) (found : FoundPiece) → HasNo 10 old.held → piece ≡ old.held → new.held ≡ [] → new.ended ≡ true → (too_long ≡ false → 0 < length old.held) → IsTaken old.size piece too_long items found → Finds old too_long new items (Some found)
found_at_end old new too_long items piece (Piece start end) none all rest ended some taken =
    let same : slice_range items start end ≡ old.held = taken.0 ∙ all in (
      rw (rest, ended, same) (last_piece old.held none (some taken.2)),
      subst (λ (bytes : List ℕ). length bytes ≤ old.size) (sym taken.0) taken.1,
      taken.2,
    )
found_at_end old new too_long items piece LongPiece none all rest ended some taken = (
  old.held,
  rw (rest, ended) (at_end old.held none),
  subst (λ (bytes : List ℕ). too_long ≡ false → old.size < length bytes) all taken,
)
found_at_end old new too_long items piece NoPiece none all rest ended some taken = absurd taken

-- with bytes that were passed over
pub cut_piece : (dropped bytes piece rest : List ℕ) (ended : Bool) → HasNo 10 dropped → IsCutOff bytes piece rest ended → 0 < length (dropped ++ piece) → IsPiece (dropped ++ bytes) (dropped ++ piece) rest ended
cut_piece dropped _ _ _ _ none (at_feed piece rest ended no_feed) some =
    subst (λ (bytes : List ℕ). IsPiece bytes (dropped ++ piece) rest ended) (append_assoc dropped piece (10 ∷ rest)) (fed_piece (dropped ++ piece) rest ended (has_no_both 10 dropped piece none no_feed))
cut_piece dropped _ _ _ _ none (at_end piece no_feed) some = last_piece (dropped ++ piece) (has_no_both 10 dropped piece none no_feed) some
