-- How the next piece is looked for.
use Rattle.std.specs.Prelude.{◌≡◌, ℕ, ◌+◌, ◌≤◌, ◌<◌, Bool, true, false, List, [], ◌∷◌, ◌++◌, length, slice_range, Result, Ok, Err, Option, Some, None, ⊤, IsTrue}
use denote.Ref.{Bor}
use Rattle.pj_io.specs.Causes.{Rose}
use Rattle.pj_io.specs.Pieces.{Consumes}
use Rattle.pj_io.specs.States.{SourceState}
use Rattle.pj_line.specs.declared.buffer.Line.{Line}
use Rattle.pj_line.specs.declared.buffer.Line.TheVariants.{Whole, TooLong, End}
use Rattle.pj_line.specs.declared.buffer.LineStop.{LineStop}
use Rattle.pj_line.specs.declared.buffer.LineStop.TheVariants.{Fault, ByteLimit}
use Rattle.pj_line.specs.declared.pieces.FoundPiece.{FoundPiece}
use Rattle.pj_line.specs.declared.pieces.FoundPiece.TheVariants.{Piece, LongPiece, NoPiece}
use Rattle.pj_line.specs.declared.pieces.PieceBuf.{PieceBuf}
use Rattle.pj_line.specs.Lines.{line_of, HasNo}
use Rattle.pj_line.specs.Buffers.{Buffered, Called, IsPiece, KnowsEnd}
use Rattle.pj_line.specs.Held.{held}

-- what the fields of a buffer stand for
abbrev pub buffered : PieceBuf → Buffered
buffered b = record { size = b.size; limit = b.limit; count = b.count; held = held b.window; ended = b.ended; stopped = b.stopped }

-- the line that is lent for what was found in these bytes
abbrev pub IsLent : List ℕ → Result FoundPiece LineStop → Result Line LineStop → Type 0
IsLent items (Ok (Piece start end)) line = (lent : Bor (List ℕ)) × (line ≡ Ok (Whole lent)) × (lent.now ≡ line_of (slice_range items start end))
IsLent items (Ok LongPiece) line = line ≡ Ok TooLong
IsLent items (Ok NoPiece) line = line ≡ Ok End
IsLent items (Err stop) line = line ≡ Err stop

-- a line that is lent for what was found is the one that a call gives
abbrev pub FindsLine : PieceBuf → PieceBuf → Result FoundPiece LineStop → SourceState → SourceState → Type 0
FindsLine old new result before now =
    (line : Result Line LineStop) → IsLent new.window.bytes.items result line → Called (buffered old) (buffered new) line before now

-- what was found stands in the buffer
abbrev pub StandsIn : FoundPiece → List ℕ → Type 0
StandsIn (Piece start end) items = (start ≤ end) × (end ≤ length items)
StandsIn LongPiece items = ⊤
StandsIn NoPiece items = ⊤

-- of these bytes the piece is cut off, at a line feed or at the end, and the others are left
pub data IsCutOff : List ℕ → List ℕ → List ℕ → Bool → Type 0 where
  at_feed : (piece rest : List ℕ) (ended : Bool) → HasNo 10 piece → IsCutOff (piece ++ 10 ∷ rest) piece rest ended
  at_end : (piece : List ℕ) → HasNo 10 piece → IsCutOff piece piece [] true

-- what is found in the bytes that are held, where bytes of the same piece may have been passed over
abbrev pub Finds : Buffered → Bool → Buffered → List ℕ → Option FoundPiece → Type 0
Finds old too_long new items None = HasNo 10 old.held × (old.ended ≡ false) × (new ≡ old)
Finds old too_long new items (Some (Piece start end)) =
    IsPiece old.held (slice_range items start end) new.held new.ended × (length (slice_range items start end) ≤ old.size) × (too_long ≡ false)
Finds old too_long new items (Some LongPiece) =
    (piece : List ℕ) × IsCutOff old.held piece new.held new.ended × (too_long ≡ false → old.size < length piece)
Finds old too_long new items (Some NoPiece) = (old.held ≡ []) × (new.held ≡ []) × (new.ended ≡ true) × (too_long ≡ false)

-- what is found is this piece, where bytes of it may have been passed over
abbrev pub IsTaken : ℕ → List ℕ → Bool → List ℕ → FoundPiece → Type 0
IsTaken size piece too_long items (Piece start end) = (slice_range items start end ≡ piece) × (length piece ≤ size) × (too_long ≡ false)
IsTaken size piece too_long items LongPiece = too_long ≡ false → size < length piece
IsTaken size piece too_long items NoPiece = ⊥

-- bytes without a line feed are passed over, where they are too many or others of their piece were, or they are kept
abbrev pub PassesOver : ℕ → List ℕ → Bool → List ℕ → Bool → Type 0
PassesOver size before too_long now true = (now ≡ []) × (too_long ≡ false → size < length before)
PassesOver size before too_long now false = (now ≡ before) × (too_long ≡ false) × (length before ≤ size)

-- a read added bytes behind those that are held, none of them only at the end; or it did not come to it
abbrev pub ReadsOn : Buffered → Buffered → Result Unit LineStop → SourceState → SourceState → Type 0
ReadsOn old new (Ok done) before now =
    (piece : List ℕ) × (new ≡ record old { count = old.count + length piece; held = old.held ++ piece; ended = new.ended })
    × (new.ended ≡ false → 0 < length piece)
    × (IsTrue before.told → Consumes before now piece)
    × KnowsEnd new now
ReadsOn old new (Err Fault) before now =
    (new ≡ record old { stopped = Some Fault }) × Rose before.faults now.faults × (IsTrue before.told → Consumes before now [])
ReadsOn old new (Err ByteLimit) before now =
    (new ≡ record old { stopped = Some ByteLimit }) × (old.count ≡ old.limit) × (IsTrue before.told → Consumes before now [])
