-- What a buffer of lines keeps, and what one call on it gives.
use Rattle.std.specs.Prelude.{◌≡◌, ℕ, ◌+◌, ◌≤◌, ◌<◌, Bool, true, false, not, ◌||◌, nat_lt, List, [], ◌∷◌, ◌++◌, length, Option, Some, None, is_some, Result, Ok, Err, IsTrue}
use Rattle.std.specs.List.{list_any}
use Rattle.pj_io.specs.Causes.{Rose}
use Rattle.pj_io.specs.Pieces.{Consumes}
use Rattle.pj_io.specs.States.{SourceState}
use Rattle.pj_line.specs.declared.buffer.Line.{Line}
use Rattle.pj_line.specs.declared.buffer.Line.TheVariants.{Whole, TooLong, End}
use Rattle.pj_line.specs.declared.buffer.LineStop.{LineStop}
use Rattle.pj_line.specs.declared.buffer.LineStop.TheVariants.{Fault, ByteLimit}
use Rattle.pj_line.specs.Lines.{fed_pieces, is_skipped, line_of, HasNo}

-- the longest line and the most bytes that it takes, how many bytes were taken, those that are in no piece that was given,
-- whether the end was read, and the stop that it answered
pub record Buffered : Type 0 where
  pub size : ℕ
  pub limit : ℕ
  pub count : ℕ
  pub held : List ℕ
  pub ended : Bool
  pub stopped : Option LineStop

-- whether the piece is too long, or its line is not skipped
abbrev pub piece_counts : ℕ → List ℕ → Bool
piece_counts size piece = nat_lt size (length piece) || not (is_skipped (line_of piece))

-- a stop was answered, the end was read, or a line that is not skipped is held up to its line feed: what comes next comes without a read
abbrev pub line_is_held : Buffered → Bool
line_is_held buffer = is_some buffer.stopped || (buffer.ended || list_any (piece_counts buffer.size) (fed_pieces buffer.held))

-- nothing was taken
abbrev pub fresh : ℕ → ℕ → Buffered
fresh size limit = record { size = size; limit = limit; count = 0; held = []; ended = false; stopped = None }

-- the piece was behind a line feed or, not empty, at the end of the file; these bytes are left behind it
pub data IsPiece : List ℕ → List ℕ → List ℕ → Bool → Type 0 where
  fed_piece : (piece rest : List ℕ) (ended : Bool) → HasNo 10 piece → IsPiece (piece ++ 10 ∷ rest) piece rest ended
  last_piece : (piece : List ℕ) → HasNo 10 piece → 0 < length piece → IsPiece piece piece [] true

-- what a call gives that found these bytes, held ones and new ones, behind the pieces that were given
abbrev pub Gives : Buffered → List ℕ → Buffered → Result Line LineStop → ℕ → ℕ → Type 0
Gives old bytes new (Ok (Whole line)) faults_before faults_now =
    (piece : List ℕ) × IsPiece bytes piece new.held new.ended × (length piece ≤ old.size) × (line.now ≡ line_of piece) × (new.stopped ≡ None)
Gives old bytes new (Ok TooLong) faults_before faults_now =
    (piece : List ℕ) × IsPiece bytes piece new.held new.ended × (old.size < length piece) × (new.stopped ≡ None)
Gives old bytes new (Ok End) faults_before faults_now = (bytes ≡ []) × (new.held ≡ []) × (new.ended ≡ true) × (new.stopped ≡ None)
Gives old bytes new (Err Fault) faults_before faults_now = HasNo 10 bytes × Rose faults_before faults_now × (new.ended ≡ false) × (new.stopped ≡ Some Fault)
Gives old bytes new (Err ByteLimit) faults_before faults_now = HasNo 10 bytes × (new.count ≡ new.limit) × (new.ended ≡ false) × (new.stopped ≡ Some ByteLimit)

-- one call on a buffer that has not stopped takes these bytes of the source and gives the next piece, the end or a stop
pub record Advances (old : Buffered) (taken : List ℕ) (new : Buffered) (result : Result Line LineStop) (faults_before faults_now : ℕ) : Type 0 where
  pub gives : Gives old (old.held ++ taken) new result faults_before faults_now
  pub counted : new.count ≡ old.count + length taken
  pub within : new.count ≤ new.limit
  pub same_size : new.size ≡ old.size
  pub same_limit : new.limit ≡ old.limit
  -- a line feed that is held is found before more is read, and nothing is read behind the end
  pub waits : (HasNo 10 old.held → ⊥) → taken ≡ []
  pub stays_ended : old.ended ≡ true → (taken ≡ []) × (new.ended ≡ true)

-- after a stop each call gives the same stop, takes nothing and changes nothing; else it goes on
abbrev pub GoesOn : Option LineStop → Buffered → List ℕ → Buffered → Result Line LineStop → ℕ → ℕ → Type 0
GoesOn None old taken new result faults_before faults_now = Advances old taken new result faults_before faults_now
GoesOn (Some stop) old taken new result faults_before faults_now = (result ≡ Err stop) × (taken ≡ []) × (new ≡ old)

-- once a read for this buffer has told that the source has ended, nothing is left of it, where it tells
abbrev pub KnowsEnd : Buffered → SourceState → Type 0
KnowsEnd buffer source = buffer.ended ≡ true → IsTrue source.told → source.left ≡ []

-- what a call did: of the source's bytes left, where it tells them, the next ones were taken, and none is left at the end
pub record Called (old new : Buffered) (result : Result Line LineStop) (before now : SourceState) : Type 0 where
  pub bytes : List ℕ
  pub goes_on : GoesOn old.stopped old bytes new result before.faults now.faults
  pub consumes : IsTrue before.told → Consumes before now bytes
  pub at_end : KnowsEnd new now
