-- What the next piece of a source says.
use Rattle.std.specs.Prelude.{◌≡◌, ◌≤◌, ◌+◌, ℕ, true, false, List, [], ◌++◌, length, Option, Some, None, Result, Ok, Err, IsTrue, OnOk}
use Rattle.pj_shape.specs.declared.columns.Column.{Column}
use Rattle.pj_io.specs.Causes.{Rose}
use Rattle.pj_io.specs.Pieces.{Consumes}
use Rattle.pj_io.specs.States.{SourceState}
use Rattle.pj_line.specs.Lines.{HasNo}
use Rattle.pj_line.specs.Buffers.{Buffered, IsPiece, KnowsEnd}
use Rattle.pj_element.specs.declared.element.Read.{Read}
use Rattle.pj_element.specs.Elements.{reading_at}
use Rattle.pj_intake.specs.declared.intake.IntakeStop.{IntakeStop}
use Rattle.pj_intake.specs.declared.intake.IntakeStop.TheVariants.{ReadFault, ByteLimit, NoMemory}

-- these bytes begin with a piece, behind which the buffer holds the others
abbrev pub BeginsWithPiece : List ℕ → Buffered → Type 0
BeginsWithPiece bytes buffer = (piece : List ℕ) × IsPiece bytes piece buffer.held buffer.ended

-- what is said of the bytes that are in no piece so far: what their first piece says, none at the end, or a stop
abbrev pub GivesRead : List Column → List ℕ → Buffered → Result (Option Read) IntakeStop → ℕ → ℕ → Type 0
GivesRead columns bytes new (Ok (Some read)) faults_before faults_now =
    (piece : List ℕ) × IsPiece bytes piece new.held new.ended × (read ≡ reading_at columns piece)
GivesRead columns bytes new (Ok None) faults_before faults_now = (bytes ≡ []) × (new.held ≡ []) × (new.ended ≡ true)
GivesRead columns bytes new (Err ReadFault) faults_before faults_now = HasNo 10 bytes × Rose faults_before faults_now × (new.ended ≡ false)
GivesRead columns bytes new (Err ByteLimit) faults_before faults_now = HasNo 10 bytes × (new.count ≡ new.limit) × (new.ended ≡ false)
GivesRead columns bytes new (Err NoMemory) faults_before faults_now = BeginsWithPiece bytes new

-- one piece more was asked of a buffer that has not stopped, and these bytes of the source were taken
pub record ReadsNext (columns : List Column) (old new : Buffered) (before now : SourceState) (result : Result (Option Read) IntakeStop) : Type 0 where
  pub bytes : List ℕ
  pub gives : GivesRead columns (old.held ++ bytes) new result before.faults now.faults
  pub counted : new.count ≡ old.count + length bytes
  pub within : new.count ≤ new.limit
  pub same_size : new.size ≡ old.size
  pub same_limit : new.limit ≡ old.limit
  pub stays_ended : old.ended ≡ true → (bytes ≡ []) × (new.ended ≡ true)
  pub running : OnOk result (new.stopped ≡ None)
  pub consumes : IsTrue before.told → Consumes before now bytes
  pub at_end : KnowsEnd new now
