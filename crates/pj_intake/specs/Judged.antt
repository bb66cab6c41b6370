-- What becomes of the bytes of a source as their lines are judged, one line or some.
use Rattle.std.specs.Prelude.{◌≡◌, ◌≤◌, ◌+◌, ◌-◌, ℕ, true, List, [], ◌++◌, length, Option, Some, None, Result, Ok, Err, IsTrue}
use Rattle.pj_shape.specs.declared.columns.Column.{Column}
use Rattle.pj_io.specs.Pieces.{Consumes}
use Rattle.pj_io.specs.States.{SourceState}
use Rattle.pj_line.specs.Buffers.{Buffered, KnowsEnd}
use Rattle.pj_intake.specs.Taking.{IntakeState, HasJudged, IsOpen}
use Rattle.pj_intake.specs.Steps.{AddsSome, StandsAt}
use Rattle.pj_intake.specs.declared.seen.Seen.{Seen}
use Rattle.pj_intake.specs.declared.intake.Step.{Step}
use Rattle.pj_intake.specs.declared.intake.Step.TheVariants.{End}
use Rattle.pj_intake.specs.declared.intake.IntakeStop.{IntakeStop}

-- an intake that has not stopped
abbrev pub running : List Column → Buffered → Seen → IntakeState
running columns buffer seen = record { columns = columns; buffer = buffer; seen = seen; stopped = None }

-- so many bytes can still be judged
abbrev pub to_judge : Buffered → ℕ
to_judge buffer = buffer.limit + length buffer.held - buffer.count

-- the step of the line that was judged, where it is not skipped
abbrev pub step_judged : Result (Option Step) IntakeStop → Option Step
step_judged (Ok step) = step
step_judged (Err stop) = None

-- of the bytes that were found behind those that were judged, the lines of more were judged, which add one step or nothing
pub record Judges (new : IntakeState) (judged found : List ℕ) (step : Option Step) (stop : Option IntakeStop) (faults_before faults_now : ℕ) : Type 0 where
  pub more : List ℕ
  pub rest : List ℕ
  pub found_so : found ≡ more ++ rest
  pub has_judged : HasJudged new (judged ++ more)
  pub adds : AddsSome new.columns judged more step
  pub stands : StandsAt stop new (judged ++ more) rest faults_before faults_now
  pub at_end : step ≡ Some End → (new.buffer.ended ≡ true) × (rest ≡ [])

-- some bytes of the source were taken and, whatever was judged before, lines of theirs were judged
pub record JudgesOn (old new : IntakeState) (before now : SourceState) (step : Option Step) (stop : Option IntakeStop) : Type 0 where
  pub bytes : List ℕ
  pub judges : (judged : List ℕ) → IsOpen old judged → Judges new judged (old.buffer.held ++ bytes) step stop before.faults now.faults
  pub consumes : IsTrue before.told → Consumes before now bytes
  pub at_end : KnowsEnd new.buffer now
  pub same_limit : new.buffer.limit ≡ old.buffer.limit
  pub same_told : now.told ≡ before.told
  pub same_name : now.name ≡ before.name
  pub later : before.faults ≤ now.faults
