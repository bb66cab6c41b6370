-- The steps of an intake: what becomes of the lines of a source, one by one.
use Rattle.std.specs.Prelude.{◌≡◌, ℕ, ⊤, true, List, [], ◌∷◌, ◌++◌, length, Option, Some, None, Result, Ok, Err, IsTrue}
use Rattle.pj_shape.specs.declared.columns.Column.{Column}
use Rattle.pj_shape.specs.Columns.{domains_of}
use Rattle.pj_io.specs.Causes.{Rose}
use Rattle.pj_io.specs.States.{SourceState}
use Rattle.pj_pattern.specs.Fitting.{row_fits, punct_fits}
use Rattle.pj_pattern.specs.declared.element.Element.{Element}
use Rattle.pj_pattern.specs.declared.element.Element.TheVariants.{Tuple as AcceptedTuple, Punct as AcceptedPunct}
use Rattle.pj_line.specs.Lines.{HasNo}
use Rattle.pj_element.specs.declared.element.Reject.{Reject}
use Rattle.pj_element.specs.Accepted.{Fate, Passed, Taken, Refused, taken_of, fates_of, rejects_of}
use Rattle.pj_line.specs.Fed.{AreFed}
use Rattle.pj_intake.specs.Reads.{BeginsWithPiece}
use Rattle.pj_intake.specs.Taking.{IntakeState, HasJudged, IsOpen}
use Rattle.pj_intake.specs.declared.intake.Step.{Step}
use Rattle.pj_intake.specs.declared.intake.Step.TheVariants.{Tuple, Punct, Rejected, End}
use Rattle.pj_intake.specs.declared.intake.IntakeStop.{IntakeStop}
use Rattle.pj_intake.specs.declared.intake.IntakeStop.TheVariants.{ReadFault, ByteLimit, NoMemory}

-- the step of the line with this number and fate, if it is not skipped
abbrev pub step_in : ℕ → Fate → Option Step
step_in n Passed = None
step_in n (Taken (AcceptedTuple row)) = Some (Tuple row)
step_in n (Taken (AcceptedPunct punct)) = Some (Punct punct)
step_in n (Refused why) = Some (Rejected n why)

-- the element that a step accepts
abbrev pub accepted_in : Step → List Element
accepted_in (Tuple row) = AcceptedTuple row ∷ []
accepted_in (Punct punct) = AcceptedPunct punct ∷ []
accepted_in (Rejected n why) = []
accepted_in End = []

-- the reject that it notes, with the number of its line
abbrev pub rejected_in : Step → List (ℕ × Reject)
rejected_in (Tuple row) = []
rejected_in (Punct punct) = []
rejected_in (Rejected n why) = (n, why) ∷ []
rejected_in End = []

-- what a step accepts fits the columns
abbrev pub FitsStep : List Column → Step → Type 0
FitsStep columns (Tuple row) = row_fits (domains_of columns) row ≡ true
FitsStep columns (Punct punct) = punct_fits (domains_of columns) punct ≡ true
FitsStep columns (Rejected n why) = ⊤
FitsStep columns End = ⊤

-- the step of an answer
abbrev pub step_answered : Result Step IntakeStop → Option Step
step_answered (Ok step) = Some step
step_answered (Err stop) = None

-- its stop
abbrev pub stop_answered : {A : Type 0} → Result A IntakeStop → Option IntakeStop
stop_answered (Ok step) = None
stop_answered (Err stop) = Some stop

-- the elements and the rejects of the lines of these bytes are those of fewer bytes, and what the step adds
pub record Adds (columns : List Column) (judged more : List ℕ) (step : Step) : Type 0 where
  pub elements : taken_of (fates_of columns (judged ++ more)) ≡ taken_of (fates_of columns judged) ++ accepted_in step
  pub rejects : rejects_of 1 (fates_of columns (judged ++ more)) ≡ rejects_of 1 (fates_of columns judged) ++ rejected_in step

-- the lines of these bytes add nothing
pub record AddNothing (columns : List Column) (judged more : List ℕ) : Type 0 where
  pub elements : taken_of (fates_of columns (judged ++ more)) ≡ taken_of (fates_of columns judged)
  pub rejects : rejects_of 1 (fates_of columns (judged ++ more)) ≡ rejects_of 1 (fates_of columns judged)

-- they add one step, or nothing
abbrev pub AddsSome : List Column → List ℕ → List ℕ → Option Step → Type 0
AddsSome columns judged more None = AddNothing columns judged more
AddsSome columns judged more (Some step) = Adds columns judged more step

-- Where an intake stands that judged the lines of these bytes and took others behind them. It goes on and holds the others;
-- or it stopped behind a line feed, since a read failed or so many bytes were taken, and the others have no line feed, or since
-- memory could not be had for the line that they begin with
abbrev pub StandsAt : Option IntakeStop → IntakeState → List ℕ → List ℕ → ℕ → ℕ → Type 0
StandsAt None state judged rest faults_before faults_now = IsOpen state judged × (rest ≡ state.buffer.held)
StandsAt (Some ReadFault) state judged rest faults_before faults_now = AreFed judged × HasNo 10 rest × Rose faults_before faults_now
StandsAt (Some ByteLimit) state judged rest faults_before faults_now = AreFed judged × HasNo 10 rest × (length (judged ++ rest) ≡ state.buffer.limit)
StandsAt (Some NoMemory) state judged rest faults_before faults_now = AreFed judged × BeginsWithPiece rest state.buffer

-- What a call did of an intake that had judged the lines of these bytes. It judged the lines of more bytes, which add its step,
-- or nothing at a stop. Whatever it answers, what it keeps is of the lines that were judged
pub record NextGives (new : IntakeState) (before now : SourceState) (judged : List ℕ) (result : Result Step IntakeStop) : Type 0 where
  pub more : List ℕ
  pub rest : List ℕ
  pub has_judged : HasJudged new (judged ++ more)
  pub adds : AddsSome new.columns judged more (step_answered result)
  pub stands : StandsAt (stop_answered result) new (judged ++ more) rest before.faults now.faults
  pub taken : IsTrue now.told → now.taken ≡ judged ++ more ++ rest
  pub at_end : result ≡ Ok End → (new.buffer.ended ≡ true) × (rest ≡ []) × (IsTrue now.told → now.left ≡ [])

-- the same of an intake that goes on behind any bytes which, where the source tells, were taken before those that it holds
abbrev pub GoesOn : IntakeState → IntakeState → SourceState → SourceState → Result Step IntakeStop → Type 0
GoesOn old new before now result =
    (judged : List ℕ) → IsOpen old judged → (IsTrue before.told → before.taken ≡ judged ++ old.buffer.held) → NextGives new before now judged result
