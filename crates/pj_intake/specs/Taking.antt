-- What a contract sees of an intake.
use Rattle.std.specs.Prelude.{◌≡◌, ◌<◌, ◌≤◌, ◌⊎◌, ℕ, ◌+◌, ◌^◌, Bool, true, not, ◌&&◌, List, [], length, Option, None, is_none}
use Rattle.pj_shape.specs.declared.columns.Column.{Column}
use Rattle.pj_line.specs.Buffers.{Buffered, line_is_held}
use Rattle.pj_element.specs.Elements.{width}
use Rattle.pj_element.specs.Accepted.{reads_of}
use Rattle.pj_line.specs.Fed.{AreFed}
use Rattle.pj_intake.specs.SeenLines.{IsSeen}
use Rattle.pj_intake.specs.declared.seen.Seen.{Seen}
use Rattle.pj_intake.specs.declared.intake.IntakeStop.{IntakeStop}

-- The columns of the stream, the lines that are buffered, what is kept of those that were judged, and the stop that was
-- answered
pub record IntakeState : Type 0 where
  pub columns : List Column
  pub buffer : Buffered
  pub seen : Seen
  pub stopped : Option IntakeStop

-- an intake: its source, and what it keeps beside
pub record Taking (S : Type 0) : Type 0 where
  pub source : S
  pub state : IntakeState

-- no stop was answered, the end was not read, and no line that is not skipped is held: the next step may want a read
abbrev pub waits_for_read : IntakeState → Bool
waits_for_read state = is_none state.stopped && not (line_is_held state.buffer)

-- what is kept is of the lines of these bytes: how many they are, their punctuations and their tally
abbrev pub HasJudged : IntakeState → List ℕ → Type 0
HasJudged state judged = IsSeen (reads_of state.columns judged) state.seen.line state.seen.store.kept state.seen.tally

-- An intake that judged the lines of these bytes and goes on. The bytes end with a line feed, or they are all of the source;
-- those that are held stand behind them
pub record IsOpen (state : IntakeState) (judged : List ℕ) : Type 0 where
  pub has_judged : HasJudged state judged
  pub arity : state.seen.store.arity ≡ width state.columns
  pub size : state.buffer.size ≡ 65536
  pub running : state.buffer.stopped ≡ None
  pub whole : AreFed judged ⊎ ((state.buffer.ended ≡ true) × (state.buffer.held ≡ []))
  pub count : state.buffer.count ≡ length judged + length state.buffer.held
  pub within : state.buffer.count ≤ state.buffer.limit
  pub most : state.buffer.limit < 2 ^ 64

-- the lines of some bytes were judged, whether it goes on behind them or has stopped
pub record Stands (state : IntakeState) : Type 0 where
  pub judged : List ℕ
  pub has_judged : HasJudged state judged
  pub goes_on : state.stopped ≡ None → IsOpen state judged
