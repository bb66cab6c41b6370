-- What a turn of a core hands out, and how it ends.
use Rattle.std.specs.Prelude.{◌≡◌, ◌<◌, ℕ, ⊤, List, ◌++◌, length, Option, Some, None, Result, IsTrue, slice_get}
use Rattle.pj_run.specs.Jobs.{Job}
use Rattle.pj_plan.specs.declared.node.PlanNode.{PlanNode}
use Rattle.pj_plan.specs.Nodes.{stream_columns}
use Rattle.pj_pattern.specs.declared.element.Element.{Element}
use Rattle.pj_events.specs.declared.events.Entry.{Entry}
use Rattle.pj_events.specs.declared.events.Out.{Out}
use Rattle.pj_events.specs.declared.events.Stop.{Stop}
use Rattle.pj_pattern.specs.Fitting.{FitsDomains}
use Rattle.pj_shape.specs.Columns.{domains_of}
use Rattle.pj_events.specs.Outcomes.{elements_out, outputs_of, elements_of as arrived_at}
use Rattle.pj_events.specs.Limits.{StaysWithin, BeginsBeyond, StopsAt}
use Rattle.pj_events.specs.OneThread.{Turn, arrival_of}
use Rattle.pj_core.specs.Cores.{CoreState, StandsFor, MayFollow, nodes_after, nodes_in}
use Rattle.pj_core.specs.Calls.{MakesTurn, turn_behind}
use Rattle.pj_report.specs.declared.writer.Form.{Form}
use Rattle.pj_report.specs.declared.writer.ResultWriter.{ResultWriter}
use Rattle.pj_run.specs.declared.stops.TurnStop.{TurnStop}
use Rattle.pj_run.specs.declared.stops.TurnStop.TheVariants.{Limit as TurnLimit, WriteFailed as TurnFailed, NoMemory as TurnMemory, Cut as TurnCut}
use Rattle.pj_run.specs.declared.stops.RunStop.{RunStop}
use Rattle.pj_run.specs.declared.stops.RunStop.TheVariants.{ReadFault, TooLarge, Limit, Refused, WriteFailed, NoMemory, Cut, CutRead, CutLarge, CutRefused}
use Rattle.pj_feed.specs.Feeds.{FeedState, fed_elements}
use Rattle.pj_io.specs.States.{SinkState}
use Rattle.pj_report.specs.Forms.{shown, taken_so_far}
use Rattle.pj_run.specs.Cuts.{turn_cut}
use Rattle.pj_report.specs.Written.{flat, FrontOf, WritesBy}
use Rattle.pj_run.specs.Ends.{EndsBefore, EndsAtBytes, EndsAtLimit, EndsCut, EndsCutBefore, EndsCutRefused, EndsRefused, EndsCutAtBytes}
use Rattle.pj_events.specs.declared.events.Stop.TheVariants.{Limit as CoreLimit, NoMemory as CoreMemory}

-- the turn is of one of these streams, and what it brings fits the columns, where it is no closing
abbrev pub IsTurnOf : List PlanNode → Turn → Type 0
IsTurnOf streams turn = (turn.stream < length streams) × (turn.closing ≡ 0 → FitsDomains (domains_of (stream_columns streams turn.stream)) turn.element)

-- all that the turn hands out behind this history
abbrev pub turn_outs : CoreState → List Entry → Turn → List Out
turn_outs core history turn = outputs_of core.plan.trace (nodes_after core history) (turn_behind core history turn)

-- the outputs of a front of the turn's entries, none of which brings an element beyond a limit, up to the stop
pub record HandsFront (core : CoreState) (history : List Entry) (turn : Turn) (outs : List Out) (stop : Stop) : Type 0 where
  pub front : List Entry
  pub back : List Entry
  pub parts : turn_behind core history turn ≡ front ++ back
  pub within : StaysWithin core.limit (nodes_in core) history front
  pub stops : StopsAt core.limit (nodes_in core) (history ++ front) back stop
  pub outs_are : outs ≡ outputs_of core.plan.trace (nodes_after core history) front

-- the core stopped in the turn, and handed out what it had until then: exactly the outputs of the front of the turn's entries
-- that were made
pub record StopsBehind (old : CoreState) (turn : Turn) (outs : List Out) (stop : Stop) : Type 0 where
  pub hands : (history : List Entry) → StandsFor old history → MayFollow old history (arrival_of turn) → HandsFront old history turn outs stop

-- the whole turn was made, or the core stopped in it
abbrev pub Turned : CoreState → CoreState → Turn → List Out → Option Stop → Type 0
Turned old new turn outs None = MakesTurn old new turn outs
Turned old new turn outs (Some stop) = StopsBehind old turn outs stop

-- the whole turn was made, and the writer has taken what it handed out
pub record TurnDone (old new : CoreState) (turn : Turn) (before after : ResultWriter) : Type 0 where
  pub outs : List Out
  pub makes : MakesTurn old new turn outs
  pub taken : (form : Form) (es : List Element) → before ≡ taken_so_far form es → after ≡ taken_so_far form (es ++ elements_out outs)

-- where the sink is told: behind each history that the core stands for and that the turn may follow, the lines of what the turn hands
-- out were written (none where results are sorted), or as much of them as the stop leaves
abbrev pub TurnWrites : {T : Type 0} → Form → CoreState → Turn → SinkState → SinkState → Result T TurnStop → Type 0
TurnWrites form core turn old new result =
    IsTrue new.told → (history : List Entry) → StandsFor core history → MayFollow core history (arrival_of turn)
    → WritesBy turn_cut (shown form core.plan.nodes (turn_outs core history turn)) old new result

-- an entry of the turn is the first that brings an element beyond the limit, at this node
pub record BreaksOff (core : CoreState) (history : List Entry) (turn : Turn) (node : ℕ) : Type 0 where
  pub front : List Entry
  pub back : List Entry
  pub parts : turn_behind core history turn ≡ front ++ back
  pub within : StaysWithin core.limit (nodes_in core) history front
  pub beyond : BeginsBeyond core.limit (nodes_in core) (history ++ front) back node

-- the lines that are written of what these entries hand out behind the history: none where results are sorted
abbrev pub lines_of : Form → CoreState → List Entry → List Entry → List (List ℕ)
lines_of form core history front = shown form core.plan.nodes (outputs_of core.plan.trace (nodes_after core history) front)

-- where a limit stopped the turn and the sink is told, exactly the lines of the outputs up to that entry were written
pub record EndsTurn (form : Form) (core : CoreState) (history : List Entry) (turn : Turn) (node : ℕ) (old new : SinkState) : Type 0 where
  pub breaks : BreaksOff core history turn node
  pub written : IsTrue new.told → new.written ≡ old.written ++ flat (lines_of form core history breaks.front)

-- where the output failed then, a front of their bytes was
pub record CutTurn (form : Form) (core : CoreState) (history : List Entry) (turn : Turn) (node : ℕ) (old new : SinkState) : Type 0 where
  pub breaks : BreaksOff core history turn node
  pub written : IsTrue new.told → FrontOf (flat (lines_of form core history breaks.front)) old.written new.written

abbrev pub CutsTurn : Stop → Form → CoreState → List Entry → Turn → SinkState → SinkState → Type 0
CutsTurn (CoreLimit node) form core history turn old new = CutTurn form core history turn node old new
CutsTurn CoreMemory form core history turn old new = ⊤

abbrev pub TurnStops : TurnStop → Form → CoreState → List Entry → Turn → SinkState → SinkState → Type 0
TurnStops (TurnLimit node) form core history turn old new = EndsTurn form core history turn node old new
TurnStops TurnFailed form core history turn old new = ⊤
TurnStops TurnMemory form core history turn old new = ⊤
TurnStops (TurnCut stop) form core history turn old new = CutsTurn stop form core history turn old new

-- what the stop leaves behind each history that the core stands for and that the turn may follow
abbrev pub TurnStopsBehind : TurnStop → Form → CoreState → Turn → SinkState → SinkState → Type 0
TurnStopsBehind stop form core turn old new =
    (history : List Entry) → StandsFor core history → MayFollow core history (arrival_of turn) → TurnStops stop form core history turn old new

-- what a core's stop leaves where its last lines could not be written
abbrev pub CutEnd : Stop → Job → List (List ℕ) → List ℕ → List ℕ → Type 0
CutEnd (CoreLimit node) job files before lines = EndsCut job files node before lines
CutEnd CoreMemory job files before lines = ⊤

-- What the stop of a run's turns leaves: where a stream's turn could not be made, the lines of the outputs up to it, and where a
-- read of its file failed, exactly the elements arrived that are accepted of the lines which end with a line feed in the bytes
-- taken; at a limit of bytes the same of those; at one of elements, the lines of the outputs up to the entry that brought one beyond
-- it; where a step of a script is not enabled, those of all outputs until then, which the history ends with; and where the output
-- failed behind such a stop, a front of the bytes of these lines
abbrev pub TurnsEnd : RunStop → Job → List (List ℕ) → List FeedState → List ℕ → List ℕ → Type 0
TurnsEnd (ReadFault stream) job files feeds before lines =
    (feed : FeedState) × (slice_get feeds stream ≡ Some feed) × (ends : EndsBefore job files stream before lines)
    × (arrived_at stream ends.front ≡ fed_elements feed.intake.columns feed.source.taken)
TurnsEnd (TooLarge stream) job files feeds before lines = EndsAtBytes job files stream before lines
TurnsEnd (Limit node) job files feeds before lines = EndsAtLimit job files node before lines
TurnsEnd (Refused line) job files feeds before lines = EndsRefused job files before lines
TurnsEnd WriteFailed job files feeds before lines = ⊤
TurnsEnd NoMemory job files feeds before lines = ⊤
TurnsEnd (Cut stop) job files feeds before lines = CutEnd stop job files before lines
TurnsEnd (CutRead stream) job files feeds before lines =
    (feed : FeedState) × (slice_get feeds stream ≡ Some feed) × (ends : EndsCutBefore job files stream before lines)
    × (arrived_at stream ends.front ≡ fed_elements feed.intake.columns feed.source.taken)
TurnsEnd (CutLarge stream) job files feeds before lines = EndsCutAtBytes job files stream before lines
TurnsEnd (CutRefused line) job files feeds before lines = EndsCutRefused job files before lines
